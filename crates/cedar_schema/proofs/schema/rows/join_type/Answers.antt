use Rattle.std.proofs.Common.{◌≡◌, ◌||◌, ℕ, List, [], Option, Some, ap, ◌∙◌, subst, unwrap_or}
use Rattle.std.specs.BTreeMap.{Updates, get}
use Rattle.base_bits.specs.Bits.{has_bit}
use Rattle.cedar_value.specs.Order.{text_cmp}
use Rattle.cedar_schema.proofs.TypeLemmas.{type_joined}
use Rattle.cedar_schema.proofs.schema.rows.join_type.Goals as goal

pub returns : goal.returns
returns c =
    let old = c.args.types.now in
    let ty = c.args.ty.now in
    let put = subst (λ k. Updates text_cmp c.remove.new.self c.insert.new.self k (Some c.join.new.self)) c.in_ok-try_clone.ensures c.in_ok-insert.ensures.updates in
    let before : c.unwrap_or-joined.result ≡ unwrap_or (get text_cmp old ty) [] =
    c.unwrap_or-joined.ensures ∙ ap (λ (o : Option (List ℕ)). unwrap_or o c.new.result) c.remove.ensures.value ∙ ap (λ (r : List ℕ). unwrap_or (get text_cmp old ty) r) c.new.ensures in
    type_joined old c.remove.new.self c.insert.new.self ty c.args.row.now c.join.new.self c.remove.ensures.updates put (λ n. c.in_ok-join.ensures n ∙ ap (λ (r : List ℕ). has_bit r n || has_bit c.args.row.now n) before)
