use Rattle.std.proofs.Common.{◌≡◌, ◌<◌, ◌+◌, ◌-◌, ◌/◌, ℕ, length, true, is_eq, bytes_eq, slice_index_or, sym, ap, subst, ◌∙◌, arith}
use Rattle.std.proofs.lemmas.Grind.{common_steps}
use Rattle.std.proofs.lemmas.Slice.Eq.{bytes_eq-Decides}
use Rattle.cedar_value.specs.Names.{IsName}
use Rattle.cedar_value.specs.Private.Laws.{text_ties}
use Rattle.cedar_conform_values.proofs.names.Names.place.Goals as goal

pub returns-in-Equal : goal.returns-in-Equal
returns-in-Equal c =
    let text = c.args.text.now in
    let name = c.as_str.result.now in
    let middle : ℕ = c.halves.low + (c.halves.high - c.halves.low) / 2 in
    let tie : bytes_eq text name ≡ true = text_ties text name ∙ ap is_eq (sym c.cmp.ensures ∙ c.in-Equal.is) in
    let same : text ≡ name = (bytes_eq-Decides text name).0 tie in
    let here : c.index.result.now ≡ text = sym c.as_str.ensures ∙ sym same in
    let named : IsName c.index.result.now = rw c.index.ensures (c.self.invariant _ _ (omega arith)) in
    let within : middle < length c.args.self.now = omega (arith, ap length c.self.view_is) in
    let at : slice_index_or c.args.self.now middle text ≡ c.index.result.now = grind (arith, common_steps) in
    (within, subst IsName here named, at ∙ here)
