use Rattle.std.proofs.Common.{slice_index, ◌≡◌, ◌||◌, [], List, ℕ, ap, get_or, nat_eq, subst, sym, ◌∙◌}
use Rattle.std.proofs.lemmas.List.{take_all}
use Rattle.base_bits.specs.Bits.{has_bit}
use Rattle.cedar_store.specs.Private.Kept.{has_ahead}
use Rattle.cedar_store.proofs.AboveNear.{ahead_more, at_index, or_first}
use Rattle.cedar_store.proofs.ahead.row_ahead.Goals as goal

pub loop-at-preserved : goal.loop-at-preserved
loop-at-preserved c =
    let rows = c.args.rows.now in
    let near = c.args.near.now in
    let i = c.loop-at.at-index in
    let n = (slice_index c.args.near.now c.loop-at.at-index) in
    λ m. (let old = has_bit c.loop-at.ahead m in
    let bit = has_bit (get_or rows n []) m in
    c.in_ok-join_at.ensures m ∙ ap (λ b. b || bit) (c.in_ok-insert.ensures m) ∙ sym (or_first old (nat_eq n m) bit) ∙ ap (λ b. b || (nat_eq n m || bit)) (c.loop-at.invariant m)
    ∙ sym (ahead_more rows near i n m c.loop-at-test.true (at_index c.args.near.now c.loop-at.at-index (slice_index c.args.near.now c.loop-at.at-index) c.loop-at-test.true)))

pub returns : goal.returns
returns c = subst (λ (ns : List ℕ). (m : ℕ) → has_bit c.loop-at.ahead m ≡ has_ahead c.args.rows.now ns m) (take_all c.loop-at.at-index c.args.near.now c.loop-at-test.false) c.loop-at.invariant
