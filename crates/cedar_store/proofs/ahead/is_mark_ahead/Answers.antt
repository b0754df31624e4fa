use Rattle.std.proofs.Common.{slice_index, IsTrue, List, ℕ, ⊎_elim, subst, sym, take, ◌∙◌}
use Rattle.std.proofs.lemmas.List.{take_all}
use Rattle.base_bits.specs.Bits.{has_bit}
use Rattle.base_reach.proofs.Listed.{either_true}
use Rattle.cedar_store.specs.Private.Kept.{has_ahead, is_ahead_of}
use Rattle.cedar_store.proofs.AboveNear.{ahead_more, at_index}
use Rattle.cedar_store.proofs.ahead.is_mark_ahead.Goals as goal

pub loop-at-preserved : goal.loop-at-preserved
loop-at-preserved c =
    let rows = c.args.rows.now in
    let near = c.args.near.now in
    let i = c.loop-at.at-index in
    let n = (slice_index c.args.near.now c.loop-at.at-index) in
    λ m is. ⊎_elim (λ before. c.loop-at.invariant m before) (λ here. c.is_mark_ahead_of.ensures c.if-is_mark_ahead_of.false m here)
    (either_true (has_ahead rows (take i near) m) (is_ahead_of rows m n) (sym (ahead_more rows near i n m c.loop-at-test.true (at_index c.args.near.now c.loop-at.at-index (slice_index c.args.near.now c.loop-at.at-index) c.loop-at-test.true)) ∙ is))

pub returns : goal.returns
returns c =
    λ clear. subst (λ (ns : List ℕ). (m : ℕ) → IsTrue (has_ahead c.args.rows.now ns m) → ¬ IsTrue (has_bit c.args.marks.now m)) (take_all c.loop-at.at-index c.args.near.now c.loop-at-test.false) c.loop-at.invariant
