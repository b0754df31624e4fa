use Rattle.std.proofs.Common.{slice_index, ◌≡◌, false, List, ℕ, sym, subst, ◌∙◌}
use Rattle.std.proofs.lemmas.List.{take_all}
use Rattle.base_reach.proofs.Listed.{any_at}
use Rattle.cedar_store.specs.Private.Kept.{has_ahead, is_ahead_of}
use Rattle.cedar_store.proofs.AboveNear.{ahead_more, at_index, neither}
use Rattle.cedar_store.proofs.ahead.is_number_ahead.Goals as goal

pub returns-then-is_ahead_of : goal.returns-then-is_ahead_of
returns-then-is_ahead_of c =
    let m = c.args.number in
    sym (any_at (is_ahead_of c.args.rows.now m) c.args.near.now (slice_index c.args.near.now c.loop-at.at-index) (c.loop-at.at-index, c.loop-at-test.true, sym (at_index c.args.near.now c.loop-at.at-index (slice_index c.args.near.now c.loop-at.at-index) c.loop-at-test.true)) (sym c.is_ahead_of.ensures ∙ c.if-is_ahead_of.true))

pub loop-at-preserved : goal.loop-at-preserved
loop-at-preserved c =
    ahead_more c.args.rows.now c.args.near.now c.loop-at.at-index (slice_index c.args.near.now c.loop-at.at-index) c.args.number c.loop-at-test.true (at_index c.args.near.now c.loop-at.at-index (slice_index c.args.near.now c.loop-at.at-index) c.loop-at-test.true)
    ∙ neither (has_ahead c.args.rows.now _ c.args.number) (is_ahead_of c.args.rows.now c.args.number (slice_index c.args.near.now c.loop-at.at-index)) c.loop-at.invariant (sym c.is_ahead_of.ensures ∙ c.if-is_ahead_of.false)

pub returns : goal.returns
returns c = sym (subst (λ (ns : List ℕ). has_ahead c.args.rows.now ns c.args.number ≡ false) (take_all c.loop-at.at-index c.args.near.now c.loop-at-test.false) c.loop-at.invariant)
