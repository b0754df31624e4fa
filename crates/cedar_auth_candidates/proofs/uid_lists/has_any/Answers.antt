use Rattle.std.proofs.Common.{sym, ◌∙◌}
use Rattle.cedar_auth_candidates.proofs.ListedPositions.{lacks_end, lacks_next}
use Rattle.cedar_auth_candidates.proofs.uid_lists.has_any.Goals as goal

pub loop-position-preserved : goal.loop-position-preserved
loop-position-preserved c =
    lacks_next c.args.row.now c.args.positions.now c.loop-position.position-index c.loop-position-test.true (sym c.has_bit.ensures ∙ c.if-has_bit.false) c.loop-position.invariant

pub returns : goal.returns
returns c = lacks_end c.args.row.now c.args.positions.now c.loop-position.position-index c.loop-position-test.false c.loop-position.invariant
