use Rattle.std.proofs.Common.{length}
use Rattle.base_reach.specs.Private.Lent.{lent}
use Rattle.cedar_schema.proofs.Numbered.{IsTaking}
use Rattle.cedar_schema.proofs.schema.descents.rows_by_key.Given as goal

abbrev pub invariant-last : goal.invariant-last
invariant-last g l = IsTaking g.K.Ord.cmp (lent l.keys) l.fn.rows.items l.rows.items l.found

abbrev pub decreases-last : goal.decreases-last
decreases-last g l = length l.rows.items
