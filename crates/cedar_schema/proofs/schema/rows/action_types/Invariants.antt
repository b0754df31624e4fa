use Rattle.std.proofs.Common.{◌≡◌, []}
use Rattle.cedar_schema.specs.Private.Kept.{types_onto}
use Rattle.cedar_schema.proofs.schema.rows.action_types.Given as goal

abbrev pub invariant-loop-uid : goal.invariant-loop-uid
invariant-loop-uid l = types_onto l.types.keys l.uid-iterator ≡ types_onto [] l.actions.entries
