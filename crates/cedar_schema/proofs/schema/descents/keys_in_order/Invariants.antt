use Rattle.std.proofs.Common.{◌≡◌, ◌++◌}
use Rattle.std.specs.Map.{keys_of}
use Rattle.base_reach.specs.Private.Lent.{lent}
use Rattle.cedar_schema.proofs.schema.descents.keys_in_order.Given as goal

abbrev pub invariant-loop-key : goal.invariant-loop-key
invariant-loop-key g l = lent l.keys.items ++ keys_of l.key-iterator ≡ keys_of l.declared.entries
