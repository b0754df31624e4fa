use Rattle.std.proofs.Common.{◌≡◌}
use Rattle.std.specs.List.{list_any}
use Rattle.cedar_schema.specs.Private.Kept.{has_number}
use Rattle.cedar_schema.proofs.schema.rows.some_descends.Given as goal

abbrev pub invariant-loop-uid : goal.invariant-loop-uid
invariant-loop-uid l = list_any (has_number l.types l.low l.high) l.numbers.entries ≡ list_any (has_number l.types l.low l.high) l.uid-iterator
