use Rattle.std.proofs.Common.{◌↔◌, ◌∷◌, length}
use Rattle.cedar_schema_types.specs.Ordered.{AreNamesAscending}
use Rattle.cedar_schema_types.proofs.record_type.names_ascend.Given as goal

abbrev pub invariant-walk : goal.invariant-walk
invariant-walk l = AreNamesAscending l.fn.attributes ↔ AreNamesAscending (l.last ∷ l.later)

abbrev pub decreases-walk : goal.decreases-walk
decreases-walk l = length l.later
