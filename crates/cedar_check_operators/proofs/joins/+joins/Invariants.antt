use Rattle.std.proofs.Common.{◌≡◌, ◌+◌, ◌*◌, length, drop}
use Rattle.cedar_schema_types.specs.TypeKind.{attributes_of}
use Rattle.cedar_check_operators.specs.Private.View.{type_seen}
use Rattle.cedar_check_operators.proofs.Joinable.{all, attributes_height, height}
use Rattle.cedar_check_operators.proofs.joins.+joins.Given as goal

abbrev pub decreases-types_join : goal.decreases-types_join
decreases-types_join l = 2 * height (type_seen l.one)

abbrev pub decreases-attributes_join : goal.decreases-attributes_join
decreases-attributes_join l = 2 * height l.one.now.ty + 1

abbrev pub decreases-records_join : goal.decreases-records_join
decreases-records_join l = 2 * attributes_height (attributes_of l.one.now)

abbrev pub invariant-records_join-loop-i : goal.invariant-records_join-loop-i
invariant-records_join-loop-i l = record {
  so_far : all (drop l.i l.one) (drop l.i l.two) ≡ all l.one l.two;
  same_length : length l.one ≡ length l.two;
}
