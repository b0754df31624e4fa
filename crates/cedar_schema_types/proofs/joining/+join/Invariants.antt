use Rattle.std.proofs.Common.{◌≡◌, ◌+◌, length, drop, option_map}
use Rattle.cedar_schema_types.specs.Joining.{join_attributes}
use Rattle.cedar_schema_types.specs.TypeKind.{attributes_of}
use Rattle.cedar_schema_types.specs.Private.Weight.{weight, attributes_weight}
use Rattle.cedar_schema_types.proofs.AttributeJoins.{before}
use Rattle.cedar_schema_types.proofs.joining.+join.Given as goal

abbrev pub invariant-join_attributes-loop-i : goal.invariant-join_attributes-loop-i
invariant-join_attributes-loop-i l = record {
  so_far : option_map (before (attributes_of l.joined.items)) (join_attributes (attributes_of (drop l.i l.left)) (attributes_of (drop l.i l.right))) ≡ join_attributes (attributes_of l.left) (attributes_of l.right);
  same_length : length l.left ≡ length l.right;
}

abbrev pub decreases-join : goal.decreases-join
decreases-join l = weight l.left.now

abbrev pub decreases-join_attribute : goal.decreases-join_attribute
decreases-join_attribute l = weight l.left.now.ty + 1

abbrev pub decreases-join_attributes : goal.decreases-join_attributes
decreases-join_attributes l = attributes_weight (attributes_of l.left.now) + 1
