use Rattle.std.proofs.Common.{◌≡◌, ◌+◌, length, drop}
use Rattle.cedar_schema_types.specs.TypeKind.{attributes_of}
use Rattle.cedar_schema_types.specs.Private.Weight.{weight, attributes_weight}
use Rattle.cedar_check.proofs.type_order.+order.Given as goal

-- what is left being equal, all is
abbrev pub invariant-order_attributes-loop-place : goal.invariant-order_attributes-loop-place
invariant-order_attributes-loop-place l = record {
  same_length : length l.left ≡ length l.right;
  so_far : attributes_of (drop l.place l.left) ≡ attributes_of (drop l.place l.right) → attributes_of l.left ≡ attributes_of l.right;
}

abbrev pub decreases-order_types : goal.decreases-order_types
decreases-order_types l = weight l.left.now

abbrev pub decreases-order_attribute : goal.decreases-order_attribute
decreases-order_attribute l = weight l.left.now.ty + 1

abbrev pub decreases-order_attributes : goal.decreases-order_attributes
decreases-order_attributes l = attributes_weight (attributes_of l.left.now) + 1
