use Rattle.std.proofs.Common.{◌≡◌, ◌+◌, take}
use Rattle.cedar_schema_types.specs.TypeKind.{attributes_of}
use Rattle.cedar_schema_types.specs.Private.Weight.{weight, attributes_weight}
use Rattle.cedar_schema_types.proofs.+copy.Given as goal

abbrev pub invariant-record_type::clone_attributes-loop-attribute : goal.invariant-record_type::clone_attributes-loop-attribute
invariant-record_type::clone_attributes-loop-attribute l = l.copies.items ≡ take l.attribute-index l.attributes

abbrev pub decreases-types::Type::try_clone : goal.decreases-types::Type::try_clone
decreases-types::Type::try_clone l = weight l.self.now

abbrev pub decreases-record_type::clone_attributes : goal.decreases-record_type::clone_attributes
decreases-record_type::clone_attributes l = attributes_weight (attributes_of l.attributes.now) + 1

abbrev pub decreases-record_type::RecordType::try_clone : goal.decreases-record_type::RecordType::try_clone
decreases-record_type::RecordType::try_clone l = attributes_weight l.self.now + 2
