use Rattle.std.proofs.Common.{◌≡◌, length}
use Rattle.serde_json.specs.Data.{Members}
use Rattle.base_json.specs.Members.{members_to_come}
use Rattle.cedar_conform.specs.Private.WithEntities.{AreFieldsWith}
use Rattle.cedar_conform.proofs.fields_with_entities.FieldsWithEntities.read.Given as goal

-- the values are those of the members that were read already, and of those that were read since
abbrev pub invariant-members : goal.invariant-members
invariant-members l = (old : Members) → AreFieldsWith old l.initial.self → (ms : Members) × (members_to_come old l.initial.members ≡ members_to_come ms l.members) × AreFieldsWith ms l.self

abbrev pub decreases-members : goal.decreases-members
decreases-members l = length l.members
