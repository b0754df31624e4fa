use Rattle.std.proofs.Common.{◌≡◌, ◌≤◌, ◌+◌, ◌*◌, length}
use Rattle.std.specs.List.{list_all}
use Rattle.cedar_schema_types.specs.TypeKind.{attributes_of}
use Rattle.cedar_conform_values.specs.Private.MemberTest.{are_fields, is_member}
use Rattle.cedar_conform_values.proofs.TypeHeights.{height, attributes_height}
use Rattle.cedar_conform_values.proofs.membership.+member.Given as goal

abbrev pub decreases-belongs : goal.decreases-belongs
decreases-belongs l = 5 * height l.ty.now

abbrev pub decreases-all_belong : goal.decreases-all_belong
decreases-all_belong l = 5 * height l.member.now + 4

abbrev pub decreases-are_fields : goal.decreases-are_fields
decreases-are_fields l = 5 * attributes_height (attributes_of l.attributes.now) + 4

abbrev pub decreases-behind : goal.decreases-behind
decreases-behind l = 5 * height l.attribute.now.ty + 2

-- all belong where those that are left do
abbrev pub invariant-all_belong-walk : goal.invariant-all_belong-walk
invariant-all_belong-walk l = list_all (is_member l.member) l.rest ≡ list_all (is_member l.member) l.values

abbrev pub decreases-all_belong-walk : goal.decreases-all_belong-walk
decreases-all_belong-walk l = length l.rest

-- all are at their names where those that are left are at the names that are left
abbrev pub invariant-are_fields-walk : goal.invariant-are_fields-walk
invariant-are_fields-walk l = record {
  same : are_fields (attributes_of l.rest) l.left ≡ are_fields (attributes_of l.attributes) l.pairs;
  less : attributes_height (attributes_of l.rest) ≤ attributes_height (attributes_of l.attributes);
}

abbrev pub decreases-are_fields-walk : goal.decreases-are_fields-walk
decreases-are_fields-walk l = length l.rest
