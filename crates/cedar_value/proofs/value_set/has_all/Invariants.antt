use Rattle.std.proofs.Common.{◌≡◌, ◌+◌, length}
use Rattle.std.specs.List.{list_all}
use Rattle.cedar_value.specs.Order.{IsAscending}
use Rattle.cedar_value.specs.Sets.{has_member}
use Rattle.cedar_value.proofs.value_set.has_all.Given as goal

abbrev pub invariant-walk : goal.invariant-walk
invariant-walk l = record {
  same_answer : list_all (has_member l.fn.members) l.fn.wanted ≡ list_all (has_member l.members) l.wanted;
  members_ascend : IsAscending l.members;
  wanted_ascend : IsAscending l.wanted;
}

abbrev pub decreases-walk : goal.decreases-walk
decreases-walk l = length l.members + length l.wanted
