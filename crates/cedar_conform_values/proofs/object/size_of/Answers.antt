use Rattle.std.proofs.Common.{refl}
use Rattle.cedar_conform_values.proofs.MemberCounts.{members_len-map}
use Rattle.cedar_conform_values.proofs.object.size_of.Goals as goal

pub returns-in-Some : goal.returns-in-Some
returns-in-Some c = rw (← c.in-Some.ensures, members_len-map, c.len.ensures.len) refl
