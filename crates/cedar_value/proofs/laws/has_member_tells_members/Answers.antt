use Rattle.cedar_value.proofs.Members.{has_member-Contains}
use Rattle.cedar_value.proofs.laws.has_member_tells_members.Goals as goal

pub returns : goal.returns
returns c = has_member-Contains
