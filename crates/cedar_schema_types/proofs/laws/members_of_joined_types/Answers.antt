use Rattle.cedar_schema_types.proofs.JoinedMembers.{members_stay}
use Rattle.cedar_schema_types.proofs.laws.members_of_joined_types.Goals as goal

pub returns : goal.returns
returns c = members_stay
