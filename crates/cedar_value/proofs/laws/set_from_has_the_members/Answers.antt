use Rattle.cedar_value.proofs.Made.{set_from-members_of, set_from-ascending}
use Rattle.cedar_value.proofs.Members.{set_from-members}
use Rattle.cedar_value.proofs.laws.set_from_has_the_members.Goals as goal

pub returns-clause-members : goal.returns-clause-members
returns-clause-members c = set_from-members_of

pub returns-clause-ascending : goal.returns-clause-ascending
returns-clause-ascending c = set_from-ascending

pub returns-clause-only : goal.returns-clause-only
returns-clause-only c = set_from-members
