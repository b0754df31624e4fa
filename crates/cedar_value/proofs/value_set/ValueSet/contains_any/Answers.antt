use Rattle.cedar_value.proofs.Members.{list_any-Contains}
use Rattle.cedar_value.proofs.value_set.ValueSet.contains_any.Goals as goal

pub returns-clause-common : goal.returns-clause-common
returns-clause-common c =
    rw (c.has_any.ensures, c.members.ensures.members, c.members-2.ensures.members) (list_any-Contains c.args.self.now c.args.other.now)
