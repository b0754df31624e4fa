use Rattle.cedar_value.proofs.Members.{list_all-Contains}
use Rattle.cedar_value.proofs.value_set.ValueSet.contains_all.Goals as goal

pub returns-clause-subset : goal.returns-clause-subset
returns-clause-subset c =
    rw (c.has_all.ensures, c.members.ensures.members, c.members-2.ensures.members) (list_all-Contains c.args.self.now c.args.other.now)
