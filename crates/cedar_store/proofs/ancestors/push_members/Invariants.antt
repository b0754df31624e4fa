use Rattle.std.proofs.Common.{◌-◌, length}
use Rattle.cedar_store.proofs.Members.{HasGained}
use Rattle.cedar_store.proofs.ancestors.push_members.Given as goal

abbrev pub invariant-members : goal.invariant-members
invariant-members l = HasGained l.numbers.keys l.row l.next l.initial.found.items l.found.items

abbrev pub decreases-members : goal.decreases-members
decreases-members l = length l.uids - l.next
