use Rattle.std.proofs.Common.{◌-◌, length}
use Rattle.cedar_store.specs.Private.Gathered.{Gathers, KeepsFirst}
use Rattle.cedar_store.proofs.Members.{IsToldBelow}
use Rattle.cedar_store.proofs.gathering.gather_members.Given as goal

abbrev pub invariant-members : goal.invariant-members
invariant-members l = KeepsFirst l.begun l.initial.found.items l.found.items × KeepsFirst l.end l.initial.found.items l.found.items × Gathers l.begun l.initial.found.items l.found.items (IsToldBelow l.numbers.keys l.row l.next)

abbrev pub decreases-members : goal.decreases-members
decreases-members l = length l.uids - l.next
