use Rattle.std.proofs.Common.{◌≡◌, ◌++◌, List, length, map}
use Rattle.cedar_value.specs.declared.uid.Uid.{Uid}
use Rattle.cedar_store.specs.Private.Changing.{ChangeTree, seen}
use Rattle.cedar_store.proofs.sweeping.swept.Given as goal

abbrev pub invariant-last : goal.invariant-last
invariant-last l = (done : List ChangeTree) × (map (λ c. c.value) l.all.items ++ done ≡ l.old) × ((u : Uid) → seen l.base.world l.changes u ≡ seen l.base.world done u)

abbrev pub decreases-last : goal.decreases-last
decreases-last l = length l.all.items
