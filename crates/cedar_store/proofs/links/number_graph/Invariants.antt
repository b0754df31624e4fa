use Rattle.std.proofs.Common.{◌≤◌, length, take}
use Rattle.std.specs.List.{AllZip}
use Rattle.base_search.specs.Numbered.{AreNumbersOf}
use Rattle.cedar_value.specs.World.{parents_of}
use Rattle.cedar_store.specs.Private.Kept.{number_in}
use Rattle.cedar_store.proofs.Linked.{ArePlacedBelow}
use Rattle.cedar_store.proofs.links.number_graph.Given as goal

abbrev pub invariant-loop-number : goal.invariant-loop-number
invariant-loop-number l = AllZip (λ u ns. AreNumbersOf (number_in l.numbers.keys) (parents_of l.table u) ns) (take l.number l.numbers.keys) l.linked × ArePlacedBelow l.number l.places.items × (l.number ≤ length l.numbers.keys)
