use Rattle.cedar_store.proofs.Marked.{Keeps, AreGathered}
use Rattle.cedar_store.proofs.base.Base.push_marked.Given as goal

abbrev pub invariant-loop-number : goal.invariant-loop-number
invariant-loop-number l = Keeps l.initial.found.items l.found.items × AreGathered l.self l.marks l.number l.found.items
