use Rattle.std.proofs.Common.{ℕ, ◌<◌}
use Rattle.base_reach.specs.Closure.{LeadsTo}
use Rattle.base_search.specs.Links.{next}
use Rattle.base_search.specs.Private.Finding.{IsFinding}
use Rattle.base_search.proofs.rows.acyclic_rows.Given as goal

abbrev pub invariant-loop-number : goal.invariant-loop-number
invariant-loop-number l = IsFinding l.graph.lists l.graph.places.items l.found

abbrev pub invariant-loop-number-2 : goal.invariant-loop-number-2
invariant-loop-number-2 l = record {
  finding : IsFinding l.graph.lists l.graph.places.items l.found;
  acyclic : (k : ℕ) → k < l.number → ¬ LeadsTo (next l.graph.lists l.graph.places.items) k k;
}
