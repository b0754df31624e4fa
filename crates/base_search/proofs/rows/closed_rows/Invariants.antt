use Rattle.base_search.specs.Private.Finding.{IsFinding}
use Rattle.base_search.proofs.rows.closed_rows.Given as goal

abbrev pub invariant-loop-number : goal.invariant-loop-number
invariant-loop-number l = IsFinding l.graph.lists l.graph.places.items l.found
