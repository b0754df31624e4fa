use Rattle.std.proofs.Common.{◌≡◌, ℕ, ◌<◌, true, false, get_or}
use Rattle.base_search.specs.Private.Finding.{IsFinding}
use Rattle.base_search.proofs.rows.all_rows.Given as goal

abbrev pub invariant-loop-place : goal.invariant-loop-place
invariant-loop-place l = record {
  finding : IsFinding l.graph.lists l.graph.places.items l.found;
  whole : (i : ℕ) → i < l.place → get_or l.found.known.items i false ≡ true;
}
