use Rattle.std.proofs.Common.{◌≡◌, ℕ, None, get_or, length}
use Rattle.cedar_schema.proofs.schema.graph.no_places.Given as goal

abbrev pub invariant-loop-number : goal.invariant-loop-number
invariant-loop-number l = record {
  long : length l.places.items ≡ l._number;
  none : (n : ℕ) → get_or l.places.items n None ≡ None;
}
