use Rattle.std.proofs.Common.{◌≡◌, ◌≤◌}
use Rattle.base_places.specs.Places.{place_of}
use Rattle.base_places.proofs.place.Place.of.Given as goal

abbrev pub invariant-loop-offset : goal.invariant-loop-offset
invariant-loop-offset l = (l.place ≡ place_of l.text l.offset) × (l.place.line ≤ l.offset) × (l.place.column ≤ l.offset)
