-- Lists that lie one after another.
use Rattle.std.specs.Prelude.{ℕ, ◌≤◌, List, length, map, slice_range}
use Rattle.std.specs.List.{All}
use Rattle.base_search.specs.declared.lists.Span.{Span}

-- the part of the numbers from the start of a span to its end
abbrev pub part : List ℕ → Span → List ℕ
part numbers span = slice_range numbers span.start span.end

abbrev pub lists_of : List ℕ → List Span → List (List ℕ)
lists_of numbers spans = map (part numbers) spans

-- no span reaches past the numbers
abbrev pub AreWithin : List ℕ → List Span → Type 0
AreWithin numbers spans = All (λ span. (span.start ≤ span.end) × (span.end ≤ length numbers)) spans
