-- What a refusal says about the links.
use Rattle.std.specs.Prelude.{ℕ, List, Option}
use Rattle.base_reach.specs.Closure.{LeadsTo}
use Rattle.base_search.specs.Links.{next}
use Rattle.base_search.specs.declared.search_fault.SearchFault.{SearchFault}
use Rattle.base_search.specs.declared.search_fault.SearchFault.TheVariants.{OutOfMemory, Circle}

-- The fault is there: links lead from the number of a circle back to itself (own).
abbrev pub IsThere : List (List ℕ) → List (Option ℕ) → SearchFault → Type 0
IsThere lists places OutOfMemory = Unit {0}
IsThere lists places (Circle k) = LeadsTo (next lists places) k k
