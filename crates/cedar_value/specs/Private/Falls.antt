-- What is inside a value nests less deep than the value.
use Rattle.std.specs.Prelude.{◌≤◌, ◌+◌, ℕ, List, [], ◌∷◌}
use Rattle.std.proofs.Common.{arith}
use denote.Param.Weighed.{most}
use Rattle.cedar_value.specs.Datum.{Datum}
use Rattle.cedar_value.specs.Private.Weight.{weight, list_weight, pairs_weight}

pub most_members : (ds : List Datum) → most (λ d. weight d + 1) ds ≤ list_weight ds
most_members [] = omega arith
most_members (d ∷ ds) = omega (arith, most_members ds)

pub most_fields : (size : List ℕ × Datum → ℕ) → ((f : List ℕ × Datum) → size f ≤ weight f.1 + 1) → (ps : List (List ℕ × Datum)) → most size ps ≤ pairs_weight ps
most_fields size low [] = omega arith
most_fields size low (p ∷ ps) = omega (arith, most_fields size low ps, low p)
