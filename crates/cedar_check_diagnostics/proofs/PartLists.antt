-- The parts of sets and records, as lists.
use Rattle.std.proofs.Common.{◌≡◌, ℕ, zero, suc, List, [], ◌∷◌, option_map, refl, ap}
use Rattle.std.specs.Prelude.{slice_get}
use Rattle.cedar_ast_expressions.specs.Expression.{Expression, expressions_of, entries_of}
use Rattle.cedar_check_diagnostics.specs.Paths.{members_of, values_of}

pub members_back : (es : List Expression) → members_of (expressions_of es) ≡ es
members_back [] = refl
members_back (e ∷ es) = ap (λ l. e ∷ l) (members_back es)

pub value_at : (ps : List (List ℕ × Expression)) (n : ℕ) → slice_get (values_of (entries_of ps)) n ≡ option_map (λ p. p.1) (slice_get ps n)
value_at [] n = refl
value_at (p ∷ ps) zero = refl
value_at (p ∷ ps) (suc n) = value_at ps n
