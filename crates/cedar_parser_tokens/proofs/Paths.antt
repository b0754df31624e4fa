-- Paths that end.
use Rattle.std.proofs.Common.{◌≡◌, ℕ, zero, suc, List, false, Ok, refl}
use Rattle.cedar_parser_tokens.specs.Marks.{Marks}
use Rattle.cedar_parser_tokens.specs.Reading as spec

-- where a path does not go on, no turn adds to it
pub ended : (n : ℕ) (p : List ℕ) (ts : Marks) → spec.goes_on ts ≡ false → spec.path_from n p ts ≡ Ok (p, ts)
unfolding spec.path_from
ended zero p ts e = refl
ended (suc n) p ts e = cc
