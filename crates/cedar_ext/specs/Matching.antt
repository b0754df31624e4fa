-- When a pattern matches a text (Cedar language reference, like; cedar-spec, Lean: Cedar.Spec.Wildcard).
use Rattle.std.specs.Prelude.{◌≡◌, ℕ, nat_eq, Bool, true, false, ◌&&◌, ◌||◌, List, [], ◌∷◌, ◌++◌}
use Rattle.cedar_ext.specs.declared.pattern.Element.{Element}
use Rattle.cedar_ext.specs.declared.pattern.Element.TheVariants.{Character, Star}

-- The piece of a text that an element may have: for a character that one alone, for a star any (Cedar language reference,
-- like).
abbrev pub IsPiece : Element → List ℕ → Type 0
IsPiece (Character c) piece = piece ≡ c ∷ []
IsPiece Star piece = Unit {0}

-- The characters can be cut into pieces, one for each element (Cedar language reference, like; cedar-spec, Lean:
-- Cedar.Spec.Wildcard).
abbrev pub IsMatch : List Element → List ℕ → Type 0
IsMatch [] cs = cs ≡ []
IsMatch (e ∷ es) cs = (piece rest : List ℕ) × (cs ≡ piece ++ rest) × IsPiece e piece × IsMatch es rest

-- Whether a test holds of the characters, or of what is left after some of the first ones: a step of `is_match` (own).
abbrev pub on_some_rest : (List ℕ → Bool) → List ℕ → Bool
on_some_rest test [] = test []
on_some_rest test (c ∷ cs) = test (c ∷ cs) || on_some_rest test cs

-- Whether the characters can be so cut. Evaluation computes with this test, and `is_match_tells_cuts` ties it to `IsMatch`
-- (Cedar language reference, like).
abbrev pub is_match : List Element → List ℕ → Bool
is_match [] [] = true
is_match [] (c ∷ cs) = false
is_match (Character c ∷ es) [] = false
is_match (Character c ∷ es) (d ∷ cs) = nat_eq c d && is_match es cs
is_match (Star ∷ es) cs = on_some_rest (is_match es) cs
