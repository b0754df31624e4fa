-- Where tokens are in their source (own).
use Rattle.std.specs.Prelude.{◌≡◌, ℕ, ◌≤◌, ◌<◌, List, [], ◌∷◌, length, take, drop}
use Rattle.std.specs.Str.{IsCharBoundary}
use Rattle.cedar_text.specs.Lexeme.{Lexeme, Lexemes, end_of}

-- From the byte `at` on the tokens come one after another, none is empty and none overlaps another (own).
abbrev pub AreInOrder : ℕ → Lexemes → Type 0
AreInOrder at [] = Unit {0}
AreInOrder at (t ∷ ts) = (at ≤ t.start) × (t.start < end_of t) × AreInOrder (end_of t) ts

-- The token is within the source, between characters, and its text is what the source has there (own).
pub record IsSliceOf (source : List ℕ) (t : Lexeme) : Type 0 where
  pub text : take (length t.text) (drop t.start source) ≡ t.text
  pub within : end_of t ≤ length source
  pub begins : IsCharBoundary source t.start
  pub ends : IsCharBoundary source (end_of t)
