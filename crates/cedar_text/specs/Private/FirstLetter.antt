-- The first letter, as the private functions that read letters use it.
use Rattle.std.specs.Prelude.{◌≡◌, ℕ, ◌<◌, ◌≤◌, List, ◌++◌, length, take, encode_utf8}
use Rattle.std.specs.Str.{IsCharBoundary}
use Rattle.cedar_text.specs.declared.letter.Letter.{Letter}
use Rattle.cedar_text.specs.Strings.{IsEscape}
use Rattle.cedar_text.specs.Letters.{IsWritten}

-- the text begins with this character
abbrev pub BeginsWith : List ℕ → ℕ → Type 0
BeginsWith text c = (rest : List ℕ) × (text ≡ encode_utf8 c ++ rest)

-- after a backslash: the first bytes are an escape of this letter, or none
abbrev pub StartsEscape : List ℕ → Letter → ℕ → Type 0
StartsEscape bytes letter len = (front rest : List ℕ) × (bytes ≡ front ++ rest) × (length front ≡ len) × IsEscape front letter

abbrev pub StartsNoEscape : List ℕ → Type 0
StartsNoEscape bytes = (front rest : List ℕ) (letter : Letter) → bytes ≡ front ++ rest → IsEscape front letter → ⊥

-- the first bytes write this letter
pub record IsFirst (text : List ℕ) (letter : Letter) (len : ℕ) : Type 0 where
  pub some : 0 < len
  pub within : len ≤ length text
  pub written : IsWritten (take len text) letter
  pub boundary : IsCharBoundary text len

-- the first bytes write no letter
abbrev pub BeginsNone : List ℕ → Type 0
BeginsNone text = (front rest : List ℕ) (letter : Letter) → text ≡ front ++ rest → IsWritten front letter → ⊥
