-- What strings denote (Cedar language reference, grammar: STR).
use Rattle.std.specs.Prelude.{ℕ, List, [], Option, unwrap_or}

-- The text in UTF-8 that a string or a word denotes, if it denotes one (Cedar language reference, grammar: STR).
abbrev pub Content : Type 0
Content = Option (List ℕ)

-- The text that a string denotes, and the empty one where it denotes none (own).
abbrev pub text_of : Content → List ℕ
text_of c = unwrap_or c []
