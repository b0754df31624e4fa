-- The bytes of a text after a word.
use Rattle.std.specs.Prelude.{◌≡◌, ⊤, ℕ, false, List, [], ◌∷◌}
use Rattle.cedar_value.specs.Names.{is_word_byte}

-- There is no byte of a word at the beginning.
abbrev pub BeginsNoWord : List ℕ → Type 0
BeginsNoWord [] = ⊤
BeginsNoWord (b ∷ bs) = is_word_byte b ≡ false
