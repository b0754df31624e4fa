-- What is kept of the letters of a string. Of the bytes, 34 is the quote, 42 the star, 92 the backslash.
use Rattle.std.specs.Prelude.{◌≡◌, ℕ, Bool, true, not, ◌&&◌, ◌==◌, nat_lt, List, map}
use Rattle.std.specs.List.{list_all}
use Rattle.cedar_text.specs.declared.letter.Letter.{Letter}
use Rattle.cedar_text.specs.declared.letter.Letter.TheVariants.{Character}
use Rattle.cedar_parser_tokens.specs.declared.letters.Kept.{Kept}
use Rattle.cedar_parser_tokens.specs.declared.letters.Kept.TheVariants.{Plain, Listed}

-- a character of ASCII that strings and patterns write as itself
abbrev pub is_own_letter : ℕ → Bool
is_own_letter b = nat_lt b 128 && (not (b == 34) && (not (b == 92) && not (b == 42)))

abbrev pub letters_in : Kept → List Letter
letters_in (Plain text) = map Character text.now
letters_in (Listed letters) = letters.items

abbrev pub IsKept : Kept → Type 0
IsKept (Plain text) = list_all is_own_letter text.now ≡ true
IsKept (Listed letters) = Unit {0}
