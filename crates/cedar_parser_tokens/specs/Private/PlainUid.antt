-- The plain form of a uid's text: a path, `::`, and a string whose letters are themselves. Of the bytes, 34 is the quote, 92
-- the backslash.
use Rattle.std.specs.Prelude.{◌≡◌, ℕ, Bool, true, not, ◌&&◌, ◌==◌, List, [], ◌∷◌, ◌++◌, codes}
use Rattle.std.specs.List.{list_all}
use Rattle.std.specs.Str.{IsUtf8}

-- neither the quote nor the backslash
abbrev pub is_plain_byte : ℕ → Bool
is_plain_byte b = not (b == 34) && not (b == 92)

-- the text is this path, `::`, and this id between quotes, of which no byte is a quote or a backslash
pub record IsPlainText (source path id : List ℕ) : Type 0 where
  pub whole : source ≡ path ++ (codes "::" ++ (34 ∷ id ++ 34 ∷ []))
  pub plain : list_all is_plain_byte id ≡ true
  pub utf8 : IsUtf8 id
