-- Strings with a part in quotation marks at their end.
use Rattle.std.specs.Prelude.{ℕ, Bool, not, ◌&&◌, ◌==◌, nat_lt, List, [], ◌∷◌, ◌++◌}

-- The byte is written in a string as itself: it is neither a quotation mark, a backslash nor a control character (RFC 8259, section 7).
abbrev pub is_plain : ℕ → Bool
is_plain b = not (b == 34) && (not (b == 92) && not (nat_lt b 32))

-- The text with the other text in quotation marks after it (own).
abbrev pub with_quoted : List ℕ → List ℕ → List ℕ
with_quoted before quoted = before ++ (34 ∷ quoted ++ 34 ∷ [])
