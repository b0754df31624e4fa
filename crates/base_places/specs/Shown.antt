-- Characters that are safe to show on a terminal.
use Rattle.std.specs.Prelude.{Bool, ℕ, ◌&&◌, ◌||◌, nat_eq, nat_le, if◌then◌else◌}

-- A character is one of those from a first to a last (own).
abbrev pub is_between : ℕ → ℕ → ℕ → Bool
is_between first last c = nat_le first c && nat_le c last

-- A control character (Unicode Standard, section 23.1), one that changes the direction of text (Unicode Standard Annex 9,
-- section 2), or the byte order mark, which cannot be seen (Unicode Standard, section 23.8).
abbrev pub is_unsafe : ℕ → Bool
is_unsafe c =
    is_between 0 31 c || is_between 127 159 c || nat_eq c 1564 || is_between 8206 8207 c || is_between 8234 8238 c || is_between 8294 8297 c || nat_eq c 65279

-- A tabulator is shown as a space, each other unsafe character as U+FFFD, and any other as it is (own).
abbrev pub shown_as : ℕ → ℕ
shown_as c = if nat_eq c 9 then 32 else if is_unsafe c then 65533 else c
