-- Lines and columns.
use Rattle.std.specs.Prelude.{Bool, ℕ, ◌+◌, ◌&&◌, List, [], ◌∷◌, take, nat_eq, nat_le, nat_lt, if◌then◌else◌}
use Rattle.base_places.specs.declared.place.Place.{Place}

-- A byte that goes on with a character, 10xxxxxx (RFC 3629, section 3).
abbrev pub goes_on : ℕ → Bool
goes_on b = nat_le 128 b && nat_lt b 192

-- The place that follows a byte: a line feed begins a line, and each other byte that begins a character is a column (own).
abbrev pub next_place : Place → ℕ → Place
next_place p b =
    if nat_eq b 10 then record { line = p.line + 1; column = 0 }
    else if goes_on b then p
    else record { line = p.line; column = p.column + 1 }

-- The place that follows some bytes (own).
unfoldable pub place_after : Place → List ℕ → Place
place_after p [] = p
place_after p (b ∷ bs) = place_after (next_place p b) bs

-- The place of an offset in a text, from line 0 and column 0 (own).
abbrev pub place_of : List ℕ → ℕ → Place
place_of text at = place_after (record { line = 0; column = 0 }) (take at text)
