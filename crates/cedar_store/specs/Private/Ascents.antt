-- The ways up from an entity.
use Rattle.std.specs.Prelude.{ℕ, Bool, List, Option, None, Some}
use Rattle.cedar_value.specs.declared.uid.Uid.{Uid}
use Rattle.cedar_store.specs.Private.Kept.{in_ahead, in_row}
use Rattle.cedar_store.specs.declared.ascent.Ascent.{Ascent}

-- whether the number of the uid is in the row of what is above, or where there is none, ahead of those of the parents
abbrev pub is_reached : Option (List ℕ) → List Uid → List (List ℕ) → List ℕ → Uid → Bool
is_reached (Some above) keys rows near u = in_row keys above u
is_reached None keys rows near u = in_ahead keys rows near u

abbrev pub reaches : Ascent → Uid → Bool
reaches a u = is_reached a.above a.numbers.now.keys a.rows.now a.near.now u
