-- The units of a duration (Cedar RFC 80).
use Rattle.std.specs.Prelude.{ℕ, List, [], ◌∷◌}
use Rattle.cedar_ext_time.specs.declared.unit.Unit.{Unit}
use Rattle.cedar_ext_time.specs.declared.unit.Unit.TheVariants.{Days, Hours, Minutes, Seconds, Milliseconds}

-- How a unit is written, in codes of ASCII: d, h, m, s and ms (Cedar RFC 80).
abbrev pub name_of : Unit → List ℕ
name_of Days = 100 ∷ []
name_of Hours = 104 ∷ []
name_of Minutes = 109 ∷ []
name_of Seconds = 115 ∷ []
name_of Milliseconds = 109 ∷ 115 ∷ []

-- How many milliseconds a unit has: a day has 24 hours, an hour 60 minutes, a minute 60 seconds (Cedar RFC 80).
abbrev pub milliseconds_of : Unit → ℕ
milliseconds_of Days = 86400000
milliseconds_of Hours = 3600000
milliseconds_of Minutes = 60000
milliseconds_of Seconds = 1000
milliseconds_of Milliseconds = 1

-- The units in the order in which a duration has them (Cedar RFC 80).
abbrev pub units : List Unit
units = Days ∷ Hours ∷ Minutes ∷ Seconds ∷ Milliseconds ∷ []
