-- In which of two formats a file is read.
use Rattle.std.specs.Prelude.{Bool, true, false}

-- The one where the test is true, and else the other (own).
abbrev pub InFormat : Bool → Type 0 → Type 0 → Type 0
InFormat true this other = this
InFormat false this other = other
