-- What takes no memory.
use Rattle.cedar_value.specs.Datum.{Datum, boolean, long, extension}

-- A copy of the value takes no memory: it is a Boolean, a number or a value of an extension type (this project).
abbrev pub IsPlain : Datum → Type 0
IsPlain (boolean b) = Unit {0}
IsPlain (long n) = Unit {0}
IsPlain (extension e) = Unit {0}
IsPlain _ = ⊥
