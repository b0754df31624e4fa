-- What is promised of a file that cannot be used.
use Rattle.cedar_files.specs.declared.refusal.FileRefusal.{FileRefusal}
use Rattle.cedar_files.specs.declared.reading.Unread.{Unread}
use Rattle.cedar_files.specs.declared.reading.Unread.TheVariants.{Refused, Unnamed, Device, Memory}

-- If the file is refused, this holds of its refusal. Nothing is said of a file that is not named or cannot be read, or where
-- memory ran out (own).
abbrev pub IfRefused : Unread → (FileRefusal → Type 0) → Type 0
IfRefused (Refused r) P = P r
IfRefused Unnamed P = Unit {0}
IfRefused Device P = Unit {0}
IfRefused Memory P = Unit {0}
