-- Why a string has no letters.
use Rattle.std.specs.Prelude.{Bool, true, false}
use Rattle.cedar_text.specs.declared.text_fault.TextFault.{TextFault}
use Rattle.cedar_text.specs.declared.text_fault.TextFault.TheVariants as f

-- memory ran out
abbrev pub is_memory : TextFault → Bool
is_memory f.OutOfMemory = true
is_memory (f.BadCharacter at) = false
is_memory (f.UnclosedString at) = false
is_memory (f.BadEscape at) = false
is_memory (f.NumberTooLarge at) = false
