-- What a function that cuts ensures, unless memory runs out.
use Rattle.std.specs.Prelude.{◌≡◌, Result, Ok, Err}
use Rattle.cedar_text.specs.declared.text_fault.TextFault.{TextFault}
use Rattle.cedar_text.specs.declared.text_fault.TextFault.TheVariants as f
use Rattle.cedar_text.specs.Private.Lexing.{Refusal, BadCharacter, UnclosedString, BadEscape, NumberTooLarge}

-- The place of a fault is left open.
abbrev pub Refuses : {A : Type 0} → Result A Refusal → TextFault → Type 0
Refuses o f.OutOfMemory = Unit {0}
Refuses o (f.BadCharacter at) = o ≡ Err BadCharacter
Refuses o (f.UnclosedString at) = o ≡ Err UnclosedString
Refuses o (f.BadEscape at) = o ≡ Err BadEscape
Refuses o (f.NumberTooLarge at) = o ≡ Err NumberTooLarge

abbrev pub Gives : {X Y : Type 0} → (X → Y) → Result Y Refusal → Result X TextFault → Type 0
Gives view o (Ok a) = o ≡ Ok (view a)
Gives view o (Err x) = Refuses o x
