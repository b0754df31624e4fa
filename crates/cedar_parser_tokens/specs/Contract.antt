-- What a function that reads from tokens ensures: it gives what reading from left to right gives, unless memory runs out (own).
use Rattle.std.specs.Prelude.{◌≡◌, List, Result, Ok, Err}
use Rattle.std.specs.Global.{Vec}
use Rattle.cedar_parser_tokens.specs.Marks.{Mark, Marks, mark}
use Rattle.cedar_parser_tokens.specs.declared.parse_fault.ParseFault.{ParseFault}
use Rattle.cedar_parser_tokens.specs.declared.spelled.Spelled.{Spelled}
use Rattle.cedar_parser_tokens.specs.declared.parse_fault.ParseFault.TheVariants as f
use Rattle.cedar_parser_tokens.specs.Reading.{Refusal, Syntax, TooDeep, Outcome}

-- A refusal is that of the reading, wherever it is reported. Out of memory says nothing about the tokens (own).
abbrev pub Refuses : {A : Type 0} → Result A Refusal → ParseFault → Type 0
Refuses o f.OutOfMemory = Unit {0}
Refuses o (f.Syntax at) = o ≡ Err Syntax
Refuses o (f.TooDeep at) = o ≡ Err TooDeep
Refuses o _ = ⊥

-- The answer and the tokens that are left are those of the reading, or the refusal is (own).
abbrev pub Reads : {A : Type 0} → Outcome A → Result A ParseFault → Marks → Type 0
Reads o (Ok a) new = o ≡ Ok (a, new)
Reads o (Err x) new = Refuses o x

-- The token that is taken and the tokens that are left are those of the reading, or the refusal is (own).
abbrev pub TakesToken : Outcome Mark → Result Spelled ParseFault → Marks → Type 0
TakesToken o (Ok s) new = o ≡ Ok (mark s, new)
TakesToken o (Err x) new = Refuses o x

-- The list that is answered and the tokens that are left are those of the reading, or the refusal is (own).
abbrev pub ReadsItems : {A : Type 0} → Outcome (List A) → Result (Vec A) ParseFault → Marks → Type 0
ReadsItems o (Ok v) new = o ≡ Ok (v.items, new)
ReadsItems o (Err x) new = Refuses o x
