-- The numbers and the places of the refusals of a policy text, and those of a text without tokens (own).
use Rattle.std.specs.Prelude.{ℕ, List, Option, Some, None}
use Rattle.cedar_text.specs.declared.text_fault.TextFault.{TextFault}
use Rattle.cedar_text.specs.declared.text_fault.TextFault.TheVariants as t
use Rattle.cedar_text.specs.Faults as lexer
use Rattle.cedar_parser_tokens.specs.declared.parse_fault.ParseFault.{ParseFault}
use Rattle.cedar_parser_tokens.specs.declared.parse_fault.ParseFault.TheVariants as f

-- How a refusal of a policy text is reported: its number, and the byte from 0 at which it is, if it has a place (own).
abbrev pub reported : ParseFault → ℕ × Option ℕ
reported f.OutOfMemory = (1, None)
reported (f.Text fault) = (lexer.number_of fault, lexer.offset_of fault)
reported (f.NumberTooLarge at) = (104, Some at)
reported (f.EscapedStar at) = (103, Some at)
reported (f.Syntax at) = (201, Some at)
reported (f.TooDeep at) = (202, Some at)
reported (f.TooHigh at) = (202, Some at)
reported (f.DuplicateKey at) = (203, Some at)
reported (f.DuplicateId at) = (204, Some at)
reported (f.UnknownFunction at) = (205, Some at)
reported (f.Arity at) = (206, Some at)
reported (f.SlotMisplaced at) = (207, Some at)
reported (f.DuplicateAnnotation at) = (208, Some at)
reported (f.TooLarge at) = (209, Some at)

-- The number of a refusal of a policy text, as the program prints it (own).
abbrev pub number_of : ParseFault → ℕ
number_of fault = (reported fault).0

-- The byte from 0 at which a refusal is reported, if it has a place (own).
abbrev pub offset_of : ParseFault → Option ℕ
offset_of fault = (reported fault).1

-- The refusal of a text that has no tokens, which is the lexer's own. Out of memory is the refusal of the same name (own).
abbrev pub of_text : TextFault → ParseFault
of_text t.OutOfMemory = f.OutOfMemory
of_text fault = f.Text fault

-- The text has no tokens since it has this fault. Out of memory says nothing about a text and is never such a fault (own).
abbrev pub LacksTokens : List ℕ → TextFault → Type 0
LacksTokens source t.OutOfMemory = ⊥
LacksTokens source fault = lexer.HasFault source fault
