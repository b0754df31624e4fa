-- The tokens of a text with their letters, and why a text has none (Cedar language reference, grammar).
use Rattle.std.specs.Prelude.{◌≡◌, ℕ, List, Result, Ok, Err}
use Rattle.cedar_parser_tokens.specs.Faults.{LacksTokens}
use Rattle.cedar_parser_tokens.specs.Marks.{Marks}
use Rattle.cedar_parser_tokens.specs.declared.parse_fault.ParseFault.{ParseFault}
use Rattle.cedar_parser_tokens.specs.declared.parse_fault.ParseFault.TheVariants as f

-- The answer is these tokens, or memory ran out (own).
abbrev pub HasMarks : Marks → Result Marks ParseFault → Type 0
HasMarks ms (Ok found) = found ≡ ms
HasMarks ms (Err f.OutOfMemory) = Unit {0}
HasMarks ms (Err _) = ⊥

-- A text is refused since it has no tokens, and the refusal is that of its fault. Out of memory says nothing about it (own).
abbrev pub HasMarksFault : List ℕ → ParseFault → Type 0
HasMarksFault source f.OutOfMemory = Unit {0}
HasMarksFault source (f.Text fault) = LacksTokens source fault
HasMarksFault source _ = ⊥
