use Rattle.std.proofs.Common.{◌≡◌, ◌+◌, false, drop, option_map}
use Rattle.cedar_schema_text.specs.Tokens.{string_end}
use Rattle.cedar_schema_text.proofs.lexer.string_end.Given as goal

abbrev pub invariant-loop-at : goal.invariant-loop-at
invariant-loop-at l = string_end false l.bytes ≡ option_map (λ n. n + l.at) (string_end l.escaped (drop l.at l.bytes))
