use Rattle.std.proofs.Common.{◌≡◌, ◌≤◌, drop}
use Rattle.cedar_text.specs.Private.Lexing.{capped_hexadecimal_from}
use Rattle.cedar_text.proofs.number.hexadecimal_value.Given as goal

abbrev pub invariant-loop-b : goal.invariant-loop-b
invariant-loop-b l = (capped_hexadecimal_from l.value (drop l.b-index l.digits) ≡ capped_hexadecimal_from 0 l.digits) × (l.value ≤ 0x110000)
