use Rattle.std.proofs.Common.{◌≡◌, ◌≤◌, drop}
use Rattle.cedar_text.specs.Private.Lexing.{capped_decimal_from}
use Rattle.cedar_text.proofs.number.decimal_value.Given as goal

abbrev pub invariant-loop-b : goal.invariant-loop-b
invariant-loop-b l = (capped_decimal_from l.value (drop l.b-index l.digits) ≡ capped_decimal_from 0 l.digits) × (l.value ≤ 9223372036854775809)
