use Rattle.std.proofs.Common.{◌≡◌, take}
use Rattle.cedar_ext_time.specs.Digits.{number_of}
use Rattle.cedar_ext_time.specs.Private.Capped.{capped}
use Rattle.cedar_ext_time.proofs.digits.capped_number.Given as goal

abbrev pub invariant-loop-digit : goal.invariant-loop-digit
invariant-loop-digit l = l.number ≡ capped (number_of (take l.digit-index l.digits))
