use Rattle.json.specs.Written.{PlainBetween}
use Rattle.cedar_auth.proofs.short_answer.is_plain.Given as goal

abbrev pub invariant-loop-byte : goal.invariant-loop-byte
invariant-loop-byte l = PlainBetween l.bytes 0 l.byte-index
