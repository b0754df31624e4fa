use Rattle.std.proofs.Common.{◌≡◌, ◌≤◌, ◌-◌, length, drop}
use Rattle.cedar_text.specs.Private.Lexing.{further, string_len}
use Rattle.cedar_text.proofs.escape.string_len.Given as goal

abbrev pub invariant-loop-i : goal.invariant-loop-i
invariant-loop-i l = (further l.i (string_len 0 (drop l.i l.bytes)) ≡ string_len 0 l.bytes) × (l.i ≤ length l.bytes)

abbrev pub decreases-loop-i : goal.decreases-loop-i
decreases-loop-i l = length l.bytes - l.i
