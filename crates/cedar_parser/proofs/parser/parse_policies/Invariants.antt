use Rattle.std.proofs.Common.{◌+◌, ◌≤◌, length}
use Rattle.cedar_parser.proofs.TextLemmas.{IsReadSoFar}
use Rattle.cedar_parser.proofs.parser.parse_policies.Given as goal

abbrev pub invariant-loop-position : goal.invariant-loop-position
invariant-loop-position l = record {
  read : IsReadSoFar l.language l.fn.tokens l.tokens l.position l.set;
  left : length l.tokens + l.position ≤ l.position-end;
}
