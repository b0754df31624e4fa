use Rattle.std.proofs.Common.{◌≡◌, drop}
use Rattle.cedar_parser_limits.specs.Meaning.{asked_from, asked_of}
use Rattle.cedar_parser.proofs.has.to_has_path.Given as goal

abbrev pub invariant-loop-name : goal.invariant-loop-name
invariant-loop-name l = asked_from l.asked.value l.place.value (drop l.name-index l.more) ≡ asked_of l.fn.operand.value l.first l.more
