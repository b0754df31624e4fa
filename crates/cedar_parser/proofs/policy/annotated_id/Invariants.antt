use Rattle.std.proofs.Common.{◌≡◌, drop}
use Rattle.cedar_parser_limits.specs.StatementMeaning.{id_in}
use Rattle.cedar_parser.proofs.policy.annotated_id.Given as goal

abbrev pub invariant-loop-annotation : goal.invariant-loop-annotation
invariant-loop-annotation l = id_in (drop l.annotation-index l.annotations) ≡ id_in l.annotations
