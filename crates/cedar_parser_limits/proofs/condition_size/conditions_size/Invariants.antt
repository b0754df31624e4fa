use Rattle.std.proofs.Common.{◌≡◌, ◌<◌, drop, length, map}
use Rattle.cedar_ast.specs.Condition.{conditions_of}
use Rattle.cedar_parser_limits.specs.StatementMeaning.{to_condition}
use Rattle.cedar_parser_limits.specs.Limits.{size_of}
use Rattle.cedar_parser_limits.specs.Private.Capped.{capped}
use Rattle.cedar_parser_limits.proofs.condition_size.conditions_size.Given as goal

abbrev pub invariant-loop-index : goal.invariant-loop-index
invariant-loop-index l = (l.index < length l.conditions) × (l.joined ≡ capped (size_of (conditions_of (map to_condition (drop l.index l.conditions)))))
