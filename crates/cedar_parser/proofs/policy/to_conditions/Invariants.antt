use Rattle.std.proofs.Common.{◌≡◌, take, drop, map}
use Rattle.cedar_ext.specs.declared.language.Language.TheVariants.{Cedar4}
use Rattle.cedar_parser_limits.specs.StatementMeaning.{to_condition}
use Rattle.cedar_parser_limits.specs.StatementLimits.{KeepConditions}
use Rattle.cedar_parser.specs.Private.Kept.{Every}
use Rattle.cedar_parser.proofs.policy.to_conditions.Given as goal

abbrev pub invariant-loop-condition : goal.invariant-loop-condition
invariant-loop-condition l = (l.found.items ≡ map to_condition (take l.condition-index l.written)) × Every (λ s. KeepConditions Cedar4 s (drop l.condition-index l.written))
