use Rattle.std.proofs.Common.{◌≡◌, drop}
use Rattle.cedar_parser_limits.specs.Limits.{above}
use Rattle.cedar_parser_limits.specs.Private.Capped.{capped}
use Rattle.cedar_parser_limits.specs.Private.AskedSizes.{sizes_from}
use Rattle.cedar_parser_limits.proofs.attribute_path_size.attribute_path_size.Given as goal

abbrev pub invariant-loop-name : goal.invariant-loop-name
invariant-loop-name l = sizes_from l.asked l.place (drop l._name-index l.more) ≡ sizes_from (capped (above l.fn.operand)) (capped (above l.fn.operand)) l.more
