use Rattle.std.proofs.Common.{◌≡◌, take, map}
use Rattle.cedar_ast.specs.Condition.{entity_literal}
use Rattle.cedar_ast_expressions.specs.Expression.{expressions_of}
use Rattle.cedar_parser_tokens.specs.Names.{to_uid}
use Rattle.cedar_parser_limits.specs.Limits.{size_of_all}
use Rattle.cedar_parser_limits.specs.Private.Capped.{capped}
use Rattle.cedar_parser_limits.proofs.condition_size.uids_size.Given as goal

abbrev pub invariant-loop-uid : goal.invariant-loop-uid
invariant-loop-uid l = l.whole ≡ capped (size_of_all (expressions_of (map entity_literal (map to_uid (take l.uid-index l.uids)))))
