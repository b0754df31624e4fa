use Rattle.std.proofs.Common.{◌≡◌, length}
use Rattle.std.specs.List.{list_all}
use Rattle.cedar_ast_expressions.specs.Operators.{is_uid}
use Rattle.cedar_machine_stack.proofs.operators.all_uids.Given as goal

abbrev pub invariant-walk : goal.invariant-walk
invariant-walk l = list_all is_uid l.fn.members ≡ list_all is_uid l.left

abbrev pub decreases-walk : goal.decreases-walk
decreases-walk l = length l.left
