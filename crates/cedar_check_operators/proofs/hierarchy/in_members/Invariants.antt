use Rattle.std.proofs.Common.{◌≡◌, false, drop}
use Rattle.cedar_ast_expressions.specs.Expression.{expressions_of}
use Rattle.cedar_check_spec.specs.Rows.{is_or_descends}
use Rattle.cedar_check_spec.specs.Typing.{all_uids}
use Rattle.cedar_check_operators.proofs.Written.{found_in}
use Rattle.cedar_check_operators.proofs.hierarchy.in_members.Given as goal

abbrev pub invariant-loop-member : goal.invariant-loop-member
invariant-loop-member l = found_in (is_or_descends l.schema l.action) l.found (all_uids (expressions_of (drop l.member-index l.members))) ≡ found_in (is_or_descends l.schema l.action) false (all_uids (expressions_of l.members))
