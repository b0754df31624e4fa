use Rattle.std.proofs.Common.{◌≡◌, ◌+◌, ◌*◌, ◌++◌, length, take}
use Rattle.std.specs.Prelude.{max}
use Rattle.cedar_ast_expressions.specs.Expression.{expressions_of, entries_of}
use Rattle.cedar_ast_expressions.specs.Private.Depth.{depth, list_depth, pairs_depth}
use Rattle.cedar_code.specs.Code.{code_all, code_entries}
use Rattle.cedar_code.proofs.compiler.+emit.Given as goal

abbrev pub decreases-emit : goal.decreases-emit
decreases-emit l = 3 * depth l.expression.now

abbrev pub decreases-emit_unary : goal.decreases-emit_unary
decreases-emit_unary l = 3 * depth l.operand.now + 1

abbrev pub decreases-emit_binary : goal.decreases-emit_binary
decreases-emit_binary l = 3 * max (depth l.left.now) (depth l.right.now) + 1

abbrev pub decreases-emit_and : goal.decreases-emit_and
decreases-emit_and l = 3 * max (depth l.left.now) (depth l.right.now) + 1

abbrev pub decreases-emit_or : goal.decreases-emit_or
decreases-emit_or l = 3 * max (depth l.left.now) (depth l.right.now) + 1

abbrev pub decreases-emit_if : goal.decreases-emit_if
decreases-emit_if l = 3 * max (depth l.condition.now) (max (depth l.first.now) (depth l.second.now)) + 1

abbrev pub decreases-emit_set : goal.decreases-emit_set
decreases-emit_set l = 3 * list_depth l.members.now + 1

abbrev pub decreases-emit_members : goal.decreases-emit_members
decreases-emit_members l = 3 * list_depth l.members.now

abbrev pub decreases-emit_record : goal.decreases-emit_record
decreases-emit_record l = 3 * pairs_depth l.entries.now + 1

abbrev pub decreases-emit_entries : goal.decreases-emit_entries
decreases-emit_entries l = 3 * pairs_depth l.pairs.now

abbrev pub invariant-emit_entries-loop-pair : goal.invariant-emit_entries-loop-pair
invariant-emit_entries-loop-pair l =
    l.code.items ≡ l.fn.code.items ++ code_entries (length l.fn.code.items) (entries_of (take l.pair-index l.pairs))

abbrev pub invariant-emit_members-loop-member : goal.invariant-emit_members-loop-member
invariant-emit_members-loop-member l =
    l.code.items ≡ l.fn.code.items ++ code_all (length l.fn.code.items) (expressions_of (take l.member-index l.members))
