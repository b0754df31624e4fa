use Rattle.std.proofs.Common.{◌≡◌, ◌+◌, ◌*◌, take, map}
use Rattle.std.specs.Prelude.{max}
use Rattle.cedar_ast_expressions.specs.Private.Depth.{depth, list_depth, pairs_depth}
use Rattle.cedar_ast_expressions.specs.Private.Replaced.{replaced_by, replaced_pair}
use Rattle.cedar_ast_expressions.proofs.replacement.+replace.Given as goal

abbrev pub decreases-replaced_part : goal.decreases-replaced_part
decreases-replaced_part l = 3 * depth l.part.now

abbrev pub decreases-replaced_and : goal.decreases-replaced_and
decreases-replaced_and l = 3 * max (depth l.left.now) (depth l.right.now) + 1

abbrev pub decreases-replaced_or : goal.decreases-replaced_or
decreases-replaced_or l = 3 * max (depth l.left.now) (depth l.right.now) + 1

abbrev pub decreases-replaced_if : goal.decreases-replaced_if
decreases-replaced_if l = 3 * max (depth l.condition.now) (max (depth l.if_true.now) (depth l.if_false.now)) + 1

abbrev pub decreases-replaced_unary : goal.decreases-replaced_unary
decreases-replaced_unary l = 3 * depth l.operand.now + 1

abbrev pub decreases-replaced_binary : goal.decreases-replaced_binary
decreases-replaced_binary l = 3 * max (depth l.left.now) (depth l.right.now) + 1

abbrev pub decreases-replaced_set : goal.decreases-replaced_set
decreases-replaced_set l = 3 * list_depth l.members.now

abbrev pub decreases-replaced_record : goal.decreases-replaced_record
decreases-replaced_record l = 3 * pairs_depth l.entries.now + 1

abbrev pub decreases-replaced_pairs : goal.decreases-replaced_pairs
decreases-replaced_pairs l = 3 * pairs_depth l.pairs.now

abbrev pub invariant-replaced_set-loop-member : goal.invariant-replaced_set-loop-member
invariant-replaced_set-loop-member l = l.copies.items ≡ map (replaced_by l.action) (take l.member-index l.members)

abbrev pub invariant-replaced_pairs-loop-pair : goal.invariant-replaced_pairs-loop-pair
invariant-replaced_pairs-loop-pair l = l.copies.items ≡ map (replaced_pair l.action) (take l.pair-index l.pairs)
