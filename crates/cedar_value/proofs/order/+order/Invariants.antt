use Rattle.std.proofs.Common.{◌≡◌, ◌+◌, ◌*◌, ◌≤◌, length}
use Rattle.cedar_value.specs.Order.{datum_cmp, pair_cmp, members_cmp, pairs_cmp}
use Rattle.cedar_value.specs.Private.Weight.{weight, list_weight, pairs_weight}
use Rattle.cedar_value.proofs.Walk.{rest_cmp}
use Rattle.cedar_value.proofs.order.+order.Given as goal

abbrev pub decreases-order_glance : goal.decreases-order_glance
decreases-order_glance l = 2 * weight l.left.now

abbrev pub decreases-order_members : goal.decreases-order_members
decreases-order_members l = 2 * list_weight l.left.now

abbrev pub decreases-order_pairs : goal.decreases-order_pairs
decreases-order_pairs l = 2 * pairs_weight l.left.now

abbrev pub decreases-order_pair : goal.decreases-order_pair
decreases-order_pair l = 2 * weight l.left.now.1 + 1

abbrev pub invariant-order_members-loop-place : goal.invariant-order_members-loop-place
invariant-order_members-loop-place l = (members_cmp l.left l.right ≡ rest_cmp datum_cmp l.left l.right l.place) × (l.place ≤ length l.right)

abbrev pub invariant-order_pairs-loop-place : goal.invariant-order_pairs-loop-place
invariant-order_pairs-loop-place l = (pairs_cmp l.left l.right ≡ rest_cmp pair_cmp l.left l.right l.place) × (l.place ≤ length l.right)
