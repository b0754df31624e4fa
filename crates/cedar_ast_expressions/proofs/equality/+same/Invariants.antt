use Rattle.std.proofs.Common.{◌≡◌, length, take}
use Rattle.cedar_ast_expressions.specs.Private.Depth.{depth, list_depth, pairs_depth}
use Rattle.cedar_ast_expressions.proofs.equality.+same.Given as goal

abbrev pub decreases-same : goal.decreases-same
decreases-same l = depth l.one.now

abbrev pub decreases-same_members : goal.decreases-same_members
decreases-same_members l = list_depth l.one.now

abbrev pub decreases-same_pairs : goal.decreases-same_pairs
decreases-same_pairs l = pairs_depth l.one.now

abbrev pub invariant-same_members-loop-place : goal.invariant-same_members-loop-place
invariant-same_members-loop-place l = record {
  same_length : length l.one ≡ length l.two;
  so_far : take l.place l.one ≡ take l.place l.two;
}

abbrev pub invariant-same_pairs-loop-place : goal.invariant-same_pairs-loop-place
invariant-same_pairs-loop-place l = record {
  same_length : length l.one ≡ length l.two;
  so_far : take l.place l.one ≡ take l.place l.two;
}
