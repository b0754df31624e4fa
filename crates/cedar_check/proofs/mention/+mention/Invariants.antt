use Rattle.std.proofs.Common.{◌≡◌, drop}
use Rattle.cedar_ast_expressions.specs.Expression.{entries_of, expressions_of}
use Rattle.cedar_ast_expressions.specs.Private.Depth.{depth, list_depth, pairs_depth}
use Rattle.cedar_check.specs.Private.Mention.{any_mentions, entries_mention}
use Rattle.cedar_check.proofs.mention.+mention.Given as goal

abbrev pub decreases-mentions_action : goal.decreases-mentions_action
decreases-mentions_action l = depth l.expression.now

abbrev pub decreases-members_mention : goal.decreases-members_mention
decreases-members_mention l = list_depth l.members.now

abbrev pub decreases-entries_mention : goal.decreases-entries_mention
decreases-entries_mention l = pairs_depth l.pairs.now

abbrev pub invariant-members_mention-loop-member : goal.invariant-members_mention-loop-member
invariant-members_mention-loop-member l = any_mentions (expressions_of (drop l.member-index l.members)) ≡ any_mentions (expressions_of l.members)

abbrev pub invariant-entries_mention-loop-pair : goal.invariant-entries_mention-loop-pair
invariant-entries_mention-loop-pair l = entries_mention (entries_of (drop l.pair-index l.pairs)) ≡ entries_mention (entries_of l.pairs)
