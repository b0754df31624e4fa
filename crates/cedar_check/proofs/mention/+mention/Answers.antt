use Rattle.std.proofs.Common.{arith}
use Rattle.cedar_ast_expressions.proofs.Lists.{member_depth, pair_depth}
use Rattle.cedar_check.proofs.mention.+mention.Goals as goal

pub members_mention-mentions_action-requires : goal.members_mention-mentions_action-requires
members_mention-mentions_action-requires t c = (omega (arith, member_depth c.args.members.now c.loop-member.member-index c.member-item.result c.loop-member-test.true c.member-item.is, c.decreases), tt)

pub entries_mention-mentions_action-requires : goal.entries_mention-mentions_action-requires
entries_mention-mentions_action-requires t c = (omega (arith, pair_depth c.args.pairs.now c.loop-pair.pair-index c.pair-item.result c.loop-pair-test.true c.pair-item.is, c.decreases), tt)
