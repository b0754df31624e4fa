use Rattle.std.proofs.Common.{◌≡◌, suc, ◌+◌, ◌*◌, take, fold}
use Rattle.cedar_parser_tree.specs.WrittenKind.{links_of, fields_of}
use Rattle.cedar_parser_tree.specs.Written.{parts, link_parts, member_parts, field_parts, members_of}
use Rattle.cedar_parser_limits.specs.Meaning.{to_expression, to_expressions, to_entries}
use Rattle.cedar_parser_limits.specs.Limits.{size_of, size_of_all, size_of_entries}
use Rattle.cedar_parser_limits.specs.Private.Capped.{capped}
use Rattle.cedar_parser_limits.specs.Private.Parts.{behind}
use Rattle.cedar_parser_limits.proofs.PartLemmas.{link_weight}
use Rattle.cedar_parser_limits.proofs.expression_size.+expression_size.Given as goal

abbrev pub decreases-expression_size : goal.decreases-expression_size
decreases-expression_size l = 2 * parts l.written.now

abbrev pub decreases-chain_size : goal.decreases-chain_size
decreases-chain_size l = suc (2 * (parts l.first.now + link_parts (links_of l.links.now)))

abbrev pub decreases-link_size : goal.decreases-link_size
decreases-link_size l = suc (2 * link_weight l.link.now)

abbrev pub decreases-method_size : goal.decreases-method_size
decreases-method_size l = suc (2 * member_parts (members_of l.arguments.now))

abbrev pub decreases-binary_method_size : goal.decreases-binary_method_size
decreases-binary_method_size l = 2 * member_parts (members_of l.arguments.now)

abbrev pub decreases-call_size : goal.decreases-call_size
decreases-call_size l = suc (2 * member_parts (members_of l.arguments.now))

abbrev pub decreases-members_size : goal.decreases-members_size
decreases-members_size l = suc (2 * member_parts (members_of l.members.now))

abbrev pub decreases-fields_size : goal.decreases-fields_size
decreases-fields_size l = suc (2 * field_parts (fields_of l.fields.now))

abbrev pub invariant-chain_size-loop-link : goal.invariant-chain_size-loop-link
invariant-chain_size-loop-link l = l.whole ≡ capped (size_of (fold behind (to_expression l.first) (take l.link-index l.links)))

abbrev pub invariant-members_size-loop-member : goal.invariant-members_size-loop-member
invariant-members_size-loop-member l = l.whole ≡ capped (size_of_all (to_expressions (members_of (take l.member-index l.members))))

abbrev pub invariant-fields_size-loop-field : goal.invariant-fields_size-loop-field
invariant-fields_size-loop-field l = l.whole ≡ capped (size_of_entries (to_entries (fields_of (take l.field-index l.fields))))
