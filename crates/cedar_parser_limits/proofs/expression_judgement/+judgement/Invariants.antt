use Rattle.std.proofs.Common.{suc, ◌+◌, ◌*◌, drop}
use Rattle.cedar_parser_tree.specs.WrittenKind.{links_of, fields_of}
use Rattle.cedar_parser_tree.specs.Written.{parts, link_parts, member_parts, field_parts, members_of}
use Rattle.cedar_parser_limits.specs.Private.Judging.{IsLeft}
use Rattle.cedar_parser_limits.specs.Limits.{KeepLinks, KeepMembers, KeepFields}
use Rattle.cedar_parser_limits.proofs.PartLemmas.{link_weight}
use Rattle.cedar_parser_limits.proofs.expression_judgement.+judgement.Given as goal

abbrev pub decreases-judge_expression : goal.decreases-judge_expression
decreases-judge_expression l = 2 * parts l.written.now

abbrev pub decreases-judge_pair : goal.decreases-judge_pair
decreases-judge_pair l = suc (2 * (parts l.first.now + parts l.second.now))

abbrev pub decreases-judge_links : goal.decreases-judge_links
decreases-judge_links l = suc (2 * link_parts (links_of l.links.now))

abbrev pub decreases-judge_link : goal.decreases-judge_link
decreases-judge_link l = suc (2 * link_weight l.link.now)

abbrev pub decreases-judge_members : goal.decreases-judge_members
decreases-judge_members l = suc (2 * member_parts (members_of l.members.now))

abbrev pub decreases-judge_fields : goal.decreases-judge_fields
decreases-judge_fields l = suc (2 * field_parts (fields_of l.fields.now))

abbrev pub decreases-judge_field : goal.decreases-judge_field
decreases-judge_field l = suc (2 * parts l.field.now.value)

abbrev pub invariant-judge_links-loop-link : goal.invariant-judge_links-loop-link
invariant-judge_links-loop-link l = IsLeft l.sought (λ c. KeepLinks l.sought.language c (links_of (drop l.link-index l.links))) (λ c. KeepLinks l.sought.language c (links_of l.links))

abbrev pub invariant-judge_members-loop-member : goal.invariant-judge_members-loop-member
invariant-judge_members-loop-member l = IsLeft l.sought (λ c. KeepMembers l.sought.language c (members_of (drop l.member-index l.members))) (λ c. KeepMembers l.sought.language c (members_of l.members))

abbrev pub invariant-judge_fields-loop-field : goal.invariant-judge_fields-loop-field
invariant-judge_fields-loop-field l = IsLeft l.sought (λ c. KeepFields l.sought.language c (fields_of (drop l.field-index l.fields))) (λ c. KeepFields l.sought.language c (fields_of l.fields))
