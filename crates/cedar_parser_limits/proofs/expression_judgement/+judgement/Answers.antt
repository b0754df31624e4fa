use Rattle.std.proofs.Common.{◌≡◌, ◌<◌, length, Err, arith}
use Rattle.std.proofs.lemmas.Grind.{common_steps}
use Rattle.cedar_parser_tree.specs.Written.{members_of}
use Rattle.cedar_parser_tree.specs.WrittenKind.{links_of, fields_of}
use Rattle.cedar_parser_limits.specs.Limits.{KeepLinks, KeepMembers, KeepFields}
use Rattle.cedar_parser_limits.proofs.JudgeLemmas.{refused_left}
use Rattle.cedar_parser_limits.proofs.PartLemmas.{link_lighter, member_lighter, field_lighter, links_here, members_here, fields_here}
use Rattle.cedar_parser_limits.proofs.expression_judgement.+judgement.Goals as goal

pub judge_links-judge_link-requires : goal.judge_links-judge_link-requires
judge_links-judge_link-requires t c =
    let within : c.loop-link.link-index < length c.args.links.now = omega arith in
    (omega (arith, link_lighter c.args.links.now c.loop-link.link-index c.link-item.result within c.link-item.is, c.decreases), tt)

pub judge_members-judge_expression-requires : goal.judge_members-judge_expression-requires
judge_members-judge_expression-requires t c =
    let within : c.loop-member.member-index < length c.args.members.now = omega arith in
    (omega (arith, member_lighter c.args.members.now c.loop-member.member-index c.member-item.result within c.member-item.is, c.decreases), tt)

pub judge_fields-judge_field-requires : goal.judge_fields-judge_field-requires
judge_fields-judge_field-requires t c =
    let within : c.loop-field.field-index < length c.args.fields.now = omega arith in
    (omega (arith, field_lighter c.args.fields.now c.loop-field.field-index c.field-item.result within c.field-item.is, c.decreases), tt)

pub judge_links-returns-in_err-judge_link : goal.judge_links-returns-in_err-judge_link
judge_links-returns-in_err-judge_link t c =
    let within : c.loop-link.link-index < length c.args.links.now = omega arith in
    let refused : c.from_residual.result ≡ Err c.in_err-judge_link.field-0.0 = grind (arith, common_steps) in
    refused_left c.args.sought _ _ (λ s. KeepLinks c.args.sought.language s (links_of c.args.links.now)) _ _ refused
    (λ s h. (links_here c.args.sought.language s c.args.links.now c.loop-link.link-index c.link-item.result within c.link-item.is h).0) c.loop-link.invariant c.in_err-judge_link.ensures.1

pub judge_members-returns-in_err-judge_expression : goal.judge_members-returns-in_err-judge_expression
judge_members-returns-in_err-judge_expression t c =
    let within : c.loop-member.member-index < length c.args.members.now = omega arith in
    let refused : c.from_residual.result ≡ Err c.in_err-judge_expression.field-0.0 = grind (arith, common_steps) in
    refused_left c.args.sought _ _ (λ s. KeepMembers c.args.sought.language s (members_of c.args.members.now)) _ _ refused
    (λ s h. (members_here c.args.sought.language s c.args.members.now c.loop-member.member-index c.member-item.result within c.member-item.is h).0) c.loop-member.invariant c.in_err-judge_expression.ensures.1

pub judge_fields-returns-in_err-judge_field : goal.judge_fields-returns-in_err-judge_field
judge_fields-returns-in_err-judge_field t c =
    let within : c.loop-field.field-index < length c.args.fields.now = omega arith in
    let refused : c.from_residual.result ≡ Err c.in_err-judge_field.field-0.0 = grind (arith, common_steps) in
    refused_left c.args.sought _ _ (λ s. KeepFields c.args.sought.language s (fields_of c.args.fields.now)) _ _ refused
    (λ s h. (fields_here c.args.sought.language s c.args.fields.now c.loop-field.field-index c.field-item.result within c.field-item.is h).0) c.loop-field.invariant c.in_err-judge_field.ensures.1
