use Rattle.std.proofs.Common.{◌≡◌, sym, ap, ◌∙◌, ◌<◌, length, arith}
use Rattle.cedar_parser_limits.specs.Meaning.{to_expression}
use Rattle.cedar_parser_limits.specs.Limits.{size_of}
use Rattle.cedar_parser_limits.specs.Private.Capped.{capped}
use Rattle.cedar_ext.specs.Extensions.{constructor_named}
use Rattle.cedar_parser_limits.proofs.PartLemmas.{link_lighter, member_lighter, field_lighter, behind_all, applied_other, called_other, members_step, fields_step}
use Rattle.cedar_parser_limits.proofs.expression_size.+expression_size.Goals as goal

pub chain_size-link_size-whole-requires : goal.chain_size-link_size-whole-requires
chain_size-link_size-whole-requires t c =
    let within : c.loop-link.link-index < length c.args.links.now = omega arith in
    (omega (arith, link_lighter c.args.links.now c.loop-link.link-index c.link-item.result within c.link-item.is, c.decreases), tt)

pub chain_size-returns : goal.chain_size-returns
chain_size-returns t c =
    c.loop-link.invariant ∙ ap (λ e. capped (size_of e)) (behind_all (to_expression c.args.first.now) c.args.links.now c.loop-link.link-index c.loop-link-test.false)

pub members_size-expression_size-requires : goal.members_size-expression_size-requires
members_size-expression_size-requires t c =
    let within : c.loop-member.member-index < length c.args.members.now = omega arith in
    (omega (arith, member_lighter c.args.members.now c.loop-member.member-index c.member-item.result within c.member-item.is, c.decreases), tt)

pub members_size-loop-member-preserved : goal.members_size-loop-member-preserved
members_size-loop-member-preserved t c =
    let within : c.loop-member.member-index < length c.args.members.now = omega arith in
    members_step c.args.members.now c.loop-member.member-index c.member-item.result c.loop-member.whole c.expression_size.result c.both-whole.result within c.member-item.is c.loop-member.invariant c.expression_size.ensures c.both-whole.ensures

pub fields_size-expression_size-requires : goal.fields_size-expression_size-requires
fields_size-expression_size-requires t c =
    let within : c.loop-field.field-index < length c.args.fields.now = omega arith in
    (omega (arith, field_lighter c.args.fields.now c.loop-field.field-index c.field-item.result within c.field-item.is, c.decreases), tt)

pub fields_size-loop-field-preserved : goal.fields_size-loop-field-preserved
fields_size-loop-field-preserved t c =
    let within : c.loop-field.field-index < length c.args.fields.now = omega arith in
    fields_step c.args.fields.now c.loop-field.field-index c.field-item.result c.loop-field.whole c.expression_size.result c.both-whole.result within c.field-item.is c.loop-field.invariant c.expression_size.ensures c.both-whole.ensures

pub binary_method_size-returns-in_default-2 : goal.binary_method_size-returns-in_default-2
binary_method_size-returns-in_default-2 t c = λ op a e.
    let other : length c.args.arguments.now ≡ 1 → ⊥ = λ (n : length c.args.arguments.now ≡ 1). omega arith in
    e ∙ ap (λ x. capped (size_of x)) (sym (applied_other op a c.args.arguments.now other))

pub call_size-returns-in_default-2 : goal.call_size-returns-in_default-2
call_size-returns-in_default-2 t c =
    let other : length c.args.arguments.now ≡ 1 → ⊥ = λ (n : length c.args.arguments.now ≡ 1). omega arith in
    c.leaf-refused.ensures ∙ ap (λ x. capped (size_of x)) (sym (called_other (constructor_named c.args.name.now) c.args.arguments.now other))
