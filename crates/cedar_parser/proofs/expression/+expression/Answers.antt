use Rattle.std.proofs.Common.{◌≡◌, ◌+◌, List, drop, sym, ap, subst, ◌∙◌, ◌<◌, length, arith}
use Rattle.std.specs.Prelude.{IfOk}
use Rattle.std.specs.Global.{Box}
use Rattle.cedar_ast_expressions.specs.Expression.{Expression, Entries, expressions_of, entries_of, record_with}
use Rattle.cedar_ast_expressions.specs.Keys.{AreDistinct, keys_of}
use Rattle.cedar_parser_limits.specs.declared.side_condition.SideCondition.TheVariants.{Names, Counts}
use Rattle.cedar_parser_tree.specs.Written.{Written, members_of}
use Rattle.cedar_parser_tree.specs.WrittenKind.{written_of, links_of, fields_of}
use Rattle.cedar_parser_tree.specs.declared.written.WrittenKind.{WrittenKind}
use Rattle.cedar_parser_limits.specs.Meaning.{to_expression, to_expressions, method_of}
use Rattle.cedar_ext.specs.Extensions.{constructor_named}
use Rattle.cedar_ext.specs.declared.language.Language.TheVariants.{Cedar4}
use Rattle.cedar_parser_limits.specs.Limits.{Keeps, KeepLinks, KeepMembers, KeepFields}
use Rattle.cedar_parser_limits.specs.Private.Parts.{KeepLink}
use Rattle.cedar_parser_limits.proofs.PartLemmas.{link_lighter, member_lighter, field_lighter, links_here, members_here, fields_here, behind_all, expressions_next, keys_of_pairs, entries_of_pairs}
use Rattle.cedar_parser.proofs.CallLemmas.{each, known_named, method_arguments, function_argument}
use Rattle.cedar_parser.proofs.expression.+expression.Goals as goal

pub to_chain-append_link-requires : goal.to_chain-append_link-requires
to_chain-append_link-requires t c =
    let within : c.loop-link.link-index < length c.args.links.now = omega arith in (
      omega (arith, link_lighter c.args.links.now c.loop-link.link-index c.link-item.result within c.link-item.is, c.decreases),
      each (λ s. KeepLinks Cedar4 s (links_of (drop c.loop-link.link-index c.args.links.now))) (λ s. KeepLink Cedar4 s c.link-item.result) (λ s h. (links_here Cedar4 s c.args.links.now c.loop-link.link-index c.link-item.result within c.link-item.is h).0) c.loop-link.invariant.kept,
    )

pub to_chain-returns : goal.to_chain-returns
to_chain-returns t c = c.loop-link.invariant.done ∙ behind_all (to_expression c.args.first.now) c.args.links.now c.loop-link.link-index c.loop-link-test.false

pub to_expressions-to_boxed-requires : goal.to_expressions-to_boxed-requires
to_expressions-to_boxed-requires t c =
    let within : c.loop-member.member-index < length c.args.members.now = omega arith in (
      omega (arith, member_lighter c.args.members.now c.loop-member.member-index c.member-item.result within c.member-item.is, c.decreases),
      each (λ s. KeepMembers Cedar4 s (members_of (drop c.loop-member.member-index c.args.members.now))) (λ s. Keeps Cedar4 s c.member-item.result) (λ s h. (members_here Cedar4 s c.args.members.now c.loop-member.member-index c.member-item.result within c.member-item.is h).0) c.loop-member.invariant.kept,
    )

pub to_expressions-loop-member-preserved : goal.to_expressions-loop-member-preserved
to_expressions-loop-member-preserved t c =
    let within : c.loop-member.member-index < length c.args.members.now = omega arith in
    record {
      done = ap expressions_of c.in_ok-push.ensures
          ∙ expressions_next c.loop-member.found.items c.in_ok-item.item.value c.args.members.now c.loop-member.member-index c.member-item.result within c.member-item.is c.loop-member.invariant.done c.in_ok-item.ensures;
      kept = each (λ s. KeepMembers Cedar4 s (members_of (drop c.loop-member.member-index c.args.members.now))) (λ s. KeepMembers Cedar4 s (members_of (drop (c.loop-member.member-index + 1) c.args.members.now))) (λ s h. (members_here Cedar4 s c.args.members.now c.loop-member.member-index c.member-item.result within c.member-item.is h).1) c.loop-member.invariant.kept;
    }

pub to_pairs-to_boxed-requires : goal.to_pairs-to_boxed-requires
to_pairs-to_boxed-requires t c =
    let within : c.loop-field.field-index < length c.args.fields.now = omega arith in (
      omega (arith, field_lighter c.args.fields.now c.loop-field.field-index c.field-item.result within c.field-item.is, c.decreases),
      each (λ s. KeepFields Cedar4 s (fields_of (drop c.loop-field.field-index c.args.fields.now))) (λ s. Keeps Cedar4 s c.field-item.result.value) (λ s h. (fields_here Cedar4 s c.args.fields.now c.loop-field.field-index c.field-item.result within c.field-item.is h).0.1) c.loop-field.invariant.kept,
    )

pub to_record-record-requires : goal.to_record-record-requires
to_record-record-requires t c =
    subst AreDistinct (sym (ap keys_of c.in_ok-pairs.ensures ∙ keys_of_pairs Cedar4 c.args.fields.now c.requires.2.1)) c.requires.1.0

pub to_record-returns : goal.to_record-returns
to_record-returns t c =
    subst (λ (es : Entries). IfOk c.record.result (λ (b : Box Expression). b.value ≡ record_with es)) (ap entries_of c.in_ok-pairs.ensures ∙ entries_of_pairs c.args.fields.now) c.record.ensures

pub append_link-method_call-requires : goal.append_link-method_call-requires
append_link-method_call-requires t c =
    method_arguments (method_of c.in-Method.name) c.in-Some.method (members_of c.in-Method.arguments) c.in_ok-arguments-in-Method.arguments.items
    (ap method_of (sym c.as_str.ensures) ∙ sym c.method_of.ensures ∙ c.in-Some.is)
    (subst (KeepLink Cedar4 Counts) c.in-Method.is c.requires.4).1
    (c.in_ok-arguments-in-Method.ensures ∙ ap (λ (xs : List Written). to_expressions (members_of xs)) c.items.ensures)

pub to_boxed-function_call-requires-clause-argument : goal.to_boxed-function_call-requires-clause-argument
to_boxed-function_call-requires-clause-argument t c =
    function_argument (constructor_named c.in-Call.name) (members_of c.in-Call.arguments) c.in_ok-arguments-in-Call.arguments.items
    (known_named (constructor_named c.in-Call.name) (subst (λ (k : WrittenKind). Keeps Cedar4 Names (written_of k)) c.in-Call.is (subst (Keeps Cedar4 Names) (sym c.kind.ensures) c.requires.3)).0)
    (subst (λ (k : WrittenKind). Keeps Cedar4 Counts (written_of k)) c.in-Call.is (subst (Keeps Cedar4 Counts) (sym c.kind.ensures) c.requires.4)).1
    (c.in_ok-arguments-in-Call.ensures ∙ ap (λ (xs : List Written). to_expressions (members_of xs)) c.items-in-Call.ensures)
