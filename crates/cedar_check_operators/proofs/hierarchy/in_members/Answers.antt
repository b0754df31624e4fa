use Rattle.std.proofs.Common.{◌≡◌, Bool, drop_of_length-le, arith, ap, sym, ◌∙◌}
use Rattle.std.specs.Prelude.{◌||◌, option_copied}
use Rattle.cedar_ast_expressions.specs.Expression.{expressions_of}
use Rattle.cedar_check_spec.specs.Rows.{is_or_descends}
use Rattle.cedar_check_spec.specs.Typing.{all_uids}
use Rattle.cedar_check_operators.proofs.Written.{found_in, no_uid, next_uid, either, neither, none_left}
use Rattle.cedar_check_operators.proofs.hierarchy.in_members.Goals.{then-is_or_descends, else-is_or_descends}
use Rattle.cedar_check_operators.proofs.hierarchy.in_members.Goals as goal

pub returns-in_default : goal.returns-in_default
returns-in_default c =
    sym (no_uid (is_or_descends c.args.schema.now c.args.action.now) c.loop-member.found c.args.members.now c.loop-member.member-index c.member-item.result c.loop-member-test.true c.member-item.is
    (sym c.one_uid.ensures ∙ ap option_copied c.in_default.is))
    ∙ c.loop-member.invariant

pub loop-member-preserved : goal.loop-member-preserved
loop-member-preserved c =
    let f = is_or_descends c.args.schema.now c.args.action.now in
    let step = λ (now : Bool) (same : now ≡ (c.loop-member.found || f c.in-Some.uid.now)).
    next_uid f c.loop-member.found now c.args.members.now c.loop-member.member-index c.member-item.result c.in-Some.uid.now c.loop-member-test.true c.member-item.is
    (sym c.one_uid.ensures ∙ ap option_copied c.in-Some.is) same ∙ c.loop-member.invariant in
    elim c.if-is_or_descends.branch [
      | then-is_or_descends w ↦ step c.if-is_or_descends.found (w.found-is ∙ either c.loop-member.found (f c.in-Some.uid.now) (sym c.is_or_descends.ensures ∙ w.if-is_or_descends.true))
      | else-is_or_descends w ↦ step c.if-is_or_descends.found (w.found-is ∙ neither c.loop-member.found (f c.in-Some.uid.now) (sym c.is_or_descends.ensures ∙ w.if-is_or_descends.false))
    ]

pub returns : goal.returns
returns c =
    let f = is_or_descends c.args.schema.now c.args.action.now in
    sym (none_left f c.loop-member.found)
    ∙ sym (ap (λ l. found_in f c.loop-member.found (all_uids (expressions_of l))) (drop_of_length-le c.args.members.now {i = c.loop-member.member-index} (omega arith)))
    ∙ c.loop-member.invariant
