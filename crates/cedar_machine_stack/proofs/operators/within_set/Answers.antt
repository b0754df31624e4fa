use Rattle.std.proofs.Common.{◌≡◌, true, false, sym, ap, ◌∙◌}
use Rattle.std.specs.List.{list_all}
use Rattle.cedar_value.specs.Datum.{uid}
use Rattle.cedar_value.specs.Sets.{has_member}
use Rattle.cedar_ast_expressions.specs.Operators.{is_uid}
use Rattle.cedar_machine_stack.proofs.Within.{in_set-refused, in_set-member, in_set-below}
use Rattle.cedar_machine_stack.proofs.operators.within_set.Goals as goal

pub returns-then-not-all_uids : goal.returns-then-not-all_uids
returns-then-not-all_uids g c =
    let none : list_all is_uid c.args.highs.now ≡ false = ap (list_all is_uid) (sym c.members.ensures.members) ∙ sym c.all_uids.ensures ∙ c.if-not-all_uids.true in
    sym (in_set-refused (g.H.Hierarchy.world c.args.hierarchy.now) c.args.low.now c.args.highs.now none)

pub returns-then-has : goal.returns-then-has
returns-then-has g c =
    let all : list_all is_uid c.args.highs.now ≡ true = ap (list_all is_uid) (sym c.members.ensures.members) ∙ sym c.all_uids.ensures ∙ c.if-not-all_uids.false in
    let here : has_member c.args.highs.now (uid c.args.low.now) ≡ true = sym c.has.ensures ∙ c.if-has.true in
    rw c.boolean.ensures (sym (in_set-member (g.H.Hierarchy.world c.args.hierarchy.now) c.args.low.now c.args.highs.now all here))

pub returns : goal.returns
returns g c =
    let all : list_all is_uid c.args.highs.now ≡ true = ap (list_all is_uid) (sym c.members.ensures.members) ∙ sym c.all_uids.ensures ∙ c.if-not-all_uids.false in
    let none : has_member c.args.highs.now (uid c.args.low.now) ≡ false = sym c.has.ensures ∙ c.if-has.false in
    rw (c.boolean-2.ensures, c.is_below_any.ensures.gives) (sym (in_set-below (g.H.Hierarchy.world c.args.hierarchy.now) c.args.low.now c.args.highs.now all none))
