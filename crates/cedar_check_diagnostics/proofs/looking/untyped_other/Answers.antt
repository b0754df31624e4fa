use Rattle.std.proofs.Common.{ℕ, ap, arith, subst, sym, ◌∙◌}
use Rattle.std.specs.Prelude.{option_map}
use Rattle.cedar_ast_expressions.specs.Expression.{expressions_of, set_with}
use Rattle.cedar_check_operators.specs.View.{held_view, tree_of, typed_view, typing_view}
use Rattle.cedar_check_diagnostics.specs.Paths.{IsStep}
use Rattle.cedar_check_diagnostics.proofs.Members.{all_joined, member_apart, member_joined, member_step}
use Rattle.cedar_check_diagnostics.proofs.looking.untyped_other.Goals as goal

pub returns-in-Refused-clause-step : goal.returns-in-Refused-clause-step
returns-in-Refused-clause-step c =
    let r = c.member_without.result in
    subst (λ (k : ℕ). IsStep c.args.checking.settings c.args.checking.schema.now c.args.checking.environment.now (held_view c.args.held.now) (set_with (expressions_of c.args.members.now)) k (held_view r.gained.items) r.part.now) (sym c.member_without.ensures.number)
    (member_step c.args.checking.settings c.args.checking.schema.now c.args.checking.environment.now (held_view c.args.held.now) c.args.members.now c.loop-number.number c.index-members-number.result r.part.now (held_view r.gained.items) (omega arith) c.index-members-number.is c.member_without.ensures.part (ap held_view c.member_without.ensures.gained))

pub returns-in-None-clause-typed : goal.returns-in-None-clause-typed
returns-in-None-clause-typed c =
    member_apart c.args.checking.settings c.args.checking.schema.now c.args.checking.environment.now (held_view c.args.held.now) c.args.members.now c.loop-number.number c.index-members-number.result (typing_view c.in_ok-typing.typing) (typed_view c.in-Typed.x) (tree_of c.loop-number.joined) c.loop-number.invariant (omega arith) c.index-members-number.is c.in_ok-typing.ensures (ap typing_view c.in-Typed.is)
    (sym c.in_ok-ty.ensures ∙ ap (option_map tree_of) c.in-None.is)

pub loop-number-preserved : goal.loop-number-preserved
loop-number-preserved c =
    member_joined c.args.checking.settings c.args.checking.schema.now c.args.checking.environment.now (held_view c.args.held.now) c.args.members.now c.loop-number.number c.index-members-number.result (typing_view c.in_ok-typing.typing) (typed_view c.in-Typed.x) (tree_of c.loop-number.joined) (tree_of c.in-Some.ty) c.loop-number.invariant (omega arith) c.index-members-number.is c.in_ok-typing.ensures (ap typing_view c.in-Typed.is)
    (sym c.in_ok-ty.ensures ∙ ap (option_map tree_of) c.in-Some.is)

pub returns-clause-typed : goal.returns-clause-typed
returns-clause-typed c =
    all_joined c.args.checking.settings c.args.checking.schema.now c.args.checking.environment.now (held_view c.args.held.now) c.args.members.now c.loop-number.number (tree_of c.loop-number.joined) (omega arith) c.loop-number.invariant
