use Rattle.std.proofs.Common.{[], ◌∷◌, ◌++◌, take, arith, ap, sym, subst, ◌∙◌}
use Rattle.std.proofs.lemmas.List.{take_all}
use Rattle.std.specs.Prelude.{option_copied}
use Rattle.cedar_check_spec.specs.Reports.{of_none, on_none}
use Rattle.cedar_auth.specs.Private.Kept.{IsJudged}
use Rattle.cedar_auth.proofs.PoliciesAt.{not_past}
use Rattle.cedar_auth.proofs.Taken.{take-next}
use Rattle.cedar_auth.proofs.judged.judge_all.Goals as goal

pub unreachable-requires : goal.unreachable-requires
unreachable-requires c = not_past c.args.policies.now.policies c.loop-position.position (sym c.policy.ensures ∙ ap option_copied c.in_default.is) (omega (arith, c.count-position-end.ensures.policies, c.loop-position-test.true))

pub loop-position-init : goal.loop-position-init
loop-position-init c = record {
  faults = rw c.new-2.ensures.faults of_none;
  warnings = rw c.new-2.ensures.warnings on_none;
  compiled = λ e. rw c.in_ok-with_capacity.ensures.items tt;
  long = λ e. cc e;
}

pub loop-position-preserved : goal.loop-position-preserved
loop-position-preserved c =
    let settings = c.args.settings in
    let ps = c.args.policies.now.policies in
    let i = c.loop-position.position in
    let more = sym (take-next ps i c.in-Some.policy.now (sym c.policy.ensures ∙ ap option_copied c.in-Some.is)) in
    subst (λ qs. IsJudged settings c.args.schema.now qs c.add.new.self) more
    (subst (λ s. IsJudged settings s (take i ps ++ c.in-Some.policy.now ∷ []) c.add.new.self) c.in_ok-validator.ensures
    (c.in_ok-add.ensures (take i ps) (subst (λ s. IsJudged settings s (take i ps) c.loop-position.judged) (sym c.in_ok-validator.ensures) c.loop-position.invariant)))

pub returns : goal.returns
returns c =
    subst (λ qs. IsJudged c.args.settings c.args.schema.now qs c.loop-position.judged)
    (take_all c.loop-position.position c.args.policies.now.policies (omega (arith, c.count-position-end.ensures.policies, c.loop-position-test.false)))
    c.loop-position.invariant
