use Rattle.std.proofs.Common.{arith, subst}
use Rattle.cedar_value.specs.declared.uid.Uid.{Uid}
use Rattle.cedar_ast.specs.declared.scope.Scope.{Scope}
use Rattle.cedar_auth_candidates.specs.Private.Kept.{IsEntered}
use Rattle.cedar_auth_candidates.proofs.Entering.{entered_more}
use Rattle.cedar_auth_candidates.proofs.tables.Tables.new.Goals as goal

pub loop-position-preserved : goal.loop-position-preserved
loop-position-preserved c =
    entered_more c.args.policies.now.policies c.loop-position.tables c.enter.new.self c.loop-position.position c.policy_at-policy.result.now c.policy_at-policy.ensures c.in_ok-enter.ensures.kept
    (subst (λ (s : Scope Uid Uid). IsEntered c.enter.new.self s c.loop-position.position) c.scope.ensures c.in_ok-enter.ensures.entered) c.loop-position.invariant

pub returns : goal.returns
returns c = λ k p low is. c.loop-position.invariant k p (omega (arith, low, c.loop-position-test.false, c.count-position-end.ensures.policies)) is
