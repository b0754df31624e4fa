use Rattle.std.proofs.Common.{◌+◌, subst, sym, take}
use Rattle.cedar_check.specs.Private.Signatures.{AreNumbered}
use Rattle.cedar_check.proofs.Numbers.{numbered_more}
use Rattle.cedar_check.proofs.signatures.numbers_of.Goals as goal

pub loop-environment-preserved : goal.loop-environment-preserved
loop-environment-preserved c =
    let examples = c.args.examples.now in
    let envs = c.args.environments.now in
    let i = c.loop-environment.environment-index in
    subst (λ l. AreNumbered examples l (take (i + 1) envs)) (sym c.in_ok-push.ensures.items)
    (numbered_more examples c.loop-environment.numbers.items envs i c.number_of.result c.environment-item.result c.loop-environment-test.true c.environment-item.is c.loop-environment.invariant c.number_of.ensures)
