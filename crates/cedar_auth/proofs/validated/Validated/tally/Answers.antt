use Rattle.std.proofs.Common.{get_or, Some, sym, ap, ◌∙◌}
use Rattle.std.proofs.lemmas.List.Elements.{Contains-get_or}
use Rattle.cedar_ast.specs.PolicyTree.{PolicyTree}
use Rattle.cedar_ast.specs.Response.{meaning}
use Rattle.cedar_machine.specs.Verdict.{verdict_of}
use Rattle.cedar_auth.proofs.PoliciesAt.{not_past}
use Rattle.cedar_auth.proofs.Tallies.{tally_of-next}
use Rattle.cedar_auth.proofs.validated.Validated.tally.Goals as goal

pub unreachable-requires : goal.unreachable-requires
unreachable-requires g c =
    let ks = c.args.positions.now in
    let i = c.loop-position.position-index in
    not_past c.args.self.now.policies.policies (get_or ks i 0) (sym c.in_default.ensures) (c.requires.within (get_or ks i 0) (Contains-get_or ks i 0 c.loop-position-test.true))

pub loop-position-preserved : goal.loop-position-preserved
loop-position-preserved g c =
    let q = c.args.evaluator.now.request in
    let w = c.args.evaluator.now.world in
    let part = c.part-in-loop-position in
    let before = c.loop-position.invariant.1 in
    let verdict = rw before at c.in_ok-verdict.ensures.verdict in (
      tally_of-next q w c.args.self.now.policies.policies c.args.positions.now c.loop-position.position-index part.inside.policy.now c.loop-position.tally c.enter.new.self c.as_str.result.now c.effect.result c.in_ok-verdict.verdict
          c.loop-position-test.true
          (ap (λ (x : PolicyTree). Some x) part.view_is ∙ c.in-Some.ensures)
          c.loop-position.invariant.0
          c.in_ok-enter.ensures
          (c.as_str.ensures ∙ c.id.ensures)
          c.effect.ensures
          (verdict ∙ ap (λ (x : PolicyTree). verdict_of (meaning q w x)) (sym part.view_is)),
      c.in_ok-verdict.ensures.same ∙ before,
    )
