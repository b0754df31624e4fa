use Rattle.std.proofs.Common.{get_or, sym, ◌∙◌}
use Rattle.std.proofs.lemmas.List.Elements.{Contains-get_or}
use Rattle.cedar_auth.proofs.PoliciesAt.{not_past}
use Rattle.cedar_auth.proofs.Rulings.{ruled_all, ruled_next}
use Rattle.cedar_auth.proofs.validated.Validated.decide.Goals as goal

pub unreachable-requires : goal.unreachable-requires
unreachable-requires g c =
    let ks = c.args.positions.now in
    let i = c.loop-position.position-index in
    not_past c.args.self.now.policies.policies (get_or ks i 0) (sym c.in_default.ensures) (c.requires.within (get_or ks i 0) (Contains-get_or ks i 0 c.loop-position-test.true))

pub loop-position-preserved : goal.loop-position-preserved
loop-position-preserved g c =
    let before = c.loop-position.invariant.1 in (
      ruled_next c.args.evaluator.now.request c.args.evaluator.now.world c.args.self.now.policies.policies c.args.positions.now c.loop-position.position-index _ c.loop-position.ruling _
          c.loop-position-test.true
          c.in-Some.ensures
          c.loop-position.invariant.0
          (rw before at c.in_ok-ruling.ensures.ruled),
      c.in_ok-ruling.ensures.same ∙ before,
    )

pub returns : goal.returns
returns g c =
    c.decision_by.ensures
    ∙ ruled_all c.args.evaluator.now.request c.args.evaluator.now.world c.args.self.now.policies.policies c.args.positions.now c.loop-position.position-index c.loop-position.ruling
    c.loop-position-test.false c.loop-position.invariant.0
