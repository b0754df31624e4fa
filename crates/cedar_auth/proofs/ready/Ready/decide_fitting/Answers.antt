use Rattle.std.proofs.Common.{◌≡◌, ◌<◌, length, subst, sym, ap, ◌∙◌}
use Rattle.std.specs.Prelude.{IfOk}
use Rattle.std.proofs.lemmas.Result.{IfOk-weaker}
use Rattle.cedar_value.specs.World.{World}
use Rattle.cedar_ast.specs.Response.{ResponseTree}
use Rattle.cedar_auth.specs.Private.Selected.{policies_at}
use Rattle.cedar_auth.specs.Private.Tally.{TallyTree, response_by, tally_of}
use Rattle.cedar_auth_spec.specs.Validation.{ValidatedTree}
use Rattle.cedar_auth.proofs.Responses.{response_by-tally}
use Rattle.cedar_auth.proofs.TalliesOfParts.{selected_gather}
use Rattle.cedar_auth.proofs.ready.Ready.decide_fitting.Goals as goal

pub decide-requires : goal.decide-requires
decide-requires c = record {
  within = λ k m. subst (λ (v : ValidatedTree). k < length v.policies.policies) (sym c.validated.ensures) (c.in_ok-positions.ensures.within k m);
}

pub returns : goal.returns
returns c =
    let ready = c.args.self.now in
    let held = c.validated.result.now in
    let q = c.args.found.now.request in
    let ks = c.in_ok-positions.positions.now in
    let same = selected_gather q ready.world ready.policies.policies ks c.in_ok-positions.ensures.ascend c.in_ok-positions.ensures.others in
    IfOk-weaker c.decide.result _ _
    (λ d e. e ∙ ap (λ (t : TallyTree). (response_by t).decision) same ∙ ap (λ (r : ResponseTree). r.decision) (response_by-tally q ready.world ready.policies.policies))
    (subst (λ (v : ValidatedTree). IfOk c.decide.result (λ d. d ≡ (response_by (tally_of q ready.world (policies_at v.policies.policies ks))).decision)) c.validated.ensures
    (subst (λ (w : World). IfOk c.decide.result (λ d. d ≡ (response_by (tally_of q w (policies_at held.policies.policies ks))).decision)) c.store.ensures
    (rw (c.over-evaluator.ensures.request, c.over-evaluator.ensures.world) at c.decide.ensures)))
