use Rattle.std.proofs.Common.{◌≡◌, ◌<◌, length, OnOk, subst, sym, ◌∙◌}
use Rattle.std.proofs.lemmas.Result.{on_ok_weaker}
use Rattle.cedar_value.specs.World.{World}
use Rattle.cedar_auth.specs.Private.Selected.{policies_at}
use Rattle.cedar_auth.specs.Private.Tally.{tally_of}
use Rattle.cedar_auth_spec.specs.Validation.{ValidatedTree}
use Rattle.cedar_auth.proofs.TalliesOfParts.{selected_gather}
use Rattle.cedar_auth.proofs.ready.Ready.tally_fitting.Goals as goal

pub tally-requires : goal.tally-requires
tally-requires c = record {
  within = λ k m. subst (λ (v : ValidatedTree). k < length v.policies.policies) (sym c.validated.ensures) (c.in_ok-positions.ensures.within k m);
}

pub returns : goal.returns
returns c =
    let ready = c.args.self.now in
    let held = c.validated.result.now in
    let q = c.args.found.now.request in
    let ks = c.in_ok-positions.positions.now in
    let same = selected_gather q ready.world ready.policies.policies ks c.in_ok-positions.ensures.ascend c.in_ok-positions.ensures.others in
    on_ok_weaker c.tally.result (λ e. e ∙ same)
    (subst (λ (v : ValidatedTree). OnOk c.tally.result (c.tally.new.tally ≡ tally_of q ready.world (policies_at v.policies.policies ks))) c.validated.ensures
    (subst (λ (w : World). OnOk c.tally.result (c.tally.new.tally ≡ tally_of q w (policies_at held.policies.policies ks))) c.store.ensures
    (rw (c.over-evaluator.ensures.request, c.over-evaluator.ensures.world) at c.tally.ensures)))
