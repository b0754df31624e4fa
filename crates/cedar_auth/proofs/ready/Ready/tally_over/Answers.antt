use Rattle.std.proofs.Common.{◌≡◌, ◌<◌, length, OnOk, subst, sym, ◌∙◌}
use Rattle.std.proofs.lemmas.Result.{on_ok_weaker}
use Rattle.cedar_auth.specs.Private.Selected.{policies_at}
use Rattle.cedar_auth.specs.Private.Tally.{tally_of}
use Rattle.cedar_auth_spec.specs.Validation.{ValidatedTree}
use Rattle.cedar_auth.proofs.TalliesOfParts.{selected_gather}
use Rattle.cedar_auth.proofs.ready.Ready.tally_over.Goals as goal

pub tally-requires : goal.tally-requires
tally-requires c = record {
  within = λ k m. subst (λ (v : ValidatedTree). k < length v.policies.policies) (sym c.validated.ensures)
      (c.in_ok-positions.ensures.within k m);
}

pub returns : goal.returns
returns c =
    let ready = c.args.self.now in
    let q = c.args.request.now in
    let w = c.args.store.now in
    let ks = c.in_ok-positions.positions.now in
    let same = selected_gather q w ready.policies.policies ks c.in_ok-positions.ensures.ascend c.in_ok-positions.ensures.others in
    on_ok_weaker c.tally.result (λ e. e ∙ same)
    (subst (λ (v : ValidatedTree). OnOk c.tally.result (c.tally.new.tally ≡ tally_of q w (policies_at v.policies.policies ks))) c.validated.ensures
    (rw (c.over-evaluator.ensures.request, c.over-evaluator.ensures.world) at c.tally.ensures))
