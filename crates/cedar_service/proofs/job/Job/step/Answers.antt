use Rattle.std.proofs.Common.{◌≡◌, ℕ, List, drop, false, ◌+◌, ◌<◌, not, is_some, length, get_or, Some, refl, sym, ap, subst, ◌∙◌, nat_lt}
use Rattle.std.specs.List.{slice_get}
use Rattle.cedar_value.specs.World.{World}
use Rattle.cedar_machine.specs.RestingView.{RestsAfter}
use Rattle.cedar_ast.specs.PolicyTree.{PolicyTree}
use Rattle.cedar_schema_spec.specs.Conformance.{Fits}
use Rattle.cedar_auth_spec.specs.Headline.{IsAnsweredSoundlyWith}
use Rattle.cedar_auth_spec.specs.Ready.{ReadyTree}
use Rattle.cedar_service_law.specs.Results.{Results}
use Rattle.cedar_service_law.specs.Jobs.{JobTree}
use Rattle.cedar_service.specs.Private.Parts.{policies_at}
use Rattle.cedar_service.specs.Private.Steps.{StepsTo}
use Rattle.cedar_service.specs.Private.Kept.{configuration_of, IsBegun, IsReached, AreAllowed}
use Rattle.cedar_service.proofs.Lefts.{left_some, lt_is, none_left, going_step, ended_step, twice, begun_at}
use Rattle.cedar_service.proofs.Reached.{one_of, reached_first, reached_more, entered_so}
use Rattle.cedar_service.proofs.job.Job.step.Goals as goal

pub returns-in_default-2-clause-ok : goal.returns-in_default-2-clause-ok
returns-in_default-2-clause-ok c =
    let v = c.self.inside.version.value in
    let ps = v.policies.policies in
    let ks = c.self.inside.positions.items in
    let done : ℕ = c.self.inside.done in
    let k : ℕ = c.index.result.now in
    let at : k ≡ get_or ks done k = c.index.ensures in
    let run : c.self.inside.run ≡ Some c.in-Some.run' = c.in-Some.is in
    let low : done < length ks = lt_is done (length ks) (sym c.self.invariant.under_way ∙ ap is_some run) in
    let version : c.deref.result.now ≡ v = c.deref.ensures in
    let p = left_some ps ks done k c.self.invariant.within low at in
    let part = c.part-effect.ensures p.0 (ap (λ (x : ReadyTree). slice_get x.policies.policies k) version ∙ p.1) in
    let world : c.store.result.now ≡ v.world = c.store.ensures ∙ ap (λ (x : ReadyTree). x.world) c.deref-in_default-2.ensures in
    let moves = subst (λ (w : World). RestsAfter c.part-effect.result.0.now.instructions c.self.inside.request w c.in-Some.run'.configuration c.in-Some.run' c.step.new.self) world c.in_ok-step.ensures.moves in
    let old : JobTree = record { version = v; request = c.self.inside.request; left = policies_at ps (drop done ks); results = c.self.inside.results; configuration = configuration_of c.self.inside.run } in
    let new : JobTree = record old { configuration = c.step.new.self.configuration } in
    subst (λ (j : JobTree). StepsTo j j.left false new) c.self.view_is (going_step old new p.0 (policies_at ps (drop (done + 1) ks)) c.in-Some.run' c.step.new.self c.part-effect.result.0.now.instructions c.in-Some.run'.configuration c.in_ok-verdict.field-0
    p.2 (sym (ap configuration_of run)) refl c.in_ok-verdict.ensures c.in_default-2.not-Some part.0 moves refl)

pub returns-clause-ok : goal.returns-clause-ok
returns-clause-ok c =
    let v = c.self.inside.version.value in
    let ps = v.policies.policies in
    let ks = c.self.inside.positions.items in
    let done : ℕ = c.self.inside.done in
    let k : ℕ = c.index.result.now in
    let at : k ≡ get_or ks done k = c.index.ensures in
    let run : c.self.inside.run ≡ Some c.in-Some.run' = c.in-Some.is in
    let low : done < length ks = lt_is done (length ks) (sym c.self.invariant.under_way ∙ ap is_some run) in
    let version : c.deref.result.now ≡ v = c.deref.ensures in
    let p = left_some ps ks done k c.self.invariant.within low at in
    let part = c.part-effect.ensures p.0 (ap (λ (x : ReadyTree). slice_get x.policies.policies k) version ∙ p.1) in
    let next : is_some c.in_ok-next.next ≡ nat_lt (done + 1) (length ks) = c.in_ok-next.ensures.under_way ∙ ap (λ xs. nat_lt (done + 1) (length xs)) c.deref-4.ensures.value in
    let end = sym (none_left ps ks (done + 1) c.self.invariant.within ∙ ap not (sym next ∙ c.is_none-finished.ensures) ∙ twice c.is_none-finished.result) in
    let old : JobTree = record { version = v; request = c.self.inside.request; left = policies_at ps (drop done ks); results = c.self.inside.results; configuration = configuration_of c.self.inside.run } in
    let rest = policies_at ps (drop (done + 1) ks) in
    let new : JobTree = record old { left = rest; results = c.enter.new.self; configuration = configuration_of c.put_run.new.run } in
    subst (λ (j : JobTree). StepsTo j j.left c.is_none-finished.result new) c.self.view_is (ended_step old new p.0 rest c.in-Some.run'.configuration (configuration_of c.put_run.new.run) c.in-Some-2.verdict c.enter.new.self _ _ c.is_none-finished.result
    p.2 (sym (ap configuration_of run)) (sym c.in-Some-2.is ∙ c.in_ok-verdict.ensures) part.1 part.2 c.in_ok-enter.ensures.ok
    (ap configuration_of c.put_run.ensures ∙ begun_at c.in_ok-next.next c.in_ok-next.ensures.at_start) refl end)

pub invariant_of-self-in_default-2 : goal.invariant_of-self-in_default-2
invariant_of-self-in_default-2 c =
    let v = c.self.inside.version.value in
    let q = c.self.inside.request in
    let ps = v.policies.policies in
    let ks = c.self.inside.positions.items in
    let done : ℕ = c.self.inside.done in
    let k : ℕ = c.index.result.now in
    let at : k ≡ get_or ks done k = c.index.ensures in
    let low : done < length ks = lt_is done (length ks) (sym c.self.invariant.under_way ∙ ap is_some c.in-Some.is) in
    let p = left_some ps ks done k c.self.invariant.within low at in
    let part = c.part-effect.ensures p.0 (ap (λ (x : ReadyTree). slice_get x.policies.policies k) c.deref.ensures ∙ p.1) in
    let world : c.store.result.now ≡ v.world = c.store.ensures ∙ ap (λ (x : ReadyTree). x.world) c.deref-in_default-2.ensures in
    let moves = subst (λ (w : World). RestsAfter c.part-effect.result.0.now.instructions q w c.in-Some.run'.configuration c.in-Some.run' c.step.new.self) world c.in_ok-step.ensures.moves in
    let came = subst (IsReached v q (policies_at ps (drop done ks))) c.in-Some.is c.self.invariant.reached in
    record {
      fits = c.self.invariant.fits;
      within = c.self.invariant.within;
      under_way = sym (ap is_some c.in-Some.is) ∙ c.self.invariant.under_way;
      reached = reached_more v q (policies_at ps (drop done ks)) p.0 (policies_at ps (drop (done + 1) ks)) c.in-Some.run' c.step.new.self c.part-effect.result.0.now.instructions c.in-Some.run'.configuration c.in_ok-verdict.field-0
          p.2 refl c.in_ok-verdict.ensures c.in_default-2.not-Some part.0 moves came;
      allowed = c.self.invariant.allowed;
    }

pub invariant_of-self-2 : goal.invariant_of-self-2
invariant_of-self-2 c =
    let v = c.self.inside.version.value in
    let q = c.self.inside.request in
    let ps = v.policies.policies in
    let ks = c.self.inside.positions.items in
    let done : ℕ = c.self.inside.done in
    let k : ℕ = c.index.result.now in
    let at : k ≡ get_or ks done k = c.index.ensures in
    let low : done < length ks = lt_is done (length ks) (sym c.self.invariant.under_way ∙ ap is_some c.in-Some.is) in
    let p = left_some ps ks done k c.self.invariant.within low at in
    let came = subst (IsReached v q (policies_at ps (drop done ks))) c.in-Some.is c.self.invariant.reached in
    let steps = subst (λ (l : List PolicyTree). IsReached v q l (Some c.in-Some.run')) p.2 came in
    let sound = subst (λ (x : ReadyTree). IsAnsweredSoundlyWith x.settings x.policies.policies q x.world) c.deref-2.ensures (c.soundness.ensures q (subst (λ (x : ReadyTree). Fits x.schema q) (sym c.deref-2.ensures) c.self.invariant.fits)) in
    record {
      fits = c.self.invariant.fits;
      within = c.self.invariant.within;
      under_way = ap is_some c.put_run.ensures ∙ c.in_ok-next.ensures.under_way ∙ ap (λ xs. nat_lt (done + 1) (length xs)) c.deref-4.ensures.value;
      reached = reached_first v q (policies_at ps (drop (done + 1) ks)) c.put_run.new.run (subst IsBegun (sym c.put_run.ensures) c.in_ok-next.ensures.at_start);
      allowed = subst (λ (r : Results). AreAllowed v.settings r.erring) (sym c.in_ok-enter.ensures.ok)
          (entered_so c.runs_end_as_evaluated.ensures v q p.0 c.in-Some.run'.executed c.in-Some.run'.configuration c.self.inside.results _ _ c.in-Some-2.verdict
          sound (one_of ps k p.0 p.1) steps (sym c.in-Some-2.is ∙ c.in_ok-verdict.ensures) c.self.invariant.allowed);
    }
