use Rattle.std.proofs.Common.{◌<◌, ℕ, Contains, length, subst}
use Rattle.std.specs.Prelude.{IfOk}
use Rattle.std.specs.List.Sorted.{IsStrictlyIncreasing}
use Rattle.std.proofs.lemmas.Result.{IfOk-weaker}
use Rattle.cedar_value.specs.World.{World}
use Rattle.cedar_schema_spec.specs.SchemaTree.{SchemaTree}
use Rattle.cedar_schema_spec.specs.WellFormed.{AreTypesApart}
use Rattle.cedar_schema_spec.specs.Conformance.{Fits}
use Rattle.cedar_conform.specs.Places.{IsPlacedAt}
use Rattle.cedar_auth_candidates.specs.Candidates.{HasSelectedInOrderAt}
use Rattle.cedar_auth_spec.specs.Ready.{ReadyTree}
use Rattle.cedar_auth.specs.Private.Selected.{LeavesFalse}
use Rattle.cedar_auth.proofs.Selected.{leaves_false, selected_within}
use Rattle.cedar_auth.proofs.ready.Ready.selected_fitting.Goals as goal

pub returns-clause-ascend : goal.returns-clause-ascend
returns-clause-ascend c =
    let i = c.indexed-indexed.result.now in
    let q = c.args.found.now.request in
    let position = c.args.found.now.environment in
    IfOk-weaker c.selected_at.result _ _
    (λ ks chosen. subst (λ (r : ReadyTree). Fits r.schema q × IsPlacedAt r.schema q position → IsStrictlyIncreasing ks.now) c.indexed-indexed.ensures.view
    (λ fits. (chosen i.validated.schema i.validated.policies.policies (fits.0).0 c.indexed-indexed.ensures.ready.candidates (fits.0).1 fits.1).0)
    (c.requires.fits, c.requires.placed))
    c.selected_at.ensures

pub returns-clause-others : goal.returns-clause-others
returns-clause-others c =
    let i = c.indexed-indexed.result.now in
    let schema = i.validated.schema in
    let ps = i.validated.policies.policies in
    let w = c.args.self.now.world in
    let q = c.args.found.now.request in
    let position = c.args.found.now.environment in
    let kept = c.indexed-indexed.ensures.ready in
    IfOk-weaker c.selected_at.result _ _
    (λ ks chosen. subst (λ (r : ReadyTree). Fits r.schema q × IsPlacedAt r.schema q position → LeavesFalse r.policies.policies q r.world ks.now) c.indexed-indexed.ensures.view
    (λ fits. leaves_false schema ps w q ks.now
    (subst (λ (s : SchemaTree). AreTypesApart s) c.schema.ensures.value c.well_formedness.ensures.apart)
    kept.conforms fits.0 (chosen schema ps (fits.0).0 kept.candidates (fits.0).1 fits.1).1)
    (c.requires.fits, c.requires.placed))
    (subst (λ (held : World). IfOk c.selected_at.result (λ ks. HasSelectedInOrderAt i.candidates position q held ks.now)) c.store.ensures c.selected_at.ensures)

pub returns-clause-within : goal.returns-clause-within
returns-clause-within c =
    let i = c.indexed-indexed.result.now in
    let schema = i.validated.schema in
    let ps = i.validated.policies.policies in
    let w = c.args.self.now.world in
    let q = c.args.found.now.request in
    let position = c.args.found.now.environment in
    IfOk-weaker c.selected_at.result _ _
    (λ ks chosen. subst (λ (r : ReadyTree). Fits r.schema q × IsPlacedAt r.schema q position → (k : ℕ) → Contains ks.now k → k < length r.policies.policies) c.indexed-indexed.ensures.view
    (λ fits. selected_within schema ps (fits.0).0 q w ks.now (chosen schema ps (fits.0).0 c.indexed-indexed.ensures.ready.candidates (fits.0).1 fits.1).1)
    (c.requires.fits, c.requires.placed))
    (subst (λ (held : World). IfOk c.selected_at.result (λ ks. HasSelectedInOrderAt i.candidates position q held ks.now)) c.store.ensures c.selected_at.ensures)
