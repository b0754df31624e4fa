use Rattle.std.proofs.Common.{◌<◌, ℕ, Contains, length, subst}
use Rattle.std.specs.List.Sorted.{IsStrictlyIncreasing}
use Rattle.std.proofs.lemmas.Result.{IfOk-weaker}
use Rattle.cedar_schema_spec.specs.SchemaTree.{SchemaTree}
use Rattle.cedar_schema_spec.specs.WellFormed.{AreTypesApart}
use Rattle.cedar_schema_spec.specs.Conformance.{Conforms, Fits}
use Rattle.cedar_auth_spec.specs.Ready.{ReadyTree}
use Rattle.cedar_auth.specs.Private.Selected.{LeavesFalse}
use Rattle.cedar_auth.proofs.Selected.{leaves_false, selected_within}
use Rattle.cedar_auth.proofs.ready.Ready.selected_over.Goals as goal

pub returns-clause-ascend : goal.returns-clause-ascend
returns-clause-ascend c =
    let i = c.indexed-indexed.result.now in
    let q = c.args.request.now in
    IfOk-weaker c.selected.result _ _
    (λ ks chosen. subst (λ (r : ReadyTree). Fits r.schema q → IsStrictlyIncreasing ks.now) c.indexed-indexed.ensures.view
    (λ fits. (chosen i.validated.schema i.validated.policies.policies fits.0 c.indexed-indexed.ensures.ready.candidates fits.1).0)
    c.requires.fits)
    c.selected.ensures

pub returns-clause-others : goal.returns-clause-others
returns-clause-others c =
    let i = c.indexed-indexed.result.now in
    let schema = i.validated.schema in
    let ps = i.validated.policies.policies in
    let w = c.args.store.now in
    let q = c.args.request.now in
    let kept = c.indexed-indexed.ensures.ready in
    IfOk-weaker c.selected.result _ _
    (λ ks chosen. subst (λ (r : ReadyTree). Conforms r.schema w → Fits r.schema q → LeavesFalse r.policies.policies q w ks.now) c.indexed-indexed.ensures.view
    (λ conforms fits. leaves_false schema ps w q ks.now
    (subst (λ (s : SchemaTree). AreTypesApart s) c.schema.ensures.value c.well_formedness.ensures.apart)
    conforms fits (chosen schema ps fits.0 kept.candidates fits.1).1)
    c.requires.conforms c.requires.fits)
    c.selected.ensures

pub returns-clause-within : goal.returns-clause-within
returns-clause-within c =
    let i = c.indexed-indexed.result.now in
    let schema = i.validated.schema in
    let ps = i.validated.policies.policies in
    let w = c.args.store.now in
    let q = c.args.request.now in
    IfOk-weaker c.selected.result _ _
    (λ ks chosen. subst (λ (r : ReadyTree). Fits r.schema q → (k : ℕ) → Contains ks.now k → k < length r.policies.policies) c.indexed-indexed.ensures.view
    (λ fits. selected_within schema ps fits.0 q w ks.now (chosen schema ps fits.0 c.indexed-indexed.ensures.ready.candidates fits.1).1)
    c.requires.fits)
    c.selected.ensures
