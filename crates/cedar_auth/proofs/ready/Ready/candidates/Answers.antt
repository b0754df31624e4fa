use Rattle.std.proofs.Common.{subst}
use Rattle.cedar_schema_spec.specs.declared.environment.Environment.{Environment}
use Rattle.cedar_schema_spec.specs.SchemaTree.{SchemaTree}
use Rattle.cedar_schema_spec.specs.WellFormed.{AreTypesApart}
use Rattle.cedar_schema_spec.specs.Conformance.{Fits, FitsIn}
use Rattle.cedar_auth_spec.specs.Candidates.{AreCandidates, OthersAreFalse}
use Rattle.cedar_auth_spec.specs.Ready.{ReadyTree}
use Rattle.cedar_auth.proofs.Selected.{others_are_false}
use Rattle.cedar_auth.proofs.ready.Ready.candidates.Goals as goal

pub returns-clause-exact : goal.returns-clause-exact
returns-clause-exact c =
    let i = c.indexed-indexed.result.now in
    let q = c.args.request.now in
    let ks = c.positions.result.now in
    subst (λ (r : ReadyTree). (env : Environment) → FitsIn r.schema env q → AreCandidates r.schema r.policies.policies env ks) c.indexed-indexed.ensures.view
    (λ env fits. c.positions.ensures i.validated.schema i.validated.policies.policies env c.indexed-indexed.ensures.ready.candidates fits)

pub returns-clause-others : goal.returns-clause-others
returns-clause-others c =
    let i = c.indexed-indexed.result.now in
    let q = c.args.request.now in
    let ks = c.positions.result.now in
    let kept = c.indexed-indexed.ensures.ready in
    subst (λ (r : ReadyTree). Fits r.schema q → OthersAreFalse r.policies.policies q r.world ks) c.indexed-indexed.ensures.view
    (λ fits. others_are_false i.validated.schema i.validated.policies.policies c.args.self.now.world q ks
    (subst (λ (s : SchemaTree). AreTypesApart s) c.schema.ensures.value c.well_formedness.ensures.apart)
    kept.conforms fits c.candidates_are_enough.ensures.others
    (λ env fits. c.positions.ensures i.validated.schema i.validated.policies.policies env kept.candidates fits))
    c.requires
