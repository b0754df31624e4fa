use Rattle.std.proofs.Common.{subst}
use Rattle.cedar_schema_spec.specs.Conformance.{Conforms}
use Rattle.cedar_schema_spec.specs.SchemaTree.{SchemaTree}
use Rattle.cedar_schema_spec.specs.WellFormed.{AreTypesApart}
use Rattle.cedar_auth_spec.specs.Ready.{ReadyTree}
use Rattle.cedar_auth_spec.specs.Validation.{IsValidatedWith}
use Rattle.cedar_auth.proofs.ready.Ready.premises.Goals as goal

pub returns-clause-apart : goal.returns-clause-apart
returns-clause-apart c =
    subst (λ (r : ReadyTree). AreTypesApart r.schema) c.indexed.ensures.view (subst (λ (s : SchemaTree). AreTypesApart s) c.schema.ensures.value c.well_formedness.ensures.apart)

pub returns-clause-validated : goal.returns-clause-validated
returns-clause-validated c =
    subst (λ (r : ReadyTree). IsValidatedWith r.settings r.schema r.policies.policies) c.indexed.ensures.view c.schema.ensures.accepted

pub returns-clause-conforms : goal.returns-clause-conforms
returns-clause-conforms c = subst (λ (r : ReadyTree). Conforms r.schema r.world) c.indexed.ensures.view c.indexed.ensures.ready.conforms
