use Rattle.std.proofs.Common.{ap, subst, ◌∙◌}
use Rattle.cedar_schema_spec.specs.SchemaTree.{SchemaTree}
use Rattle.cedar_schema_spec.specs.WellFormed.{AreParentsDeclared, AreTypesApart, IsHierarchy}
use Rattle.cedar_auth_spec.specs.Validation.{ValidatedTree}
use Rattle.cedar_auth.proofs.ready.Ready.changes_are_answered_soundly.Goals as goal

pub returns : goal.returns
returns c =
    let ready = c.args.self.now in
    let schema = c.schema.ensures.value ∙ ap (λ (v : ValidatedTree). v.schema) c.validated.ensures in
    let formed = c.well_formedness.ensures in
    λ changes w q h fits. c.soundness_over.ensures w q
    (c.changed_worlds_conform.ensures ready.schema h.0 ready.world w
    (subst (λ (s : SchemaTree). AreParentsDeclared s) schema formed.entity_parents)
    (subst (λ (s : SchemaTree). AreTypesApart s) schema formed.apart)
    (subst (λ (s : SchemaTree). IsHierarchy s) schema formed.hierarchy)
    c.premises.ensures.conforms h.2)
    fits
