use Rattle.std.proofs.Common.{ap, subst, ◌∙◌}
use Rattle.cedar_schema_spec.specs.SchemaTree.{SchemaTree}
use Rattle.cedar_schema_spec.specs.WellFormed.{AreContextsOrdered, AreListsDeclared, AreShapesOrdered, IsListedInOrder}
use Rattle.cedar_auth_spec.specs.Validation.{ValidatedTree}
use Rattle.cedar_auth.proofs.AnswerableWithEntities.{answerable_with}
use Rattle.cedar_auth.proofs.ready.Ready.lines_with_entities_have_answers.Goals as goal

pub returns : goal.returns
returns c =
    let schema = c.schema.ensures.value ∙ ap (λ (v : ValidatedTree). v.schema) c.validated.ensures in
    let decide = c.tests_of_schemas_decide.ensures in
    answerable_with c.uid_or_none.ensures c.is_name_tells_names.ensures decide.actions decide.action_descents decide.type_descents c.read_values_belong.ensures c.below_is_a_chain_of_links.ensures c.args.self.now
    (subst (λ (s : SchemaTree). AreContextsOrdered s) schema c.well_formedness.ensures.contexts)
    (subst (λ (s : SchemaTree). AreShapesOrdered s) schema c.well_formedness.ensures.shapes)
    (λ line q w f. c.requests_with_entities_are_exact.ensures.no_fault c.args.self.now.schema c.args.self.now.world line q w f
    (subst (λ (s : SchemaTree). IsListedInOrder s) schema c.well_formedness.ensures.in_order)
    (subst (λ (s : SchemaTree). AreListsDeclared s) schema c.well_formedness.ensures.lists))
