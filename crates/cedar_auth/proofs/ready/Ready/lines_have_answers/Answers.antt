use Rattle.std.proofs.Common.{ap, subst, ◌∙◌}
use Rattle.cedar_schema_spec.specs.SchemaTree.{SchemaTree}
use Rattle.cedar_schema_spec.specs.WellFormed.{AreContextsOrdered, AreListsDeclared, IsListedInOrder}
use Rattle.cedar_auth_spec.specs.Validation.{ValidatedTree}
use Rattle.cedar_auth.proofs.Answerable.{answerable}
use Rattle.cedar_auth.proofs.ready.Ready.lines_have_answers.Goals as goal

pub returns : goal.returns
returns c =
    let schema = c.schema.ensures.value ∙ ap (λ (v : ValidatedTree). v.schema) c.validated.ensures in
    answerable c.uid_or_none.ensures c.is_name_tells_names.ensures c.tests_of_schemas_decide.ensures.actions c.read_values_belong.ensures c.args.self.now
    (subst (λ (s : SchemaTree). AreContextsOrdered s) schema c.well_formedness.ensures.contexts)
    (λ line q f. c.denoted_requests_have_no_fault.ensures c.args.self.now.schema line q f
    (subst (λ (s : SchemaTree). IsListedInOrder s) schema c.well_formedness.ensures.in_order)
    (subst (λ (s : SchemaTree). AreListsDeclared s) schema c.well_formedness.ensures.lists))
