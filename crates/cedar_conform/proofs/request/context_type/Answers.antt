use Rattle.std.proofs.Common.{◌≡◌, List, get_or, ap, subst, ◌∙◌}
use Rattle.std.specs.Prelude.{IsTrue}
use Rattle.cedar_schema_types.specs.Types.{is_record}
use Rattle.cedar_schema_spec.specs.declared.environment.Environment.{Environment}
use Rattle.cedar_schema_spec.specs.SchemaTree.{HasEnvironment, environments_of}
use Rattle.cedar_conform.proofs.PlacedContexts.{placed_context, placed_record}
use Rattle.cedar_conform.proofs.request.context_type.Goals as goal

pub returns-in-Some-clause-found : goal.returns-in-Some-clause-found
returns-in-Some-clause-found c =
    let s = c.args.schema.now in
    let uids = c.args.uids.now in
    let x = c.index-environments-position.result in
    let is : x ≡ get_or (environments_of s.actions) c.in-Some.position x = c.index-environments-position.is ∙ ap (λ (es : List Environment). get_or es c.in-Some.position x) c.environments.ensures in
    subst (λ (e : Environment). HasEnvironment s.actions uids.action uids.principal.ty uids.resource.ty e.context × IsTrue (is_record e.context)) c.index-environments-position.is (
      placed_context s uids.action uids.principal.ty uids.resource.ty c.in-Some.position x c.in-Some.ensures is,
      placed_record s uids.action uids.principal.ty uids.resource.ty c.in-Some.position x c.in-Some.ensures is c.well_formedness.ensures.contexts,
    )
