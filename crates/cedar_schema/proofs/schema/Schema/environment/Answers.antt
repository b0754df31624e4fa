use Rattle.std.proofs.Common.{List, Contains, subst}
use Rattle.std.specs.Prelude.{MatchOption}
use Rattle.cedar_schema_spec.specs.declared.environment.Environment.{Environment}
use Rattle.cedar_schema.specs.Positions.{IsEnvironmentAt, IsEnvironmentOf}
use Rattle.cedar_schema_spec.specs.SchemaTree.{environments_of}
use Rattle.cedar_schema.proofs.PlaceLemmas.{none_has}
use Rattle.cedar_schema.proofs.schema.Schema.environment.Goals as goal

pub returns : goal.returns
returns c =
    let u = c.args.action.now in
    let p = c.args.principal.now in
    let r = c.args.resource.now in
    none_has (environments_of c.args.self.now.actions) u p r c.place_of.result
    (subst (λ (es : List Environment). MatchOption c.place_of.result ((env : Environment) → Contains es env → IsEnvironmentOf u p r env → ⊥) (IsEnvironmentAt es u p r)) c.environments-environments.ensures c.place_of.ensures)
