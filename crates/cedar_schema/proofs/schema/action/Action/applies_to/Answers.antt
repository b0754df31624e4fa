use Rattle.std.proofs.Common.{Contains, ◌↔◌, IsTrue, refl, subst}
use Rattle.std.specs.BTreeSet.{contains}
use Rattle.cedar_value.specs.Order.{text_cmp}
use Rattle.cedar_schema_spec.specs.SchemaTree.{ActionTree}
use Rattle.cedar_schema.proofs.EnvironmentLemmas.{names_in, first_holds, first_fails}
use Rattle.cedar_schema.proofs.schema.action.Action.applies_to.Goals as goal

pub returns-then-contains : goal.returns-then-contains
returns-then-contains c =
    subst (λ (a : ActionTree). IsTrue c.contains-then-contains.result ↔ (Contains a.principals c.args.principal.now × Contains a.resources c.args.resource.now)) c.self.view_is
    (names_in c.contains-then-contains.result c.contains.result c.contains-then-contains.result c.self.inside.principals.keys c.self.inside.resources.keys c.args.principal.now c.args.resource.now
    (first_holds c.contains.result c.contains-then-contains.result c.if-contains.true) c.contains.ensures c.contains-then-contains.ensures)

pub returns-else-contains : goal.returns-else-contains
returns-else-contains c =
    subst (λ (a : ActionTree). IsTrue c.contains.result ↔ (Contains a.principals c.args.principal.now × Contains a.resources c.args.resource.now)) c.self.view_is
    (names_in c.contains.result c.contains.result (contains text_cmp c.self.inside.resources c.args.resource.now) c.self.inside.principals.keys c.self.inside.resources.keys c.args.principal.now c.args.resource.now
    (first_fails c.contains.result (contains text_cmp c.self.inside.resources c.args.resource.now) c.if-contains.false) c.contains.ensures refl)
