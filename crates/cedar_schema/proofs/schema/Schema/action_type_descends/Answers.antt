use Rattle.std.proofs.Common.{subst}
use Rattle.cedar_value.specs.Order.{uid_cmp}
use Rattle.cedar_schema.specs.Private.Kept.{AreRows}
use Rattle.cedar_schema_spec.specs.SchemaTree.{SchemaTree, parents_of_action}
use Rattle.cedar_schema.proofs.TypeLemmas.{types_rows}
use Rattle.cedar_schema.proofs.schema.Schema.action_type_descends.Goals as goal

pub returns : goal.returns
returns c =
    let rows = subst (λ (s : SchemaTree). AreRows uid_cmp (parents_of_action s.actions) c.self.inside.actions_above) c.self.view_is c.self.invariant.2 in
    types_rows c.self.inside.type_rows c.self.inside.actions_above (parents_of_action c.args.self.now.actions) c.args.low.now c.args.high.now c.some_descends.result rows c.self.invariant.6 c.some_descends.ensures.found c.some_descends.ensures.value
