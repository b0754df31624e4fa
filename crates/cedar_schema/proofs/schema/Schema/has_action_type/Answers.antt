use Rattle.std.proofs.Common.{◌↔◌, IsTrue, Bool, subst, sym}
use Rattle.std.specs.BTreeSet.{contains}
use Rattle.cedar_value.specs.Order.{text_cmp}
use Rattle.cedar_schema_spec.specs.Declarations.{IsActionType}
use Rattle.cedar_schema_spec.specs.SchemaTree.{SchemaTree}
use Rattle.cedar_schema.proofs.schema.Schema.has_action_type.Goals as goal

pub returns : goal.returns
returns c =
    let name = c.args.name.now in
    subst (λ (b : Bool). IsTrue b ↔ IsActionType c.args.self.now name) (sym c.contains.ensures)
    (subst (λ (s : SchemaTree). IsTrue (contains text_cmp c.self.inside.action_types name) ↔ IsActionType s name) c.self.view_is (c.self.invariant.5 name))
