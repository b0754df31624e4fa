use Rattle.std.proofs.Common.{◌≡◌, subst}
use Rattle.std.specs.Prelude.{is_some}
use Rattle.std.specs.BTreeMap.{is_at}
use Rattle.std.specs.Map.{lookup}
use Rattle.cedar_value.specs.Order.{uid_cmp}
use Rattle.cedar_schema_spec.specs.SchemaTree.{SchemaTree}
use Rattle.cedar_schema_spec.proofs.DeclaredTests.{has_entry}
use Rattle.cedar_schema.proofs.schema.Schema.has_action.Goals as goal

pub returns : goal.returns
returns c =
    has_entry c.contains_key.result c.args.self.now c.args.uid.now
    (subst (λ (s : SchemaTree). c.contains_key.result ≡ is_some (lookup (is_at (uid_cmp c.args.uid.now)) s.actions)) c.self.view_is c.contains_key.ensures)
