-- What a schema keeps in addition to what it declares.
use Rattle.std.specs.Prelude.{◌≡◌, ℕ, List}
use Rattle.std.specs.Map.{keys_of}
use Rattle.std.specs.BTreeMap.{BTreeMap}
use Rattle.std.specs.BTreeSet.{BTreeSet}
use Rattle.cedar_value.specs.Order.{text_cmp, uid_cmp}
use Rattle.cedar_value.specs.declared.uid.Uid.{Uid}
use Rattle.cedar_schema.specs.declared.schema.descents.Descents.{Descents}
use Rattle.cedar_schema_spec.specs.declared.environment.Environment.{Environment}
use Rattle.cedar_schema.specs.Private.Kept.{AreRows, AreTypeRows, HasTypes}
use Rattle.cedar_schema_spec.specs.Descents.{ActionDescends}
use Rattle.cedar_schema_spec.specs.WellFormed.{IsWellFormed}
use Rattle.cedar_schema_spec.specs.SchemaTree.{SchemaTree, environments_of, parents_of_type, parents_of_action}

abbrev pub IsKept : SchemaTree → List Environment → Descents (List ℕ) → Descents Uid → BTreeSet (List ℕ) → BTreeMap (List ℕ) (List ℕ) → Type 0
IsKept s environments types actions action_types type_rows =
    (environments ≡ environments_of s.actions) × AreRows text_cmp (parents_of_type s.entities) types × AreRows uid_cmp (parents_of_action s.actions) actions × IsWellFormed s × ((u : Uid) → ¬ ActionDescends s u u) × HasTypes (keys_of s.actions) action_types × AreTypeRows actions.rows type_rows
