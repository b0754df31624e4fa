-- Shapes and contexts: types that expand to records (Cedar documentation, JSON schema format).
use Rattle.std.specs.Prelude.{not, Bool, true, List, [], ◌∷◌, ◌++◌, Option, Some, None, unwrap_or}
use Rattle.serde_json.specs.Data.{Data, object, no_members}
use Rattle.cedar_schema_json.specs.declared.schema_fault.SchemaFault.{SchemaFault}
use Rattle.cedar_schema_json.specs.declared.schema_fault.SchemaFault.TheVariants.{Shape}
use Rattle.cedar_schema_json.specs.declared.form.position.Position.TheVariants.{Inner}
use Rattle.cedar_schema_types.specs.Types.{TypeTree, is_record, record_of, no_attributes}
use Rattle.cedar_schema_json.specs.Naming.{fault_if}
use Rattle.cedar_schema_json.specs.Reading.{Scope, type_read}
use Rattle.cedar_schema_json.specs.Expansion.{Table, Expanded, typed}

-- The type that is there. Without one there is a fault, and the type given in its place has no meaning (own).
abbrev pub record_or_empty : Option TypeTree → TypeTree
record_or_empty o = unwrap_or o (record_of no_attributes)

-- A type that has to expand to a record, the empty one where none is written (Cedar documentation, JSON schema format:
-- shape, context).
unfoldable pub record_type : Scope → Table → Option Data → Expanded
record_type sc t None = record { ty = Some (record_of no_attributes); faults = [] }
record_type sc t (Some d) = record {
  ty = (typed t (type_read sc Inner d).form).ty;
  faults = (type_read sc Inner d).faults ++ ((typed t (type_read sc Inner d).form).faults ++ fault_if (not (is_record (record_or_empty (typed t (type_read sc Inner d).form).ty))) Shape);
}

-- Where it is there, it has to be an object without members (Cedar documentation, JSON schema format: attributes of actions).
abbrev pub empty_faults : Option Data → List SchemaFault
empty_faults None = []
empty_faults (Some (object no_members)) = []
empty_faults (Some _) = Shape ∷ []
