use Rattle.std.proofs.Common.{◌≡◌, ◌++◌, length}
use Rattle.base_json.specs.LentObjects.{object_view}
use Rattle.cedar_schema_types.specs.TypeKind.{attributes_of}
use Rattle.cedar_conform_values.specs.Values.{fields_read}
use Rattle.cedar_conform_values.proofs.lent_record.read_lent_fields.Given as goal

-- what was read, before what is left to read, is all
abbrev pub invariant-walk : goal.invariant-walk
invariant-walk l = record {
  pairs : l.pairs.items ++ (fields_read (attributes_of l.rest) (object_view l.found)).pairs ≡ (fields_read (attributes_of l.attributes) (object_view l.found)).pairs;
  faults : (fields_read (attributes_of l.rest) (object_view l.found)).faults ≡ (fields_read (attributes_of l.attributes) (object_view l.found)).faults;
}

abbrev pub decreases-walk : goal.decreases-walk
decreases-walk l = length l.rest
