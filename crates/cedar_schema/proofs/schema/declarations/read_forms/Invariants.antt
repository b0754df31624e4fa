use Rattle.std.proofs.Common.{◌≡◌, ◌++◌, drop}
use Rattle.cedar_schema.specs.Each.{each_faults}
use Rattle.cedar_schema_json.specs.EntryView.{entries_view}
use Rattle.cedar_schema_json.specs.TableView.{table_of}
use Rattle.cedar_schema.specs.Schemas.{common_faults, forms_of}
use Rattle.cedar_schema.proofs.schema.declarations.read_forms.Given as goal

abbrev pub invariant-loop-i : goal.invariant-loop-i
invariant-loop-i l = record {
  list : table_of l.forms.items ++ forms_of l.language l.entities l.commons (entries_view (drop l.i l.entries)) ≡ forms_of l.language l.entities l.commons (entries_view l.entries);
  faults : each_faults (common_faults l.language l.entities l.commons) (entries_view l.entries) ≡ each_faults (common_faults l.language l.entities l.commons) (entries_view (drop l.i l.entries));
}
