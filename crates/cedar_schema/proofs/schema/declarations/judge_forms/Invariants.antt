use Rattle.std.proofs.Common.{◌≡◌, drop}
use Rattle.cedar_schema.specs.Each.{each_faults}
use Rattle.cedar_schema_json.specs.TableView.{table_of}
use Rattle.cedar_schema.specs.Schemas.{expansion_faults}
use Rattle.cedar_schema.proofs.schema.declarations.judge_forms.Given as goal

abbrev pub invariant-loop-i : goal.invariant-loop-i
invariant-loop-i l =
    let t = table_of l.table.forms.now in
    each_faults (expansion_faults t) t ≡ each_faults (expansion_faults t) (table_of (drop l.i l.table.forms.now))
