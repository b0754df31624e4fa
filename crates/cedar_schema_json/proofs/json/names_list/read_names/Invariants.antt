use Rattle.std.proofs.Common.{drop}
use Rattle.serde_json.specs.View.{items_view}
use Rattle.cedar_schema_json.specs.Lists.{name_read}
use Rattle.cedar_schema_json.specs.Reads.{scope_of}
use Rattle.cedar_schema_json.proofs.ListLemmas.{IsReading}
use Rattle.cedar_schema_json.proofs.json.names_list.read_names.Given as goal

abbrev pub invariant-loop-i : goal.invariant-loop-i
invariant-loop-i l = IsReading (name_read (scope_of l.scope).entities (scope_of l.scope).namespace) l.names.items (items_view (drop l.i l.items.items)) (items_view l.items.items)
