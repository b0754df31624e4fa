use Rattle.std.proofs.Common.{drop}
use Rattle.serde_json.specs.View.{items_view}
use Rattle.cedar_schema_json.specs.Enumerations.{id_read}
use Rattle.cedar_schema_json.proofs.ListLemmas.{IsReading}
use Rattle.cedar_schema_json.proofs.json.enumeration.read_items.Given as goal

abbrev pub invariant-loop-i : goal.invariant-loop-i
invariant-loop-i l = IsReading id_read l.ids.items (items_view (drop l.i l.items.items)) (items_view l.items.items)
