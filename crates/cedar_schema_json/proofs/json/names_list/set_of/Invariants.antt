use Rattle.std.proofs.Common.{◌≡◌, []}
use Rattle.std.specs.Vec.Iter.{into_iter_items}
use Rattle.cedar_schema_json.specs.Lists.{set_onto}
use Rattle.cedar_schema_json.proofs.json.names_list.set_of.Given as goal

abbrev pub invariant-loop-name : goal.invariant-loop-name
invariant-loop-name l = set_onto l.set.keys (into_iter_items l.name-iterator) ≡ set_onto [] l.fn.names.items
