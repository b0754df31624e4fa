use Rattle.std.proofs.Common.{◌≡◌, []}
use Rattle.std.specs.Vec.Iter.{into_iter_items}
use Rattle.cedar_schema_json.specs.Lists.{set_onto}
use Rattle.cedar_schema_json.proofs.json.enumeration.set_of.Given as goal

abbrev pub invariant-loop-id : goal.invariant-loop-id
invariant-loop-id l = set_onto l.set.keys (into_iter_items l.id-iterator) ≡ set_onto [] l.fn.ids.items
