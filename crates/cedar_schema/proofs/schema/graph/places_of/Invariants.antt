use Rattle.std.proofs.Common.{◌≡◌, length}
use Rattle.std.specs.BTreeMap.{btree_map_len}
use Rattle.base_reach.specs.Private.Lent.{lent}
use Rattle.cedar_schema.specs.Private.Kept.{ArePlacesBelow}
use Rattle.cedar_schema.proofs.schema.graph.places_of.Given as goal

abbrev pub invariant-loop-place : goal.invariant-loop-place
invariant-loop-place g l = record {
  long : length l.places.items ≡ btree_map_len l.numbers;
  placed : ArePlacesBelow g.K.Ord.cmp l.numbers (lent l.declared) l.place l.places.items;
}
