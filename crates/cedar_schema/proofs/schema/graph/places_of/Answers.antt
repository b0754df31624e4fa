use Rattle.std.proofs.Common.{refl, ◌∙◌}
use Rattle.std.specs.BTreeMap.{get}
use Rattle.base_reach.specs.Private.Lent.{lent}
use Rattle.cedar_schema.proofs.Numbered.{lent_at, places_first, places_next}
use Rattle.cedar_schema.proofs.schema.graph.places_of.Goals as goal

pub loop-place-init : goal.loop-place-init
loop-place-init g c = record {
  long = c.in_ok-places.ensures.long ∙ c.len.ensures.len;
  placed = places_first g.K.Ord.cmp c.args.numbers.now (lent c.args.declared.now) c.in_ok-places.places.items c.in_ok-places.ensures.none;
}

pub loop-place-preserved : goal.loop-place-preserved
loop-place-preserved g c =
    let R = g.K.Ord.cmp in
    let keys = c.args.declared.now in
    let key = c.index-declared-place.result in
    let more = places_next R c.args.numbers.now (lent keys) c.loop-place.places.items c.place_key.new.places.items c.loop-place.place key.now (get R c.args.numbers.now key.now) c.requires c.loop-place.invariant.long
    (lent_at keys c.loop-place.place key c.loop-place-test.true c.index-declared-place.is) refl c.place_key.ensures c.loop-place.invariant.placed in
    record { long = more.0; placed = more.1 }
