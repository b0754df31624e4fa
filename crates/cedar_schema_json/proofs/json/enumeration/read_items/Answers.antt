use Rattle.std.proofs.Common.{◌+◌, ◌<◌, drop, length, drop_of_length-le, arith, ap}
use Rattle.std.proofs.lemmas.Result.{err_from_is_err_and}
use Rattle.serde_json.specs.View.{view, items_view}
use Rattle.cedar_schema_json.specs.Enumerations.{id_read}
use Rattle.cedar_schema_json.proofs.ListLemmas.{reading_start, items_here, reading_more, reading_refused, reading_end}
use Rattle.cedar_schema_json.proofs.json.enumeration.read_items.Goals as goal

pub loop-i-init : goal.loop-i-init
loop-i-init c = reading_start id_read (items_view c.args.items.now.items) c.new-ids.result.items c.new-ids.ensures.items

pub loop-i-preserved : goal.loop-i-preserved
loop-i-preserved c =
    let n = c.len-i-end.ensures in
    let v = c.args.items.now.ok.0 in
    let here : c.loop-i.i < length c.args.items.now.items = omega arith in
    reading_more id_read c.loop-i.ids.items _ (items_view (drop (c.loop-i.i + 1) c.args.items.now.items)) _ (view c.index.result.now) c.in_ok-id.id _
    (items_here c.args.items.now.items c.loop-i.i c.index.result.now here c.index.ensures) c.in_ok-push.ensures.items c.in_ok-id.ensures.0 c.in_ok-id.ensures.1 c.loop-i.invariant

pub returns-in_err-id : goal.returns-in_err-id
returns-in_err-id c =
    let n = c.len-i-end.ensures in
    let v = c.args.items.now.ok.0 in
    let here : c.loop-i.i < length c.args.items.now.items = omega arith in
    let p = err_from_is_err_and c.from_residual.result c.from_residual.ensures.1 in
    rw (p.1, p.2) (reading_refused id_read c.loop-i.ids.items _ (items_view (drop (c.loop-i.i + 1) c.args.items.now.items)) (items_view c.args.items.now.items) (view c.index.result.now) _
    (items_here c.args.items.now.items c.loop-i.i c.index.result.now here c.index.ensures) c.in_err-id.ensures c.loop-i.invariant)

pub returns : goal.returns
returns c =
    let n = c.len-i-end.ensures in
    let v = c.args.items.now.ok.0 in
    reading_end id_read c.loop-i.ids.items _ (items_view c.args.items.now.items) (ap items_view (drop_of_length-le c.args.items.now.items {i = c.loop-i.i} (omega arith))) c.loop-i.invariant
