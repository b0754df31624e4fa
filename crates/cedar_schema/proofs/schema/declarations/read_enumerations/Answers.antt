use Rattle.std.proofs.Common.{◌+◌, ◌<◌, drop, length, drop_of_length-le, arith, ap}
use Rattle.std.proofs.lemmas.Result.{err_from_is_err_and}
use Rattle.cedar_schema_json.specs.EntryView.{entries_view, entry_of}
use Rattle.cedar_schema.specs.Schemas.{add_enumeration, enumerated_faults}
use Rattle.cedar_schema.proofs.EachLemmas.{entries_here, going_start, going_more, going_refused, going_end}
use Rattle.cedar_schema.proofs.schema.declarations.read_enumerations.Goals as goal

pub loop-i-init : goal.loop-i-init
loop-i-init c = going_start add_enumeration enumerated_faults c.new-found.result.entries (entries_view c.args.entries.now) c.new-found.ensures.empty

pub loop-i-preserved : goal.loop-i-preserved
loop-i-preserved c =
    let here : c.loop-i.i < length c.args.entries.now = omega arith in
    going_more add_enumeration enumerated_faults c.loop-i.found.entries _ _ (entries_view (drop (c.loop-i.i + 1) c.args.entries.now)) (entries_view c.args.entries.now) (entry_of c.index-entries-i.result)
    (entries_here c.args.entries.now c.loop-i.i c.index-entries-i.result here c.index-entries-i.is)
    (c.in_ok-add_enumeration.ensures c.in_ok-enumeration.ensures.1) c.in_ok-enumeration.ensures.0 c.loop-i.invariant

pub returns-in_err-enumeration : goal.returns-in_err-enumeration
returns-in_err-enumeration c =
    let here : c.loop-i.i < length c.args.entries.now = omega arith in
    let p = err_from_is_err_and c.from_residual.result c.from_residual.ensures.1 in
    rw (p.1, p.2) (going_refused add_enumeration enumerated_faults c.loop-i.found.entries _ (entries_view (drop (c.loop-i.i + 1) c.args.entries.now)) (entries_view c.args.entries.now) (entry_of c.index-entries-i.result) _
    (entries_here c.args.entries.now c.loop-i.i c.index-entries-i.result here c.index-entries-i.is) c.in_err-enumeration.ensures c.loop-i.invariant)

pub returns : goal.returns
returns c = going_end add_enumeration enumerated_faults c.loop-i.found.entries _ (entries_view c.args.entries.now) (ap entries_view (drop_of_length-le c.args.entries.now {i = c.loop-i.i} (omega arith))) c.loop-i.invariant
