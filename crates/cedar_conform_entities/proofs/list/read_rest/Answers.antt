use Rattle.std.proofs.lemmas.Result.{err_from_is_err_and}
use Rattle.cedar_conform_entities.proofs.ComingLemmas.{coming_end, coming_refused, coming_entered, coming_twice_refused}
use Rattle.base_json.specs.Items.{to_come}
use Rattle.cedar_conform_entities.proofs.list.read_rest.Goals as goal

pub returns-in_err-entry : goal.returns-in_err-entry
returns-in_err-entry c first all p =
    let e = err_from_is_err_and c.from_residual.result c.from_residual.ensures.1 in
    rw (e.1, e.2) (coming_refused c.args.schema.now first all (to_come c.walk.items) c.walk.entities.items c.walk.repeated (c.walk.invariant first all p) _ c.in_err-entry.ensures.entry)

pub returns-in-Err : goal.returns-in-Err
returns-in-Err c first all p =
    coming_twice_refused c.args.schema.now first all (to_come c.walk.items) c.walk.entities.items c.walk.repeated (c.walk.invariant first all p) (to_come c.next_entry.new.items) c.in-Some.entry (rw c.in-Some.is at c.in_ok-entry.ensures.entry)
    c.in-Err.fault c.after_fault.result c.in-Err.ensures c.after_fault.ensures

pub walk-preserved : goal.walk-preserved
walk-preserved c first all p =
    coming_entered c.args.schema.now first all (to_come c.walk.items) c.walk.entities.items c.walk.repeated (c.walk.invariant first all p) (to_come c.next_entry.new.items) c.in-Some.entry (rw c.in-Some.is at c.in_ok-entry.ensures.entry)
    c.enter.new.entities.items c.enter.new.repeated c.in_default-enter.ensures

pub returns : goal.returns
returns c first all p =
    coming_end c.args.schema.now first all (to_come c.walk.items) c.walk.entities.items c.walk.repeated (c.walk.invariant first all p) (rw c.in_default.is at c.in_ok-entry.ensures.entry)
