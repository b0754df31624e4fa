use Rattle.std.proofs.Common.{sym, ap, ◌∙◌}
use Rattle.std.proofs.lemmas.Result.{err_from_is_err_and}
use Rattle.cedar_conform_entities.proofs.ComingLemmas.{coming_start, coming_as, coming_refused, coming_entered, coming_twice_refused}
use Rattle.base_json.specs.Items.{to_come}
use Rattle.base_json.specs.Lists.{left_in}
use Rattle.cedar_conform_entities.proofs.list.read_objects.Goals as goal

pub walk-init : goal.walk-init
walk-init c = coming_start c.args.schema.now c.args.first.items (left_in c.args.list.now) c.new-repeated.result c.new-repeated.ensures.empty

pub returns-in_err-entry : goal.returns-in_err-entry
returns-in_err-entry c =
    let p = err_from_is_err_and c.from_residual.result c.from_residual.ensures.1 in
    rw (p.1, p.2) (coming_refused c.args.schema.now c.args.first.items (left_in c.args.list.now) (left_in c.walk.list) c.walk.entities.items c.walk.repeated c.walk.invariant _ c.in_err-entry.ensures.entry)

pub returns-in-Err : goal.returns-in-Err
returns-in-Err c =
    coming_twice_refused c.args.schema.now c.args.first.items (left_in c.args.list.now) (left_in c.walk.list) c.walk.entities.items c.walk.repeated c.walk.invariant (left_in c.next_object_entry.new.list) c.in-Some.entry (rw c.in-Some.is at c.in_ok-entry.ensures.entry)
    c.in-Err.fault c.after_object_fault.result c.in-Err.ensures c.after_object_fault.ensures

pub walk-preserved : goal.walk-preserved
walk-preserved c =
    coming_entered c.args.schema.now c.args.first.items (left_in c.args.list.now) (left_in c.walk.list) c.walk.entities.items c.walk.repeated c.walk.invariant (left_in c.next_object_entry.new.list) c.in-Some.entry (rw c.in-Some.is at c.in_ok-entry.ensures.entry)
    c.enter.new.entities.items c.enter.new.repeated c.in_default-enter.ensures

pub returns : goal.returns
returns c =
    let unchanged = rw c.in_default.is at c.in_ok-entry.ensures.entry in
    let same = sym (ap left_in unchanged) ∙ sym (ap to_come c.in_ok-items.ensures) in
    c.read_rest.ensures c.args.first.items (left_in c.args.list.now)
    (coming_as c.args.schema.now c.args.first.items (left_in c.args.list.now) (left_in c.walk.list) (to_come c.in_ok-items.items) c.walk.entities.items c.walk.repeated same c.walk.invariant)
