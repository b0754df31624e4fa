use Rattle.std.proofs.lemmas.Result.{err_from_is_err_and}
use Rattle.serde_json.specs.View.{view}
use Rattle.base_json.specs.Items.{to_come}
use Rattle.cedar_conform_diagnostics.specs.declared.data_fault.RefusedEntry.{RefusedEntry}
use Rattle.cedar_conform_diagnostics.proofs.PassingLemmas.{none, end, passed_more, told_after}
use Rattle.cedar_conform_diagnostics.proofs.entries.first_of_items.Goals as goal

pub returns-in_err-entry : goal.returns-in_err-entry
returns-in_err-entry c all p =
    let e = err_from_is_err_and c.from_residual.result c.from_residual.ensures.1 in
    rw (e.1, e.2) (λ i. none c.args.schema.now all (to_come c.walk.items) c.walk.position (c.walk.invariant all p) (c.in_err-entry.ensures.items i))

pub returns-in-Some-judged : goal.returns-in-Some-judged
returns-in-Some-judged c all p =
    let h = rw c.in-Some-judged.is at c.in_ok-judged.ensures in
    told_after c.args.schema.now all (to_come c.walk.items) c.walk.position (c.walk.invariant all p) (λ (r : RefusedEntry). r.position) (λ (r : RefusedEntry). r.fault.number) (view c.in-Some.entry) (to_come c.next.new.self) (rw c.in-Some.is at c.in_ok-entry.ensures.items)
    c.in-Some-judged.refused h.0 h.1 c.after_items.result c.after_items.ensures

pub walk-preserved : goal.walk-preserved
walk-preserved c all p =
    passed_more c.args.schema.now all (to_come c.walk.items) c.walk.position (c.walk.invariant all p) (view c.in-Some.entry) (to_come c.next.new.self) (rw c.in-Some.is at c.in_ok-entry.ensures.items)
    (rw c.in_default-judged.is at c.in_ok-judged.ensures) c.in_ok-position.position c.in_ok-position.ensures

pub returns : goal.returns
returns c all p = end c.args.schema.now all (to_come c.walk.items) c.walk.position (c.walk.invariant all p) (rw c.in_default.is at c.in_ok-entry.ensures.items)
