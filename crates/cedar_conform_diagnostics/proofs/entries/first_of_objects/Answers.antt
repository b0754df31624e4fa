use Rattle.std.proofs.Common.{refl, sym, ap, ◌∙◌}
use Rattle.serde_json.specs.View.{view}
use Rattle.base_json.specs.Items.{to_come}
use Rattle.cedar_conform_diagnostics.specs.declared.data_fault.RefusedEntry.{RefusedEntry}
use Rattle.cedar_conform_diagnostics.proofs.PassingLemmas.{start, passed_as, passed_more, told_after}
use Rattle.cedar_conform_diagnostics.proofs.entries.first_of_objects.Goals as goal

pub walk-init : goal.walk-init
walk-init c = start c.args.schema.now (to_come c.args.objects.now)

pub returns-in-Some-judged : goal.returns-in-Some-judged
returns-in-Some-judged c =
    let h = rw c.in-Some-judged.is at c.in_ok-judged.ensures in
    told_after c.args.schema.now (to_come c.args.objects.now) (to_come c.walk.objects) c.walk.position c.walk.invariant (λ (r : RefusedEntry). r.position) (λ (r : RefusedEntry). r.fault.number) (view c.in-Some.entry) (to_come c.next.new.self) (rw c.in-Some.is at c.in_ok-entry.ensures.items)
    c.in-Some-judged.refused h.0 h.1 c.after_objects.result c.after_objects.ensures

pub walk-preserved : goal.walk-preserved
walk-preserved c =
    passed_more c.args.schema.now (to_come c.args.objects.now) (to_come c.walk.objects) c.walk.position c.walk.invariant (view c.in-Some.entry) (to_come c.next.new.self) (rw c.in-Some.is at c.in_ok-entry.ensures.items)
    (rw c.in_default-judged.is at c.in_ok-judged.ensures) c.in_ok-position.position c.in_ok-position.ensures

pub returns : goal.returns
returns c =
    let unchanged = rw c.in_default.is at c.in_ok-entry.ensures.items in
    let same = sym (c.in_ok-items.ensures ∙ unchanged) in
    c.first_of_items.ensures (to_come c.args.objects.now)
    (passed_as c.args.schema.now (to_come c.args.objects.now) (to_come c.args.objects.now) (to_come c.walk.objects) (to_come c.in_ok-items.items) c.walk.position refl (ap to_come same) c.walk.invariant)
