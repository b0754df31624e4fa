use Rattle.std.proofs.Common.{sym, ◌∙◌}
use Rattle.cedar_policies_json.specs.Parts.{uid_read}
use Rattle.cedar_policies_json.proofs.Lists.{none_read, items_more, items_stop, items_end}
use Rattle.cedar_policies_json.proofs.scope.read_uids.Goals as goal

pub walk-init : goal.walk-init
walk-init c = none_read _ _ c.new-found.ensures.items

pub walk-preserved : goal.walk-preserved
walk-preserved c =
    items_more uid_read _ _ c.walk.rest.now c.in-Some.item.now _ c.in-Some-2.uid _
    c.in-Some.ensures.cases.0 (sym c.in-Some-2.is ∙ c.in_ok-uid.ensures) c.in_ok-push.ensures.items c.walk.invariant

pub returns-in_default-2 : goal.returns-in_default-2
returns-in_default-2 c =
    items_stop uid_read _ c.walk.rest.now c.in-Some.item.now _ _ c.in-Some.ensures.cases.0 (sym c.in_default-2.is ∙ c.in_ok-uid.ensures) c.walk.invariant

pub returns : goal.returns
returns c = items_end uid_read _ c.walk.rest.now _ c.in_default.ensures.cases c.walk.invariant
