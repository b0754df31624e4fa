use Rattle.std.proofs.Common.{List, ◌++◌, ap, ◌∙◌}
use Rattle.cedar_ext.specs.declared.pattern.Element.{Element}
use Rattle.cedar_policies_json.proofs.Lists.{none_read}
use Rattle.cedar_policies_json.proofs.Patterns.{parts_more, parts_stop, parts_end}
use Rattle.cedar_policies_json.proofs.pattern.read_parts.Goals as goal

pub walk-init : goal.walk-init
walk-init c = none_read _ _ c.new-elements.ensures.items

pub walk-preserved : goal.walk-preserved
walk-preserved c =
    parts_more _ _ c.walk.rest.now c.in-Some.part.now _ c.in-Some-2.more.items _
    c.in-Some.ensures.cases.0 (rw c.in-Some-2.is at c.in_ok-more.ensures)
    (c.in_ok-extend_from_slice.ensures.items ∙ ap (λ (xs : List Element). c.walk.elements.items ++ xs) c.deref.ensures.value) c.walk.invariant

pub returns-in_default-2 : goal.returns-in_default-2
returns-in_default-2 c =
    parts_stop _ c.walk.rest.now c.in-Some.part.now _ _ c.in-Some.ensures.cases.0 (rw c.in_default-2.is at c.in_ok-more.ensures) c.walk.invariant

pub returns : goal.returns
returns c = parts_end _ c.walk.rest.now _ c.in_default.ensures.cases c.walk.invariant
