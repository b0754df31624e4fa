use Rattle.std.proofs.Common.{sym, ◌∙◌}
use Rattle.std.proofs.lemmas.Slice.Eq.{slice_eq-Decides}
use Rattle.cedar_value.specs.Private.Equality.{same_uid-Decides}
use Rattle.cedar_store.proofs.links_stay.do_parents_stay.Goals as goal

pub returns-else-not-is_linked : goal.returns-else-not-is_linked
returns-else-not-is_linked c =
    λ t linked. sym c.links.ensures ∙ (slice_eq-Decides same_uid-Decides c.links.result.now c.links-else-not-is_linked.result.now c.eq.result c.eq.ensures).0 t ∙ c.links-else-not-is_linked.ensures
