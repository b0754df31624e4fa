use Rattle.std.proofs.Common.{rules}
use Rattle.std.proofs.lemmas.Fn.{always_returns_same}
use Rattle.std.specs.Bool.{one_answer}
use Rattle.cedar_value.specs.Datum.{Datum}
use Rattle.cedar_value.specs.Glance.{datum_seen}
use Rattle.cedar_value.specs.Order.{datum_cmp}
use Rattle.cedar_value.proofs.Members.{searched_members, has_member-Contains}
use Rattle.cedar_value.proofs.value_set.ValueSet.has.Goals as goal

pub returns : goal.returns
returns c =
    let position = c.binary_search_by.ensures.position (λ (d : Datum). datum_cmp d (datum_seen c.args.value)) (always_returns_same _ _ _ (λ a r g called. search rules)) in
    let found = searched_members _ (datum_seen c.args.value) c.binary_search_by.result c.self.invariant.0 (rw c.deref.ensures.value at c.binary_search_by.ensures.bound) (rw c.deref.ensures.value at position) in
    rw (← c.self.view_is, c.is_ok.ensures.value) (one_answer _ _ found (has_member-Contains _ _))
