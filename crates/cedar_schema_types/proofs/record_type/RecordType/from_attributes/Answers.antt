use Rattle.std.proofs.Common.{rules, refl}
use Rattle.std.proofs.lemmas.Cmp.{nat_list_cmp_total}
use Rattle.std.proofs.lemmas.Fn.{always_returns_same}
use Rattle.std.proofs.lemmas.List.Sorted.{ranks_by}
use Rattle.std.specs.Ordering.{is_lt}
use Rattle.cedar_value.specs.Order.{text_cmp}
use Rattle.cedar_value.proofs.ByKeys.{distinct-ascending, ascending-distinct}
use Rattle.cedar_schema_types.specs.declared.attribute.Attribute.{Attribute}
use Rattle.cedar_schema_types.proofs.Names.{name_of}
use Rattle.cedar_schema_types.proofs.record_type.RecordType.from_attributes.Goals as goal

pub from_ascending-requires : goal.from_ascending-requires
from_ascending-requires c = rw c.deref.ensures.value at (c.names_ascend.ensures.0 c.if-names_ascend.true)

pub returns-then-names_ascend-clause-distinct : goal.returns-then-names_ascend-clause-distinct
returns-then-names_ascend-clause-distinct c =
    let up = rw c.deref.ensures.value at (c.names_ascend.ensures.0 c.if-names_ascend.true) in
    (λ _. distinct-ascending name_of _ _ c.in_ok-sort_by.ensures.permutation up, λ _. refl)

pub returns-then-names_ascend-clause-attributes : goal.returns-then-names_ascend-clause-attributes
returns-then-names_ascend-clause-attributes c =
    let up = rw c.deref.ensures.value at (c.names_ascend.ensures.0 c.if-names_ascend.true) in
    (_, c.in_ok-sort_by.ensures.permutation, up, c.from_ascending.ensures)

pub returns-else-names_ascend-clause-distinct : goal.returns-else-names_ascend-clause-distinct
returns-else-names_ascend-clause-distinct c = (
  λ h. cc,
  λ distinct.
      let sorted = c.in_ok-sort_by.ensures.sorted (λ (x : Attribute) (y : Attribute). is_lt (text_cmp x.name y.name)) (ranks_by nat_list_cmp_total (λ (a : Attribute). a.name)) (always_returns_same _ _ _ (λ a r q k. search rules)) in
      let up = ascending-distinct name_of _ _ c.in_ok-sort_by.ensures.permutation sorted distinct in
      let told = c.names_ascend.ensures.1 (rw c.deref.ensures.value up) in cc,
)
