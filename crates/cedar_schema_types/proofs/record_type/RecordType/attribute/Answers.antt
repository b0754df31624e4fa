use Rattle.std.proofs.Common.{◌≡◌, rules, sym}
use Rattle.std.specs.declared.cmp.Ordering.TheVariants.{Equal}
use Rattle.std.proofs.lemmas.Fn.{always_returns_same}
use Rattle.cedar_value.specs.Order.{text_cmp}
use Rattle.cedar_schema_types.specs.declared.attribute.Attribute.{Attribute}
use Rattle.cedar_schema_types.proofs.Names.{attribute_at-place, attribute_at-gap}
use Rattle.cedar_schema_types.proofs.Orders.{names_ascend}
use Rattle.cedar_schema_types.proofs.record_type.RecordType.attribute.Goals as goal

pub returns-in-Ok : goal.returns-in-Ok
returns-in-Ok c =
    let found = c.in-Ok.ensures.position (λ (a : Attribute). text_cmp a.name c.args.name.now) (always_returns_same _ _ _ (λ a r g called. search rules)) in
    let attribute = c.index.result.now in
    let same : text_cmp attribute.name c.args.name.now ≡ Equal = rw c.index.ensures (rw c.deref.ensures.value at (found attribute)) in
    rw (← c.self.view_is) (sym (attribute_at-place _ c.args.name.now c.in-Ok.place attribute (names_ascend _ c.self.invariant) (rw c.deref.ensures.value at c.in-Ok.ensures.bound) c.index.ensures same))

pub returns-in-Err : goal.returns-in-Err
returns-in-Err c =
    let gap = c.in-Err.ensures.position (λ (a : Attribute). text_cmp a.name c.args.name.now) (always_returns_same _ _ _ (λ a r g called. search rules)) in
    rw (← c.self.view_is) (sym (attribute_at-gap _ c.args.name.now c.in-Err.field-0 (names_ascend _ c.self.invariant) (rw c.deref.ensures.value at gap)))
