use Rattle.std.proofs.Common.{rules, ap, sym, ◌∙◌}
use Rattle.std.proofs.lemmas.Fn.{always_returns_same}
use Rattle.cedar_value.specs.Order.{text_cmp}
use Rattle.cedar_schema_types.specs.TypeKind.{attributes_of}
use Rattle.cedar_schema_types.specs.declared.attribute.Attribute.{Attribute}
use Rattle.cedar_schema_types.proofs.Inserted.{set_there, put_there}
use Rattle.cedar_schema_types.proofs.record_type.put.Goals as goal

pub returns-in-Ok-clause-added : goal.returns-in-Ok-clause-added
returns-in-Ok-clause-added c =
    let found = c.in-Ok.ensures.position (λ (a : Attribute). text_cmp a.name c.args.attribute.name) (always_returns_same _ _ _ (λ a r g called. search rules)) in
    sym (set_there c.args.attributes.now.items c.args.attribute c.in-Ok.place c.requires (rw c.deref.ensures.value at c.in-Ok.ensures.bound) (λ d. rw c.deref.ensures.value at (found d)))

pub returns-in_ok-insert-in-Err-clause-added : goal.returns-in_ok-insert-in-Err-clause-added
returns-in_ok-insert-in-Err-clause-added c =
    let gap = c.in-Err.ensures.position (λ (a : Attribute). text_cmp a.name c.args.attribute.name) (always_returns_same _ _ _ (λ a r g called. search rules)) in
    ap attributes_of c.in_ok-insert-in-Err.ensures.items
    ∙ sym (put_there c.args.attributes.now.items c.args.attribute c.in-Err.place c.requires (rw c.deref.ensures.value at c.in-Err.ensures.bound) (rw c.deref.ensures.value at gap))
