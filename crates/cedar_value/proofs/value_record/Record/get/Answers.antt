use Rattle.std.proofs.Common.{◌≡◌, ℕ, List, rules, sym}
use Rattle.std.specs.declared.cmp.Ordering.TheVariants.{Equal}
use Rattle.std.proofs.lemmas.Fn.{always_returns_same}
use Rattle.cedar_value.specs.Datum.{Datum}
use Rattle.cedar_value.specs.Order.{text_cmp}
use Rattle.cedar_value.proofs.Keys.{value_at-place, value_at-gap}
use Rattle.cedar_value.proofs.value_record.Record.get.Goals as goal

pub returns-in-Ok : goal.returns-in-Ok
returns-in-Ok c =
    let found = c.in-Ok.ensures.position (λ (p : List ℕ × Datum). text_cmp p.0 c.args.key.now) (always_returns_same _ _ _ (λ a r g called. search rules)) in
    let pair = c.index.result.now in
    let same : text_cmp pair.0 c.args.key.now ≡ Equal = rw c.index.ensures (rw c.deref-2.ensures.value at (found pair)) in
    rw (← c.self.view_is) (sym (value_at-place _ c.args.key.now c.in-Ok.place pair c.self.invariant.0 (rw c.deref-2.ensures.value at c.in-Ok.ensures.bound) c.index.ensures same))

pub returns-in-Err : goal.returns-in-Err
returns-in-Err c =
    let gap = c.in-Err.ensures.position (λ (p : List ℕ × Datum). text_cmp p.0 c.args.key.now) (always_returns_same _ _ _ (λ a r g called. search rules)) in
    rw (← c.self.view_is) (sym (value_at-gap _ c.args.key.now c.in-Err.field-0 c.self.invariant.0 (rw c.deref-2.ensures.value at gap)))
