use Rattle.std.proofs.Common.{◌≡◌, ◌-◌, ◌<◌, ◌≤◌, ◌∷◌, length, Some, None, sym, ap, ◌∙◌, subst, arith}
use Rattle.json.specs.Json.{parse_map, after_end_array, items, value}
use Rattle.serde_json.specs.Read.{of_items, converted}
use Rattle.serde_json.specs.View.{view}
use Rattle.base_json.specs.Private.Steps.{opening, items_before, items_after}
use Rattle.base_json.proofs.Reading.{item_read, item_refused, items_over, items_before-no_items, one_more_item}
use Rattle.base_json.proofs.scalars.add_items.Goals as goal

pub returns-in_err-item-clause-err : goal.returns-in_err-item-clause-err
returns-in_err-item-clause-err c refused n depth enough =
    let l = c.items in
    let i = l.invariant.0 n depth enough in
    let going : (after_end_array l.reader ≡ None) × (c.take_end_array.new.self ≡ l.reader) = grind arith in
    i.2 ∙ ap (parse_map (items_before l.found.items)) (item_refused (value depth) i.0 l.reader going.0 (rw (← going.1) (c.read_step.ensures.err (grind arith) depth)))

pub items-preserved : goal.items-preserved
items-preserved c =
    let l = c.items in
    let going : (after_end_array l.reader ≡ None) × (c.take_end_array.new.self ≡ l.reader) = grind arith in
    let done = c.in_ok-item.ensures in
    let scalar = rw c.in-Scalar.is at done.ok in
    let v = c.in-Scalar.item in
    let r = c.read_step.new.reader in
    let less : length r < length l.reader = rw (← going.1) done.shorter in (
      λ n depth enough.
          let p = value depth in
          let i = l.invariant.0 n depth enough in
          let turn = item_read p i.0 l.reader r (view v) (omega (arith, i.1)) going.0 (rw (← going.1) (scalar depth)) in (
            i.0 - 1,
            omega (arith, i.1),
            i.2 ∙ ap (parse_map (items_before l.found.items)) turn ∙ one_more_item l.found.items v _
                ∙ ap (λ vs. parse_map (items_before vs) (converted of_items (items p (i.0 - 1) r))) (sym c.in_ok-push-in-Scalar.ensures.items),
          ),
      omega (arith, l.invariant.1),
    )

pub returns-in-Nested-clause-ok : goal.returns-in-Nested-clause-ok
returns-in-Nested-clause-ok c n depth enough =
    let l = c.items in
    let i = l.invariant.0 n depth enough in
    let going : (after_end_array l.reader ≡ None) × (c.take_end_array.new.self ≡ l.reader) = grind arith in
    let nested = rw c.in-Nested.is at c.in_ok-item.ensures.ok in
    let same : l.reader ≡ opening c.in-Nested.opened ∷ c.read_step.new.reader = sym going.1 ∙ nested in
    (i.0, subst (λ ts. length ts ≤ i.0) same i.1, i.2 ∙ ap (items_after l.found.items depth i.0) same)

pub returns-clause-ok : goal.returns-clause-ok
returns-clause-ok c n depth enough =
    let l = c.items in
    let i = l.invariant.0 n depth enough in
    let r = c.take_end_array.new.self in
    i.2 ∙ ap (parse_map (items_before l.found.items)) (items_over (value depth) i.0 l.reader r i.1 (grind arith)) ∙ ap (λ ds. Some (ds, r)) (items_before-no_items l.found.items)
