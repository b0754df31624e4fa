use Rattle.std.proofs.Common.{◌≡◌, ◌-◌, ◌∷◌, length, Some, string_bytes, sym, ap, ◌∙◌, arith}
use Rattle.json.specs.Json.{parse_map, items, members, value}
use Rattle.json.proofs.Grammar.{value-begin_array, value-begin_object, read_key-shorter}
use Rattle.serde_json.specs.Data.{array, object}
use Rattle.serde_json.specs.Read.{of_json, of_items, converted}
use Rattle.serde_json.specs.View.{view, members_view}
use Rattle.serde_json.proofs.Views.{view-Array, view-Object}
use Rattle.base_json.specs.Private.Steps.{opening, items_before}
use Rattle.base_json.proofs.Reading.{converted-array, converted-object, item_read, item_refused, member_read, member_refused, one_more_item, none_too_deep, opens_no_end}
use Rattle.base_json.proofs.tree.+read_nested.Goals as goal

pub read_nested-returns-then-depth-eq0-clause-err : goal.read_nested-returns-then-depth-eq0-clause-err
read_nested-returns-then-depth-eq0-clause-err t c never =
    let none : c.args.depth ≡ 0 = omega arith in
    ap (λ depth. converted of_json (value depth (opening c.args.opened ∷ c.args.reader.now))) none ∙ none_too_deep c.args.opened c.args.reader.now

pub read_nested-returns-in_err-read_items-in-Array-clause-err : goal.read_nested-returns-in_err-read_items-in-Array-clause-err
read_nested-returns-in_err-read_items-in-Array-clause-err t c refused =
    let ts = c.args.reader.now in
    let opened = ap (λ o. converted of_json (value c.args.depth (opening o ∷ ts))) c.in-Array.is ∙ ap (converted of_json) (value-begin_array c.args.depth ts (omega arith)) ∙ converted-array (items (value (c.args.depth - 1)) (length ts) ts) in
    opened ∙ ap (parse_map array) (c.read_items.ensures.err (grind arith))

pub read_nested-returns-in_err-read_members-in-Object-clause-err : goal.read_nested-returns-in_err-read_members-in-Object-clause-err
read_nested-returns-in_err-read_members-in-Object-clause-err t c refused =
    let ts = c.args.reader.now in
    let opened = ap (λ o. converted of_json (value c.args.depth (opening o ∷ ts))) c.in-Object.is ∙ ap (converted of_json) (value-begin_object c.args.depth ts (omega arith)) ∙ converted-object (members (value (c.args.depth - 1)) (length ts) ts) in
    opened ∙ ap (parse_map object) (c.read_members.ensures.err (grind arith))

pub read_nested-returns-in_ok-read_items-in-Array-clause-ok : goal.read_nested-returns-in_ok-read_items-in-Array-clause-ok
read_nested-returns-in_ok-read_items-in-Array-clause-ok t c =
    let ts = c.args.reader.now in
    let opened = ap (λ o. converted of_json (value c.args.depth (opening o ∷ ts))) c.in-Array.is ∙ ap (converted of_json) (value-begin_array c.args.depth ts (omega arith)) ∙ converted-array (items (value (c.args.depth - 1)) (length ts) ts) in
    let found = c.in_ok-read_items-in-Array in
    opened ∙ ap (parse_map array) found.ensures.ok ∙ ap (λ d. Some (d, c.read_items.new.reader)) (sym (view-Array found.field-0))

pub read_nested-returns-in_ok-read_members-in-Object-clause-ok : goal.read_nested-returns-in_ok-read_members-in-Object-clause-ok
read_nested-returns-in_ok-read_members-in-Object-clause-ok t c =
    let ts = c.args.reader.now in
    let opened = ap (λ o. converted of_json (value c.args.depth (opening o ∷ ts))) c.in-Object.is ∙ ap (converted of_json) (value-begin_object c.args.depth ts (omega arith)) ∙ converted-object (members (value (c.args.depth - 1)) (length ts) ts) in
    let found = c.in_ok-read_members-in-Object in
    opened ∙ ap (parse_map object) found.ensures.ok ∙ ap (λ d. Some (d, c.read_members.new.reader)) (sym (view-Object found.field-0))

pub read_items-returns-in_err-item-clause-err : goal.read_items-returns-in_err-item-clause-err
read_items-returns-in_err-item-clause-err t c refused =
    let p = value c.args.depth in
    let l = c.items in
    let o = c.in-Some.opened in
    let r = c.add_items.new.reader in
    let scalars = rw c.in-Some.is at c.in_ok-opened.ensures.ok in
    let i = scalars l.invariant.0 c.args.depth l.invariant.1 in
    l.invariant.2 ∙ i.2 ∙ ap (parse_map (items_before c.add_items.new.found.items)) (item_refused p i.0 (opening o ∷ r) (opens_no_end o r) (c.read_nested.ensures.err (grind arith)))

pub read_items-items-preserved : goal.read_items-items-preserved
read_items-items-preserved t c =
    let p = value c.args.depth in
    let l = c.items in
    let o = c.in-Some.opened in
    let s = c.add_items.new.reader in
    let scalars = rw c.in-Some.is at c.in_ok-opened.ensures.ok in
    let i = scalars l.invariant.0 c.args.depth l.invariant.1 in
    let passed = c.in_ok-opened.ensures.shorter in
    let old = c.add_items.new.found.items in
    let v = c.in_ok-item.item in
    let r = c.read_nested.new.reader in
    let less = c.in_ok-item.ensures.shorter in
    let turn = item_read p i.0 (opening o ∷ s) r (view v) (omega (arith, i.1)) (opens_no_end o s) c.in_ok-item.ensures.ok in (
      i.0 - 1,
      omega (arith, i.1),
      l.invariant.2 ∙ i.2 ∙ ap (parse_map (items_before old)) turn ∙ one_more_item old v _
          ∙ ap (λ vs. parse_map (items_before vs) (converted of_items (items p (i.0 - 1) r))) (sym c.in_ok-push.ensures.items),
      omega (arith, l.invariant.3),
    )

pub read_members-returns-in_err-member-clause-err : goal.read_members-returns-in_err-member-clause-err
read_members-returns-in_err-member-clause-err t c refused =
    let p = value c.args.depth in
    let l = c.members in
    let old = members_view c.add_members.new.found.entries in
    let scalars = rw c.in-Some.is at c.in_ok-key.ensures.ok in
    let i = scalars l.invariant.0 c.args.depth l.invariant.1 in
    l.invariant.2 ∙ i.4 ∙ member_refused p old i.0 (string_bytes c.in-Some.key) i.1 (opening c.in-Some.opened ∷ c.add_members.new.reader) i.3 (c.read_nested.ensures.err (grind arith))

pub read_members-members-preserved : goal.read_members-members-preserved
read_members-members-preserved t c =
    let p = value c.args.depth in
    let l = c.members in
    let old = members_view c.add_members.new.found.entries in
    let k = string_bytes c.in-Some.key in
    let scalars = rw c.in-Some.is at c.in_ok-key.ensures.ok in
    let i = scalars l.invariant.0 c.args.depth l.invariant.1 in
    let s = opening c.in-Some.opened ∷ c.add_members.new.reader in
    let passed = c.in_ok-key.ensures.shorter in
    let v = c.in_ok-member.member in
    let r = c.read_nested.new.reader in
    let less = c.in_ok-member.ensures.shorter in
    let key = read_key-shorter i.1 (Some k) s i.3 in (
      i.0 - 1,
      omega (arith, i.2),
      l.invariant.2 ∙ i.4 ∙ member_read p old i.0 k i.1 s r (view v) (omega (arith, i.2)) i.3 c.in_ok-member.ensures.ok,
      omega (arith, l.invariant.3),
    )
