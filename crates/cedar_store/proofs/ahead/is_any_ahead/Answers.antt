use Rattle.std.proofs.Common.{◌≡◌, true, false, List, sym, ap, ◌∙◌, arith}
use Rattle.std.specs.List.{list_any}
use Rattle.cedar_value.specs.declared.uid.Uid.{Uid}
use Rattle.cedar_store.specs.Private.Kept.{has_datum, has_row, in_ahead, is_number_of}
use Rattle.cedar_store.proofs.Near.{near_is_ahead, none_is_ahead}
use Rattle.cedar_store.proofs.NearMembers.{more_members, no_members}
use Rattle.cedar_store.proofs.ahead.is_any_ahead.Goals as goal

pub returns-then-is_any_near : goal.returns-then-is_any_near
returns-then-is_any_near c =
    let keys = c.args.numbers.now.keys in
    let rows = c.args.rows.now in
    let near = c.args.near.now in
    let values = c.args.values.now in
    let is : list_any (has_datum (λ u. list_any (is_number_of keys u) near)) values ≡ true =
    ap (λ (ks : List Uid). list_any (has_datum (λ u. list_any (is_number_of ks u) near)) values) (sym c.as_slice.ensures.keys) ∙ sym c.is_any_near.ensures ∙ c.if-is_any_near.true in
    sym (more_members (λ u. list_any (is_number_of keys u) near) (in_ahead keys rows near) (λ u h. near_is_ahead keys rows near u c.as_slice.ensures.unique h) values is)

pub returns-then-not-has_rows : goal.returns-then-not-has_rows
returns-then-not-has_rows c =
    let keys = c.args.numbers.now.keys in
    let rows = c.args.rows.now in
    let near = c.args.near.now in
    let values = c.args.values.now in
    let is_not : list_any (has_datum (λ u. list_any (is_number_of keys u) near)) values ≡ false =
    ap (λ (ks : List Uid). list_any (has_datum (λ u. list_any (is_number_of ks u) near)) values) (sym c.as_slice.ensures.keys) ∙ sym c.is_any_near.ensures ∙ c.if-is_any_near.false in
    let none : list_any (has_row rows) near ≡ false = grind arith in
    sym (no_members (λ u. list_any (is_number_of keys u) near) (in_ahead keys rows near) (λ u h. none_is_ahead keys rows near u h none) values is_not)
