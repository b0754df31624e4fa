use Rattle.std.proofs.Common.{◌≡◌, true, false, List, sym, ap, ◌∙◌, arith}
use Rattle.std.specs.List.{list_any}
use Rattle.cedar_value.specs.declared.uid.Uid.{Uid}
use Rattle.cedar_store.specs.Private.Kept.{has_row, is_number_of}
use Rattle.cedar_store.proofs.Near.{near_is_ahead, none_is_ahead}
use Rattle.cedar_store.proofs.ahead.is_ahead.Goals as goal

pub returns-then-is_near : goal.returns-then-is_near
returns-then-is_near c =
    let keys = c.args.numbers.now.keys in
    let near = c.args.near.now in
    let uid = c.args.uid.now in
    let is : list_any (is_number_of keys uid) near ≡ true =
    ap (λ (ks : List Uid). list_any (is_number_of ks uid) near) (sym c.as_slice.ensures.keys) ∙ sym c.is_near.ensures ∙ c.if-is_near.true in
    sym (near_is_ahead keys c.args.rows.now near uid c.as_slice.ensures.unique is)

pub returns-then-not-has_rows : goal.returns-then-not-has_rows
returns-then-not-has_rows c =
    let keys = c.args.numbers.now.keys in
    let near = c.args.near.now in
    let uid = c.args.uid.now in
    let is_not : list_any (is_number_of keys uid) near ≡ false =
    ap (λ (ks : List Uid). list_any (is_number_of ks uid) near) (sym c.as_slice.ensures.keys) ∙ sym c.is_near.ensures ∙ c.if-is_near.false in
    let none : list_any (has_row c.args.rows.now) near ≡ false = grind arith in
    sym (none_is_ahead keys c.args.rows.now near uid is_not none)
