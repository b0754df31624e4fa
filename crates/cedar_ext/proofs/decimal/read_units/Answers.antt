use Rattle.std.proofs.Common.{◌+◌, take, drop, arith, sym}
use Rattle.cedar_ext.proofs.Digits.{fraction_within, within_some, units_of-no_fraction, units_of-parts, all_after}
use Rattle.cedar_ext.proofs.decimal.read_units.Goals as goal

pub returns-in_default-digits_number-2 : goal.returns-in_default-digits_number-2
returns-in_default-digits_number-2 c =
    let e = all_after c.args.body.now (c.in-Some.point + 1) in
    let short = rw e at c.if-fraction-gt4.false in
    let none = rw e at c.in_default-digits_number-2.ensures in
    sym (units_of-no_fraction c.args.negative c.args.body.now c.in-Some.point c.in-Some.ensures.place (fraction_within _ 922337203685477 (omega arith) short (sym none)))

pub returns : goal.returns
returns c =
    let e = all_after c.args.body.now (c.in-Some.point + 1) in
    let short = rw e at c.if-fraction-gt4.false in
    let part = within_some (drop (c.in-Some.point + 1) c.args.body.now) 922337203685477 c.in-Some-digits_number-2.part (sym (rw e at c.in-Some-digits_number-2.ensures)) in
    let whole = within_some (take c.in-Some.point c.args.body.now) 922337203685477 c.in-Some-digits_number.whole (sym c.in-Some-digits_number.ensures) in
    let parts = units_of-parts c.args.negative c.args.body.now c.in-Some.point c.in-Some.ensures.place whole.0 part.0 short in
    rw (c.with_sign.ensures, c.scale.ensures.value, e, whole.1, part.1) (sym parts)
