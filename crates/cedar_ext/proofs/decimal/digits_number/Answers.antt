use Rattle.std.proofs.Common.{◌+◌, ◌*◌, arith, sym, refl}
use Rattle.std.specs.Char.{is_ascii_digit}
use Rattle.std.proofs.lemmas.List.Folds.{list_all_more}
use Rattle.cedar_ext.proofs.Digits.{number_of-more, too_great}
use Rattle.cedar_ext.proofs.decimal.digits_number.Goals as goal

pub returns-then-number-gt-GREATEST_WHOLE : goal.returns-then-number-gt-GREATEST_WHOLE
returns-then-number-gt-GREATEST_WHOLE c =
    let n = number_of-more c.args.digits.now c.loop-digit.digit-index _ 0 c.loop-digit-test.true refl in
    sym (too_great c.args.digits.now (c.loop-digit.digit-index + 1) 922337203685477 (c.loop-digit.number * 10 + c.from.result) c.if-number-gt-GREATEST_WHOLE.true (rw (n, ← c.loop-digit.invariant.number_is, c.from.ensures) refl))

pub loop-digit-preserved : goal.loop-digit-preserved
loop-digit-preserved c =
    let n = number_of-more c.args.digits.now c.loop-digit.digit-index _ 0 c.loop-digit-test.true refl in
    record {
      number_is = rw (n, ← c.loop-digit.invariant.number_is, c.from.ensures) refl;
      all_digits = rw (list_all_more is_ascii_digit c.args.digits.now c.loop-digit.digit-index 0 c.loop-digit-test.true, c.loop-digit.invariant.all_digits) (sym c.if-not-is_ascii_digit.ensures.value);
      small = omega arith;
      some = omega arith;
    }
