use Rattle.std.proofs.Common.{refl}
use Rattle.cedar_ext_time.proofs.Numbers.{number_of-more, capped_more}
use Rattle.cedar_ext_time.proofs.digits.capped_number.Goals as goal

pub loop-digit-preserved : goal.loop-digit-preserved
loop-digit-preserved c =
    let more = number_of-more c.args.digits.now c.loop-digit.digit-index _ 0 c.loop-digit-test.true refl in
    rw (c.saturating_add-number.ensures, c.from.ensures, c.saturating_sub.ensures, c.saturating_mul.ensures, c.loop-digit.invariant, more) (capped_more _ _)
