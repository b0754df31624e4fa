use Rattle.std.proofs.Common.{arith}
use Rattle.cedar_ext_time.proofs.Numbers.{number_small}
use Rattle.cedar_ext_time.proofs.digits.small_number.Goals as goal

pub returns-clause-number : goal.returns-clause-number
returns-clause-number c = omega (arith, c.capped_number.ensures, number_small c.args.digits.now c.requires.all c.requires.few)

pub returns-clause-within : goal.returns-clause-within
returns-clause-within c = omega (arith, c.capped_number.ensures, number_small c.args.digits.now c.requires.all c.requires.few)
