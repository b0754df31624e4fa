use Rattle.std.proofs.Common.{sym}
use Rattle.cedar_value.specs.Private.Equality.{same-Decides}
use Rattle.cedar_value.specs.Private.Laws.{datum_ties}
use Rattle.cedar_value.proofs.value.ValuePartialEq.eq.Goals as goal

pub returns-clause-gives : goal.returns-clause-gives
returns-clause-gives c = rw (c.is_eq.ensures, c.cmp.ensures) (sym (datum_ties c.args.self.now c.args.other.now))

pub returns-clause-equal : goal.returns-clause-equal
returns-clause-equal c = rw (c.is_eq.ensures, c.cmp.ensures, ← datum_ties c.args.self.now c.args.other.now) (same-Decides c.args.self.now c.args.other.now)
