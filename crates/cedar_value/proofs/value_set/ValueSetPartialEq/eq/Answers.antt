use Rattle.std.proofs.Common.{sym}
use Rattle.cedar_value.specs.Private.Equality.{same_as_sets-Decides}
use Rattle.cedar_value.specs.Private.Laws.{members_ties}
use Rattle.cedar_value.proofs.value_set.ValueSetPartialEq.eq.Goals as goal

pub returns-clause-gives : goal.returns-clause-gives
returns-clause-gives c = rw (c.is_eq.ensures, c.cmp.ensures) (sym (members_ties c.args.self.now c.args.other.now))

pub returns-clause-equal : goal.returns-clause-equal
returns-clause-equal c = rw (c.is_eq.ensures, c.cmp.ensures, ← members_ties c.args.self.now c.args.other.now) (same_as_sets-Decides c.args.self.now c.args.other.now)
