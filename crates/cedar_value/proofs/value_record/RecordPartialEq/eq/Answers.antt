use Rattle.std.proofs.Common.{sym}
use Rattle.cedar_value.specs.Private.Equality.{same_as_records-Decides}
use Rattle.cedar_value.specs.Private.Laws.{pairs_ties}
use Rattle.cedar_value.proofs.value_record.RecordPartialEq.eq.Goals as goal

pub returns-clause-gives : goal.returns-clause-gives
returns-clause-gives c = rw (c.is_eq.ensures, c.cmp.ensures) (sym (pairs_ties c.args.self.now c.args.other.now))

pub returns-clause-equal : goal.returns-clause-equal
returns-clause-equal c = rw (c.is_eq.ensures, c.cmp.ensures, ← pairs_ties c.args.self.now c.args.other.now) (same_as_records-Decides c.args.self.now c.args.other.now)
