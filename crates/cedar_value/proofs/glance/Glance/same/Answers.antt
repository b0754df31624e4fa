use Rattle.cedar_value.specs.Private.Equality.{same-Decides}
use Rattle.cedar_value.proofs.glance.Glance.same.Goals as goal

pub returns-in-Set-Set-clause-equal : goal.returns-in-Set-Set-clause-equal
returns-in-Set-Set-clause-equal c = rw (c.eq-in-Set-Set.ensures, c.in-Set-Set.is-0, c.in-Set-Set.is-1) (same-Decides _ _)

pub returns-in-Record-Record-clause-equal : goal.returns-in-Record-Record-clause-equal
returns-in-Record-Record-clause-equal c = rw (c.eq-in-Record-Record.ensures, c.in-Record-Record.is-0, c.in-Record-Record.is-1) (same-Decides _ _)
