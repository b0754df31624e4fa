use Rattle.cedar_store.proofs.Linked.{has_number}
use Rattle.cedar_store.proofs.base.Base.facts.Goals as goal

pub returns-clause-distinct : goal.returns-clause-distinct
returns-clause-distinct c = rw (← c.self.view_is) c.uids_are_distinct.ensures

pub returns-clause-numbered : goal.returns-clause-numbered
returns-clause-numbered c = rw (← c.self.view_is) (has_number c.self.inside.numbers.keys c.self.inside.table c.self.inside.parents c.self.invariant.2)
