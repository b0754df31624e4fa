use Rattle.cedar_value.proofs.ValueLists.{IsValue-set, IsValue-record}
use Rattle.cedar_value.proofs.value.kind_is_a_value.Goals as goal

pub returns-in-Set : goal.returns-in-Set
returns-in-Set c = rw c.in-Set.is (IsValue-set c.in-Set.members c.well_formedness-in-Set.ensures.ascending c.well_formedness-in-Set.ensures.values)

pub returns-in-Record : goal.returns-in-Record
returns-in-Record c = rw c.in-Record.is (IsValue-record c.in-Record.pairs c.well_formedness-in-Record.ensures.ascending c.well_formedness-in-Record.ensures.values)
