use Rattle.std.proofs.Common.{List, Ok, sym, ap}
use Rattle.cedar_value.specs.Datum.{Datum, boolean}
use Rattle.cedar_value.specs.Glance.{datum_seen}
use Rattle.cedar_value.specs.Private.Lists.{list_of-members_of}
use Rattle.cedar_value.specs.Sets.{has_member}
use Rattle.cedar_machine_stack.proofs.operators.contains.Goals as goal

pub returns-in-Set : goal.returns-in-Set
returns-in-Set c =
    rw (c.in-Set.is, c.boolean.ensures, c.has.ensures)
    (sym (ap (λ (ms : List Datum). Ok (boolean (has_member ms (datum_seen c.args.right)))) (list_of-members_of c.in-Set.members.now)))
