use Rattle.std.proofs.Common.{List, Ok, sym, ap₂}
use Rattle.std.specs.List.{list_any}
use Rattle.cedar_value.specs.Datum.{Datum, boolean}
use Rattle.cedar_value.specs.Private.Lists.{list_of-members_of}
use Rattle.cedar_value.specs.Sets.{has_member}
use Rattle.cedar_machine_stack.proofs.operators.contains_any.Goals as goal

pub returns-in-Set-Set : goal.returns-in-Set-Set
returns-in-Set-Set c =
    rw (c.in-Set-Set.is-0, c.in-Set-Set.is-1, c.boolean.ensures, c.contains_any.ensures.gives)
    (sym (ap₂ (λ (ms ns : List Datum). Ok (boolean (list_any (has_member ms) ns))) (list_of-members_of c.in-Set-Set.left.now) (list_of-members_of c.in-Set-Set.right.now)))
