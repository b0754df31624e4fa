use Rattle.std.proofs.Common.{◌≡◌, List, [], ◌∷◌, Ok, nat_eq, length, refl, sym, ap, ◌∙◌, arith}
use Rattle.std.proofs.lemmas.Bool.Decides.{nat_tests}
use Rattle.cedar_value.specs.Datum.{Datum, boolean}
use Rattle.cedar_value.specs.Private.Lists.{list_of-members_of}
use Rattle.cedar_ast_expressions.specs.Operators.{is_empty}
use Rattle.cedar_machine_stack.proofs.operators.is_empty.Goals as goal

none_is-empty : (ms : List Datum) → nat_eq (length ms) 0 ≡ is_empty ms
none_is-empty [] = refl
none_is-empty (d ∷ ds) = grind (arith, nat_tests)

pub returns-in-Set : goal.returns-in-Set
returns-in-Set c =
    let empty : c.is_empty.result ≡ is_empty c.in-Set.members.now =
    c.is_empty.ensures ∙ ap (λ (ms : List Datum). nat_eq (length ms) 0) c.members.ensures.members ∙ none_is-empty c.in-Set.members.now in
    rw (c.in-Set.is, c.boolean.ensures, empty)
    (sym (ap (λ (ms : List Datum). Ok (boolean (is_empty ms))) (list_of-members_of c.in-Set.members.now)))
