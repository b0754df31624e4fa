use Rattle.std.proofs.Common.{◌≡◌, ℕ, List, Option, Some, None, Ok, Bor, refl, sym, ap, ◌∙◌}
use Rattle.std.specs.Prelude.{is_some, option_copied}
use Rattle.cedar_value.specs.Datum.{Datum, boolean}
use Rattle.cedar_value.specs.Private.Lists.{pairs_of-fields_of}
use Rattle.cedar_value.specs.Records.{value_at}
use Rattle.cedar_machine_stack.proofs.operators.has.Goals as goal

is_some-copied : (o : Option (Bor Datum)) → is_some (option_copied o) ≡ is_some o
is_some-copied None = refl
is_some-copied (Some v) = refl

pub returns-in-Record : goal.returns-in-Record
returns-in-Record g c =
    let there : c.is_some.result ≡ is_some (value_at c.args.key.now c.in-Record.pairs.now) =
    c.is_some.ensures ∙ sym (is_some-copied c.get.result) ∙ ap is_some c.get.ensures in
    rw (c.in-Record.is, c.boolean.ensures, there)
    (sym (ap (λ (ps : List (List ℕ × Datum)). Ok (boolean (is_some (value_at c.args.key.now ps)))) (pairs_of-fields_of c.in-Record.pairs.now)))
