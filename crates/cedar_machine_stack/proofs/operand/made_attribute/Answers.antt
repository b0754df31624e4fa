use Rattle.std.proofs.Common.{◌≡◌, ℕ, List, Some, None, sym, ap, ◌∙◌}
use Rattle.cedar_value.specs.Datum.{Datum, record_of, fields_of}
use Rattle.cedar_value.specs.Private.Lists.{pairs_of-fields_of}
use Rattle.cedar_value.specs.Records.{value_at}
use Rattle.cedar_value.specs.ValueKind.{datum_of}
use Rattle.cedar_ast_expressions.specs.Operators.{attribute_of}
use Rattle.cedar_machine_stack.proofs.operand.made_attribute.Goals as goal

pub returns-in-Some : goal.returns-in-Some
returns-in-Some g c =
    let own : c.args.value.value ≡ record_of (fields_of c.in-Record.pairs) = sym c.replace.ensures.value ∙ sym c.into_kind.ensures ∙ ap datum_of c.in-Record.is in
    let found : value_at c.args.key.now c.in-Record.pairs ≡ Some c.in-Some.attribute = sym c.into_value.ensures ∙ c.in-Some.is in
    rw (own, c.replace-in-Some.ensures.after)
    (sym (ap (λ (ps : List (List ℕ × Datum)). attribute_of (value_at c.args.key.now ps)) (pairs_of-fields_of c.in-Record.pairs) ∙ ap attribute_of found))

pub returns-in-Record : goal.returns-in-Record
returns-in-Record g c =
    let own : c.args.value.value ≡ record_of (fields_of c.in-Record.pairs) = sym c.replace.ensures.value ∙ sym c.into_kind.ensures ∙ ap datum_of c.in-Record.is in
    let missing : value_at c.args.key.now c.in-Record.pairs ≡ None = sym c.into_value.ensures ∙ c.in-None.is in
    rw own
    (sym (ap (λ (ps : List (List ℕ × Datum)). attribute_of (value_at c.args.key.now ps)) (pairs_of-fields_of c.in-Record.pairs) ∙ ap attribute_of missing))
