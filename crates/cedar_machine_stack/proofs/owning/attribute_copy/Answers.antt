use Rattle.std.proofs.Common.{◌≡◌, ℕ, List, sym, ap, subst, ◌∙◌}
use Rattle.std.specs.Prelude.{IfOk, option_copied}
use Rattle.cedar_value.specs.Datum.{Datum, pairs_of, fields_of}
use Rattle.cedar_value.specs.Private.Lists.{pairs_of-fields_of}
use Rattle.cedar_value.specs.Records.{value_at}
use Rattle.cedar_ast_expressions.specs.Answer.{Answer}
use Rattle.cedar_ast_expressions.specs.Operators.{attribute_of}
use Rattle.cedar_machine_stack.proofs.owning.attribute_copy.Goals as goal

pub returns-in-Record : goal.returns-in-Record
returns-in-Record g c =
    let there : attribute_of (option_copied c.get.result) ≡ attribute_of (value_at c.args.key.now (pairs_of (fields_of c.in-Record.pairs.now))) =
    ap attribute_of c.get.ensures
    ∙ sym (ap (λ (ps : List (List ℕ × Datum)). attribute_of (value_at c.args.key.now ps)) (pairs_of-fields_of c.in-Record.pairs.now)) in
    rw c.in-Record.is (subst (λ (x : Answer Datum). IfOk c.copy_found.result (λ a. a ≡ x)) there c.copy_found.ensures)
