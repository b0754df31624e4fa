use Rattle.std.proofs.Common.{ℕ, List, sym, ap}
use Rattle.cedar_value.specs.Datum.{Datum}
use Rattle.cedar_value.specs.Private.Lists.{pairs_of-fields_of}
use Rattle.cedar_value.specs.Records.{value_at}
use Rattle.cedar_ast_expressions.specs.Operators.{attribute_of}
use Rattle.cedar_machine_stack.proofs.operand.Operand.into_attribute.Goals as goal

pub returns-in-Record : goal.returns-in-Record
returns-in-Record g c =
    rw (← c.self.view_is, c.in-Record.is, c.lent_or_missing.ensures, c.get.ensures)
    (sym (ap (λ (ps : List (List ℕ × Datum)). attribute_of (value_at c.args.key.now ps)) (pairs_of-fields_of c.in-Record.pairs.now)))
