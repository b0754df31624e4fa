-- What a fault of making a record reports.
use Rattle.std.specs.Prelude.{ℕ, List}
use Rattle.cedar_ast_expressions.specs.Expression.{Expression}
use Rattle.cedar_ast_expressions.specs.declared.record_fault.RecordFault.{RecordFault}
use Rattle.cedar_ast_expressions.specs.declared.record_fault.RecordFault.TheVariants.{OutOfMemory, DuplicateKey}

-- The number of a refusal (this project).
abbrev pub number_of : RecordFault → ℕ
number_of (OutOfMemory ps) = 1
number_of (DuplicateKey ps) = 203

-- The pairs that the call was given (this project).
abbrev pub refused : RecordFault → List (List ℕ × Expression)
refused (OutOfMemory ps) = ps.items
refused (DuplicateKey ps) = ps.items
