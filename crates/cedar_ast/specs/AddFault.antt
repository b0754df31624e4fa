-- What a fault of adding reports.
use Rattle.std.specs.Prelude.{ℕ}
use Rattle.cedar_ast.specs.declared.statement.Statement.{Statement}
use Rattle.cedar_ast.specs.declared.add_fault.AddFault.{AddFault}
use Rattle.cedar_ast.specs.declared.add_fault.AddFault.TheVariants.{OutOfMemory, DuplicateId}

-- The number of a refusal (this project).
abbrev pub number_of : AddFault → ℕ
number_of (OutOfMemory s) = 1
number_of (DuplicateId s) = 204

-- The statement that the call was given (this project).
abbrev pub refused : AddFault → Statement
refused (OutOfMemory s) = s
refused (DuplicateId s) = s
