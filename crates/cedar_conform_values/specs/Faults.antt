-- What a refusal says.
use Rattle.std.specs.Prelude.{◌≢◌, Bool, true, false, List, [], ◌∷◌, Contains}
use Rattle.cedar_conform_values.specs.declared.conform_fault.ConformFault.{ConformFault}
use Rattle.cedar_conform_values.specs.declared.conform_fault.ConformFault.TheVariants.{OutOfMemory}

-- A refusal other than out of memory is one of the faults that are there (this project).
abbrev pub Told : List ConformFault → ConformFault → Type 0
Told fs e = e ≢ OutOfMemory → Contains fs e

-- A fault, where the test says so (this project).
abbrev pub fault_if : Bool → ConformFault → List ConformFault
fault_if true e = e ∷ []
fault_if false e = []
