-- The numbers of a service's refusals.
use Rattle.std.specs.Prelude.{ℕ}
use Rattle.cedar_conform_values.specs.Numbers.{number_of as line_number}
use Rattle.cedar_service.specs.declared.service_fault.ServiceFault.{ServiceFault}
use Rattle.cedar_service.specs.declared.service_fault.ServiceFault.TheVariants.{OutOfMemory, Line, Changes, NoSuchJob, NotFinished, NoMoreNumbers}

-- The number of each refusal (own: docs/REFUSALS.md).
abbrev pub number_of : ServiceFault → ℕ
number_of OutOfMemory = 1
number_of (Line fault) = line_number fault
number_of (Changes fault) = line_number fault
number_of NoSuchJob = 801
number_of NotFinished = 802
number_of NoMoreNumbers = 803
