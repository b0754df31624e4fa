-- The numbers of the refusals of linking.
use Rattle.std.specs.Prelude.{ℕ}
use Rattle.cedar_ast.specs.declared.link_fault.LinkFault.{LinkFault}
use Rattle.cedar_ast.specs.declared.link_fault.LinkFault.TheVariants.{OutOfMemory, DuplicateId, NoSuchTemplate, MissingSlot, ExtraSlot}

-- The number of a refusal (this project).
abbrev pub number_of : LinkFault → ℕ
number_of OutOfMemory = 1
number_of DuplicateId = 204
number_of NoSuchTemplate = 210
number_of MissingSlot = 211
number_of ExtraSlot = 212
