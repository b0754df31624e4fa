-- What a refusal says about the entities.
use Rattle.std.specs.Prelude.{ℕ}
use Rattle.cedar_value.specs.World.{World, Below}
use Rattle.cedar_store.specs.Entities.{StandsTwice}
use Rattle.cedar_store.specs.declared.store_fault.StoreFault.{StoreFault}
use Rattle.cedar_store.specs.declared.store_fault.StoreFault.TheVariants.{OutOfMemory, DuplicateEntity, Cycle}

-- The fault is there: the uid of a duplicate is repeated, that of a cycle is below itself (this project).
abbrev pub IsThere : World → StoreFault → Type 0
IsThere w OutOfMemory = Unit {0}
IsThere w (DuplicateEntity u) = StandsTwice w u
IsThere w (Cycle u) = Below w u u

-- The number of a refusal (this project).
abbrev pub number_of : StoreFault → ℕ
number_of OutOfMemory = 1
number_of (DuplicateEntity u) = 401
number_of (Cycle u) = 402
