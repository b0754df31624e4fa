-- Where no other refusal can be, memory ran out.
use Rattle.std.proofs.Common.{◌≡◌, refl}
use Rattle.std.specs.Prelude.{◌≢◌}
use Rattle.cedar_conform_values.specs.declared.conform_fault.ConformFault.{ConformFault}
use Rattle.cedar_conform_values.specs.declared.conform_fault.ConformFault.TheVariants.{OutOfMemory}

pub memory_alone : (f : ConformFault) → (f ≢ OutOfMemory → ⊥) → f ≡ OutOfMemory
memory_alone OutOfMemory never = refl
memory_alone _ never = absurd (never (λ e. cc))
