-- The result of a call that reads without a schema: a value that is denoted, or a refusal where none is.
use Rattle.std.specs.Prelude.{◌≡◌, ◌≢◌, Result, MatchResult}
use Rattle.cedar_conform_values.specs.declared.conform_fault.ConformFault.{ConformFault}
use Rattle.cedar_conform_values.specs.declared.conform_fault.ConformFault.TheVariants.{OutOfMemory, Shape}

-- a refusal other than out of memory is 502, and nothing has P
abbrev pub Refuses : {A : Type 0} → (A → Type 0) → ConformFault → Type 0
Refuses {A} P f = f ≢ OutOfMemory → (f ≡ Shape) × ((a : A) → ¬ P a)

-- the answer has P, or nothing has
abbrev pub ReadsOne : {A : Type 0} → Result A ConformFault → (A → Type 0) → Type 0
ReadsOne result P = MatchResult result P (Refuses P)
