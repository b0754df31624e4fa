-- What holds at an end, by each end that it may be.
use Rattle.std.proofs.Common.{◌≡◌, refl}
use Rattle.cedar_files.specs.declared.ending.End.{End}
use Rattle.cedar_files.specs.declared.ending.End.TheVariants.{Done, Refused, Faults, CommandLine, Device, Memory}

pub at_end : (P : End → Type 0) (e : End) → (e ≡ Done → P Done) → (e ≡ Refused → P Refused) → (e ≡ Faults → P Faults) → (e ≡ CommandLine → P CommandLine)
    → (e ≡ Device → P Device) → (e ≡ Memory → P Memory) → P e
at_end P Done done refused faults unnamed device memory = done refl
at_end P Refused done refused faults unnamed device memory = refused refl
at_end P Faults done refused faults unnamed device memory = faults refl
at_end P CommandLine done refused faults unnamed device memory = unnamed refl
at_end P Device done refused faults unnamed device memory = device refl
at_end P Memory done refused faults unnamed device memory = memory refl
