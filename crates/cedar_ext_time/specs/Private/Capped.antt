-- Numbers that stop at the greatest one of 64 bits.
use Rattle.std.specs.Prelude.{ℕ, ◌-◌, ◌^◌, min, Option, Some, None}

abbrev pub capped : ℕ → ℕ
capped n = min n (2 ^ 64 - 1)

abbrev pub capped_some : Option ℕ → Option ℕ
capped_some None = None
capped_some (Some n) = Some (capped n)
