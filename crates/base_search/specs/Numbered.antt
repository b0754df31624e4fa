-- Numbers of keys.
use Rattle.std.specs.Prelude.{◌≡◌, ℕ, Bool, false, List, Option, None, Some}
use Rattle.std.specs.List.{AllZip}
use Rattle.base_bits.specs.Bits.{has_bit}

-- Whether the row has the number, if there is one (own).
abbrev pub bit_told : List ℕ → Option ℕ → Bool
bit_told row None = false
bit_told row (Some n) = has_bit row n

-- The numbers are those of the keys, in order (own).
abbrev pub AreNumbersOf : {K : Type 0} → (K → Option ℕ) → List K → List ℕ → Type 0
AreNumbersOf number keys numbers = AllZip (λ k n. number k ≡ Some n) keys numbers
