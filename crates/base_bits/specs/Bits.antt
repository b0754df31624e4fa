-- Rows of bits, 64 to a word: bit n of a row is bit n % 64 of its word n / 64, where the lowest is bit 0.
use Rattle.std.specs.Prelude.{◌≡◌, ℕ, ◌/◌, ◌%◌, ◌^◌, ◌<◌, ◌≤◌, Bool, false, true, List, nat_eq, slice_index}
use Rattle.std.specs.Int.{bit_at}

-- Whether bit n of the row is set; a row has no bit past its end (own).
abbrev pub has_bit : List ℕ → ℕ → Bool
has_bit row n = nat_eq (bit_at (slice_index row (n / 64)) (n % 64)) 1

-- Bit n of the row is set (own).
abbrev pub HasBit : List ℕ → ℕ → Type 0
HasBit row n = bit_at (slice_index row (n / 64)) (n % 64) ≡ 1

-- Both rows have some bit, at the same place (own).
abbrev pub HaveCommonBit : List ℕ → List ℕ → Type 0
HaveCommonBit a b = (n : ℕ) × HasBit a n × HasBit b n

-- Bit n of the row is set, and none from the number `from` up to it (own).
abbrev pub IsNextBit : List ℕ → ℕ → ℕ → Type 0
IsNextBit row from n = (from ≤ n) × (has_bit row n ≡ true) × ((m : ℕ) → from ≤ m → m < n → has_bit row m ≡ false)

-- No bit of the row is set from the number `from` on, of those whose numbers fit 64 bits (own).
abbrev pub HasNoBitFrom : List ℕ → ℕ → Type 0
HasNoBitFrom row from = (m : ℕ) → from ≤ m → m < 2 ^ 64 → has_bit row m ≡ false
