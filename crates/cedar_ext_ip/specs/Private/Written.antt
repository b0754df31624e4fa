-- What is written of a value.
use Rattle.std.specs.Prelude.{ℕ, ◌/◌, ◌%◌, ◌==◌, List, [], ◌∷◌, ◌++◌, codes, decimal, if◌then◌else◌}

-- The octets of an address of version 4.
abbrev pub octets_of : ℕ → List ℕ
octets_of n = (n / 16777216) ∷ (n / 65536 % 256) ∷ (n / 256 % 256) ∷ (n % 256) ∷ []

-- The groups of an address of version 6 in two halves.
abbrev pub groups_of : ℕ → ℕ → List ℕ
groups_of high low =
    (high / 281474976710656) ∷ (high / 4294967296 % 65536) ∷ (high / 65536 % 65536) ∷ (high % 65536)
    ∷ (low / 281474976710656) ∷ (low / 4294967296 % 65536) ∷ (low / 65536 % 65536) ∷ (low % 65536) ∷ []

-- The text of an address, with a slash and the prefix where it is not the number of bits.
abbrev pub written : ℕ → ℕ → List ℕ → List ℕ
written width prefix text = if prefix == width then text else text ++ (codes "/" ++ decimal prefix)
