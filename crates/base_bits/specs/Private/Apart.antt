-- Words that share no bit.
use Rattle.std.specs.Prelude.{◌≡◌, ℕ, List, slice_index, bit_and}

-- the words at a place share no bit
abbrev pub IsApartAt : List ℕ → List ℕ → ℕ → Type 0
IsApartAt a b i = bit_and (slice_index a i) (slice_index b i) ≡ 0
