-- What the hasher of uids computes.
use Rattle.std.specs.Prelude.{ℕ, zero, suc, ◌+◌, ◌-◌, ◌*◌, ◌/◌, ◌%◌, ◌^◌, List, length, if◌then◌else◌, nat_eq, slice_index, bit_and}
use Rattle.cedar_store.specs.declared.uid_hasher.UidHasher.{UidHasher}

-- the product less a multiple of 2 ^ 61 - 1, and the word added
unfoldable pub step : ℕ → ℕ → ℕ → ℕ
step key state word = ((bit_and (state * key) (2 ^ 61 - 1) + bit_and (state * key / 2 ^ 61) (2 ^ 64 - 1)) % 2 ^ 64 + word) % 2 ^ 64

-- the four bytes from a place on, the lowest first
unfoldable pub word_at : List ℕ → ℕ → ℕ
word_at bs i = slice_index bs i + slice_index bs (i + 1) * 256 + slice_index bs (i + 2) * 65536 + slice_index bs (i + 3) * 16777216

-- the last bytes, and how many they are
unfoldable pub last_word : List ℕ → ℕ → ℕ → ℕ
last_word bs i n = slice_index bs i + slice_index bs (i + n / 2) * 256 + slice_index bs (i + n - 1) * 65536 + n * 4294967296

-- the state after the first n words
unfoldable pub mix_words : ℕ → ℕ → List ℕ → ℕ → ℕ
mix_words key begun bs zero = begun
mix_words key begun bs (suc n) = step key (mix_words key begun bs n) (word_at bs (n * 4))

-- the state after all bytes
unfoldable pub mix : ℕ → ℕ → List ℕ → ℕ
mix key begun bs =
    let n = length bs in
    let whole = mix_words key begun bs (n / 4) in
    if nat_eq (n % 4) 0 then whole else step key whole (last_word bs (n / 4 * 4) (n % 4))

abbrev pub write : UidHasher → List ℕ → UidHasher
write h bs = record h { state = mix h.key h.state bs }

abbrev pub finish : UidHasher → ℕ
finish h = step h.spread h.state 0
