-- Bits of rows, and the words that hold them.
use Rattle.std.proofs.Common.{◌≡◌, ℕ, ◌+◌, ◌*◌, ◌/◌, ◌%◌, ◌^◌, ◌<◌, List, get_or, bit_and, w64, Fits, ap, ap₂, ◌∙◌, arith}
use Rattle.std.specs.Int.{bit_at, trailing_zeros}
use Rattle.std.proofs.lemmas.Nat.{and_le_l, div-mul-add, mod-mul-add}
use Rattle.std.proofs.lemmas.Nat.Bits.{bit_at_and, bit_at-zero, bit_at-lt, bit_at-trailing_zeros}
use Rattle.base_bits.specs.Bits.{HasBit, HaveCommonBit}
use Rattle.base_bits.specs.Private.Apart.{IsApartAt}

pub HasBit-at : (row : List ℕ) (i t : ℕ) → t < 64 → bit_at (get_or row i 0) t ≡ 1 → HasBit row (i * 64 + t)
HasBit-at row i t below set = ap₂ (λ p q. bit_at (get_or row p 0) q) (div-mul-add i 64 t below) (mod-mul-add i 64 t below) ∙ set

-- two words that are not apart share a bit
pub common_from : (a b : List ℕ) → ((k : ℕ) → Fits w64 (get_or a k 0)) → (i : ℕ) → (IsApartAt a b i → ⊥) → HaveCommonBit a b
common_from a b fits i some =
    let x = get_or a i 0 in
    let y = get_or b i 0 in
    let positive : 0 < bit_and x y = omega (arith, some) in
    let small : bit_and x y < 2 ^ 64 = omega (arith, and_le_l x y, (fits i).fits) in
    let lowest = bit_at-trailing_zeros w64 (bit_and x y) positive small in
    let t = trailing_zeros w64 (bit_and x y) in
    let below : t < 64 = lowest.0 in
    let set : bit_at (bit_and x y) t ≡ 1 = lowest.1 in
    let each = bit_at_and x y t in
    let few_x = bit_at-lt x t in
    let few_y = bit_at-lt y t in
    (i * 64 + t, HasBit-at a i t below (omega arith), HasBit-at b i t below (omega arith))

pub no_common : (a b : List ℕ) → ((i : ℕ) → IsApartAt a b i) → HaveCommonBit a b → ⊥
no_common a b apart (n, in_a, in_b) =
    let x = get_or a (n / 64) 0 in
    let y = get_or b (n / 64) 0 in
    let zeroed : bit_at (bit_and x y) (n % 64) ≡ 0 = ap (λ w. bit_at w (n % 64)) (apart (n / 64)) ∙ bit_at-zero (n % 64) in
    let each = bit_at_and x y (n % 64) in
    absurd (omega arith)

-- past its end a row has nothing
pub apart_past : (a b : List ℕ) (i : ℕ) → get_or a i 0 ≡ 0 → IsApartAt a b i
apart_past a b i none = omega (arith, and_le_l (get_or a i 0) (get_or b i 0))
