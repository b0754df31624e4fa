-- Digits are worth what the grammar says, as far as the readers count.
use Rattle.std.proofs.Common.{◌≡◌, sym, ap, ◌∙◌, ℕ, ◌+◌, ◌≤◌, ◌<◌, min, true, false, ltb, leb, ◌&&◌, List, [], ◌∷◌, inl, inr, arith}
use Rattle.std.proofs.lemmas.Bool.{cond-false, and_right, cases_lt, ltb-false, ltb-true, le-ltb}
use Rattle.std.specs.Char.{IsScalar}
use lib.Utf8.{scalar, scalar_cases}
use Rattle.cedar_text.specs.Numbers.{decimal_from, hexadecimal_from, max_number}
use Rattle.cedar_text.specs.Private.Lexing.{capped_decimal_from, capped_hexadecimal_from}

capped_is : (bs : List ℕ) (n m : ℕ) → n ≡ min m (max_number + 1) → capped_decimal_from n bs ≡ min (decimal_from m bs) (max_number + 1)
capped_is [] n m e = e
capped_is (b ∷ bs) n m e = capped_is bs _ _ (omega arith)

pub capped_min : (bs : List ℕ) → capped_decimal_from 0 bs ≡ min (decimal_from 0 bs) (max_number + 1)
capped_min bs = capped_is bs 0 0 (omega arith)

pub capped_small : (bs : List ℕ) → ltb max_number (capped_decimal_from 0 bs) ≡ false → (capped_decimal_from 0 bs ≡ decimal_from 0 bs) × (decimal_from 0 bs ≤ max_number)
capped_small bs e = let h = capped_is bs 0 0 (omega arith) in let le = ltb-false max_number (capped_decimal_from 0 bs) e in (omega arith, omega arith)

pub capped_large : (bs : List ℕ) → ltb max_number (capped_decimal_from 0 bs) ≡ true → max_number < decimal_from 0 bs
capped_large bs e = let h = capped_is bs 0 0 (omega arith) in let lt = ltb-true max_number (capped_decimal_from 0 bs) e in omega arith

pub capped_again : (bs : List ℕ) → decimal_from 0 bs ≤ max_number → (capped_decimal_from 0 bs ≡ decimal_from 0 bs) × (ltb max_number (capped_decimal_from 0 bs) ≡ false)
capped_again bs le = let h = capped_is bs 0 0 (omega arith) in (omega arith, le-ltb max_number (capped_decimal_from 0 bs) (omega arith))

hexadecimal_is : (bs : List ℕ) (n m : ℕ) → n ≡ min m 0x110000 → capped_hexadecimal_from n bs ≡ min (hexadecimal_from m bs) 0x110000
hexadecimal_is [] n m e = e
hexadecimal_is (b ∷ bs) n m e = hexadecimal_is bs _ _ (omega arith)

no_scalar : (n : ℕ) → 0x110000 ≤ n → scalar n ≡ false
no_scalar n le = cond-false (ltb n 55296) true (leb 57344 n && ltb n 1114112) (le-ltb n 55296 (omega arith)) ∙ and_right (leb 57344 n) (ltb n 1114112) (le-ltb n 1114112 le)

pub scalar_capped : (bs : List ℕ) → scalar (capped_hexadecimal_from 0 bs) ≡ scalar (hexadecimal_from 0 bs)
scalar_capped bs =
    let h = hexadecimal_is bs 0 0 (omega arith) in
    elim (cases_lt (hexadecimal_from 0 bs) 0x110000) [
      | inl lt ↦ let e : capped_hexadecimal_from 0 bs ≡ hexadecimal_from 0 bs = omega arith in ap scalar e
      | inr le ↦ let e : 0x110000 ≤ capped_hexadecimal_from 0 bs = omega arith in no_scalar (capped_hexadecimal_from 0 bs) e ∙ sym (no_scalar (hexadecimal_from 0 bs) le)
    ]

pub capped_scalar : (bs : List ℕ) → IsScalar (hexadecimal_from 0 bs) → capped_hexadecimal_from 0 bs ≡ hexadecimal_from 0 bs
capped_scalar bs s = let h = hexadecimal_is bs 0 0 (omega arith) in elim (scalar_cases (hexadecimal_from 0 bs) s) [ inl lt ↦ omega arith | inr p ↦ let lt = p.1 in omega arith ]
