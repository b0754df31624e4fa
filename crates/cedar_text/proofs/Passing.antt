-- The bytes of a string that are passed so far.
use Rattle.std.proofs.Common.{◌≡◌, refl, sym, ap, subst, ◌∙◌, ℕ, zero, suc, ◌+◌, ◌<◌, ◌≤◌, Bool, true, false, cond, eqb, List, [], ◌∷◌, length, get_or, drop, Option, Some, None, Result, Ok, Err, arith}
use Rattle.std.proofs.lemmas.List.{at_drop_more, at_drop_all, drop-drop}
use Rattle.cedar_text.specs.declared.text_fault.TextFault.{TextFault}
use Rattle.cedar_text.specs.Private.Lexing.{Refusal, UnclosedString, further, no_escape, escaped, escape_len, string_len}
use Rattle.cedar_text.specs.Private.Outcomes.{Refuses}

further_zero : (r : Result ℕ Refusal) → r ≡ further 0 r
further_zero (Ok m) = let e : m ≡ m + 0 = omega arith in ap (λ (k : ℕ). Ok k) e
further_zero (Err x) = refl

pub further_further : (m n : ℕ) (r : Result ℕ Refusal) → further m (further n r) ≡ further (m + n) r
further_further m n (Ok k) = let e : k + n + m ≡ k + (m + n) = omega arith in ap (λ (i : ℕ). Ok i) e
further_further m n (Err x) = refl

further_no_escape : (n : ℕ) (bs : List ℕ) → further n (no_escape bs) ≡ no_escape bs
further_no_escape n [] = refl
further_no_escape n (b ∷ bs) = refl

-- the bytes of an escape are passed one by one
pub passed : (n : ℕ) (bs : List ℕ) → n ≤ length bs → string_len n bs ≡ further n (string_len 0 (drop n bs))
unfolding string_len
passed zero bs le = further_zero (string_len 0 bs)
passed (suc n) [] le = absurd (omega arith)
passed (suc n) (b ∷ bs) le =
    let e : 1 + n ≡ suc n = omega arith in
    ap (further 1) (passed n bs (omega arith)) ∙ further_further 1 n (string_len 0 (drop n bs)) ∙ ap (λ (k : ℕ). further k (string_len 0 (drop n bs))) e

-- one byte of a string
abbrev after_byte : Bool → Bool → List ℕ → Result ℕ Refusal
after_byte quote backslash bs = cond quote (Ok 1) (cond backslash (further 1 (escaped (escape_len bs) bs (λ n. string_len n bs))) (further 1 (string_len 0 bs)))

at_byte : (bytes : List ℕ) (i : ℕ) (quote backslash : Bool) (total : Result ℕ Refusal) → i < length bytes → eqb (get_or bytes i 0) 34 ≡ quote → eqb (get_or bytes i 0) 92 ≡ backslash
    → further i (string_len 0 (drop i bytes)) ≡ total → further i (after_byte quote backslash (drop (i + 1) bytes)) ≡ total
unfolding string_len
at_byte bytes i quote backslash total lt e f so_far =
    let step : string_len 0 (drop i bytes) ≡ after_byte (eqb (get_or bytes i 0) 34) (eqb (get_or bytes i 0) 92) (drop (i + 1) bytes) = at_drop_more (string_len 0) bytes i 0 lt in
    sym (ap (further i) step ∙ ap (λ (t : Bool). further i (after_byte t (eqb (get_or bytes i 0) 92) (drop (i + 1) bytes))) e ∙ ap (λ (t : Bool). further i (after_byte quote t (drop (i + 1) bytes))) f) ∙ so_far

pub close_turn : (bytes : List ℕ) (i : ℕ) (total : Result ℕ Refusal) → i < length bytes → eqb (get_or bytes i 0) 34 ≡ true → further i (string_len 0 (drop i bytes)) ≡ total → total ≡ Ok (i + 1)
close_turn bytes i total lt e so_far =
    let f : 1 + i ≡ i + 1 = omega arith in
    sym (at_byte bytes i true (eqb (get_or bytes i 0) 92) total lt e refl so_far) ∙ ap (λ (n : ℕ). Ok n) f

pub plain_turn : (bytes : List ℕ) (i : ℕ) (total : Result ℕ Refusal) → i < length bytes → eqb (get_or bytes i 0) 34 ≡ false → eqb (get_or bytes i 0) 92 ≡ false
    → further i (string_len 0 (drop i bytes)) ≡ total → further (i + 1) (string_len 0 (drop (i + 1) bytes)) ≡ total
plain_turn bytes i total lt e f so_far = sym (further_further i 1 (string_len 0 (drop (i + 1) bytes))) ∙ at_byte bytes i false false total lt e f so_far

pub escape_turn : (bytes : List ℕ) (i n : ℕ) (total : Result ℕ Refusal) → i < length bytes → eqb (get_or bytes i 0) 34 ≡ false → eqb (get_or bytes i 0) 92 ≡ true
    → escape_len (drop (i + 1) bytes) ≡ Some n → n ≤ length (drop (i + 1) bytes) → further i (string_len 0 (drop i bytes)) ≡ total
    → further (i + 1 + n) (string_len 0 (drop (i + 1 + n) bytes)) ≡ total
escape_turn bytes i n total lt e f o le so_far =
    let rest = drop (i + 1) bytes in
    let there : drop n rest ≡ drop (i + 1 + n) bytes = drop-drop n (i + 1) bytes in
    let sum : i + (1 + n) ≡ i + 1 + n = omega arith in
    let skip = ap (λ (r : Result ℕ Refusal). further i (further 1 r)) (passed n rest le) in
    let one = ap (further i) (further_further 1 n (string_len 0 (drop n rest))) ∙ further_further i (1 + n) (string_len 0 (drop n rest)) in
    sym (skip ∙ one ∙ ap (λ (k : ℕ). further k (string_len 0 (drop n rest))) sum ∙ ap (λ (xs : List ℕ). further (i + 1 + n) (string_len 0 xs)) there)
    ∙ sym (ap (λ (o : Option ℕ). further i (further 1 (escaped o rest (λ n. string_len n rest)))) o) ∙ at_byte bytes i false true total lt e f so_far

pub refuse_turn : (bytes : List ℕ) (i : ℕ) (total : Result ℕ Refusal) (x : TextFault) → i < length bytes → eqb (get_or bytes i 0) 34 ≡ false → eqb (get_or bytes i 0) 92 ≡ true
    → escape_len (drop (i + 1) bytes) ≡ None → Refuses (no_escape (drop (i + 1) bytes)) x → further i (string_len 0 (drop i bytes)) ≡ total → Refuses total x
refuse_turn bytes i total x lt e f o h so_far =
    let rest = drop (i + 1) bytes in
    let same : no_escape rest ≡ total =
    sym (further_no_escape i rest) ∙ sym (ap (further i) (further_no_escape 1 rest)) ∙ sym (ap (λ (o : Option ℕ). further i (further 1 (escaped o rest (λ n. string_len n rest)))) o)
    ∙ at_byte bytes i false true total lt e f so_far in
    subst (λ (r : Result ℕ Refusal). Refuses r x) same h

pub end_turn : (bytes : List ℕ) (i : ℕ) (total : Result ℕ Refusal) → length bytes ≤ i → further i (string_len 0 (drop i bytes)) ≡ total → total ≡ Err UnclosedString
unfolding string_len
end_turn bytes i total le so_far = sym so_far ∙ ap (further i) (at_drop_all (string_len 0) bytes i le)
