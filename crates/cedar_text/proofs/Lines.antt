-- How long a line is, from where its first LF or CR is.
use Rattle.std.proofs.Common.{◌≡◌, refl, sym, ap, ◌∙◌, ℕ, zero, suc, ◌+◌, ◌≤◌, ◌<◌, Bool, true, false, not, List, [], ◌∷◌, length, get_or, one-add, arith}
use Rattle.std.specs.Prelude.{Some, None}
use Rattle.std.specs.List.{prefix_len}
use Rattle.std.proofs.lemmas.Bool.{cond-true, cond-false}
use Rattle.memchr.specs.Find.{IsFirstByte, is_byte2}
use Rattle.cedar_text.specs.Bytes.{goes_on_line}

-- the run ends at the first byte that is not of the class
ends_at : (p : ℕ → Bool) (bs : List ℕ) (k : ℕ) → k ≤ length bs → ((i : ℕ) → i < k → p (get_or bs i 0) ≡ true) → (k < length bs → p (get_or bs k 0) ≡ false) → prefix_len p bs ≡ k
ends_at p [] zero le before stop = refl
ends_at p [] (suc k) le before stop = absurd (omega arith)
ends_at p (b ∷ bs) zero le before stop = cond-false (p b) (1 + prefix_len p bs) 0 (stop (omega arith))
ends_at p (b ∷ bs) (suc k) le before stop =
    cond-true (p b) (1 + prefix_len p bs) 0 (before 0 (omega arith)) ∙ one-add (prefix_len p bs)
    ∙ ap suc (ends_at p bs k (omega arith) (λ i lt. before (suc i) (omega arith)) (λ lt. stop (omega arith)))

not_true : (b : Bool) → (b ≡ true → ⊥) → not b ≡ true
not_true true h = absurd (h refl)
not_true false h = refl

pub ended : (bs : List ℕ) (k : ℕ) → IsFirstByte (is_byte2 10 13) bs (Some k) → k ≡ prefix_len goes_on_line bs
ended bs k h =
    let place = h.0 in
    sym (ends_at goes_on_line bs k (let lt = place.high in omega arith) (λ i lt. not_true (is_byte2 10 13 (get_or bs i 0)) (place.before i (omega arith) lt)) (λ lt. ap not h.1))

pub endless : (bs : List ℕ) → IsFirstByte (is_byte2 10 13) bs None → length bs ≡ prefix_len goes_on_line bs
endless bs h = sym (ends_at goes_on_line bs (length bs) (omega arith) (λ i lt. not_true (is_byte2 10 13 (get_or bs i 0)) (h i (omega arith) lt)) (λ lt. absurd (omega arith)))
