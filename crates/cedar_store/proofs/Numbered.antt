-- The numbers of uids, which stay where more keys follow.
use Rattle.std.proofs.Common.{◌≡◌, ℕ, zero, suc, ◌<◌, Bool, true, false, cond, List, [], ◌∷◌, ◌++◌, length, get_or, None, Some, refl, sym, ap, subst, ◌∙◌, arith, nat_lt, lt-ltb, if◌then◌else◌}
use Rattle.std.specs.List.{list_any, position_or_len}
use Rattle.std.proofs.lemmas.List.{length-append}
use Rattle.std.proofs.lemmas.List.Folds.{list_any_at}
use Rattle.std.proofs.lemmas.List.Quantifiers.{position-Some}
use Rattle.std.proofs.lemmas.List.Sums.{position_or_len_is}
use Rattle.cedar_value.specs.Datum.{same_uid}
use Rattle.cedar_value.specs.Private.Equality.{same_uid-Decides}
use Rattle.cedar_value.specs.declared.uid.Uid.{Uid}
use Rattle.cedar_store.specs.Private.Kept.{KeepsNumbers, number_in}

by_bool : (b : Bool) → (b ≡ true → ⊥) → b ≡ false
by_bool true h = absurd (h refl)
by_bool false h = refl

front : (us vs : List Uid) (k : ℕ) (d : Uid) → k < length us → get_or (us ++ vs) k d ≡ get_or us k d
front [] vs k d within = absurd (omega arith)
front (u ∷ us) vs zero d within = refl
front (u ∷ us) vs (suc k) d within = front us vs k d (omega arith)

last_of : (us : List Uid) (u : Uid) → get_or (us ++ u ∷ []) (length us) u ≡ u
last_of [] u = refl
last_of (x ∷ us) u = last_of us u

number_at : (keys : List Uid) (u : Uid) (n : ℕ) → n < length keys → ((k : ℕ) → k < n → same_uid u (get_or keys k u) ≡ false) → same_uid u (get_or keys n u) ≡ true → number_in keys u ≡ Some n
number_at keys u n within before here =
    let first : position_or_len (same_uid u) keys ≡ n = position_or_len_is (same_uid u) keys n u (omega arith) before (λ lt. here) in
    ap (λ k. cond (nat_lt k (length keys)) (Some k) None) first ∙ ap (λ b. cond b (Some n) None) (lt-ltb n (length keys) within)

number_kept : (keys more : List Uid) → KeepsNumbers keys (keys ++ more)
number_kept keys more u n at =
    let was = position-Some (same_uid u) keys n u at in
    let within = was.0 in
    let long = length-append keys more in
    number_at (keys ++ more) u n (omega arith) (λ k less. ap (same_uid u) (front keys more k u (omega arith)) ∙ was.2 k less) (ap (same_uid u) (front keys more n u within) ∙ was.1)

number_next : (keys : List Uid) (u : Uid) → list_any (same_uid u) keys ≡ false → number_in (keys ++ u ∷ []) u ≡ Some (length keys)
number_next keys u absent =
    let long = length-append keys (u ∷ []) in
    number_at (keys ++ u ∷ []) u (length keys) (omega arith) (λ k less. ap (same_uid u) (front keys (u ∷ []) k u less) ∙ by_bool (same_uid u (get_or keys k u)) (λ h. (let there = list_any_at (same_uid u) keys k u less h in absurd (cc))))
    (ap (same_uid u) (last_of keys u) ∙ (same_uid-Decides u u).1 refl)

-- a uid without a number is given the next
pub keys_more : (old new : List Uid) (u v : Uid) → v ≡ u → list_any (same_uid u) old ≡ false → new ≡ (if list_any (same_uid v) old then old else old ++ v ∷ []) → new ≡ old ++ u ∷ []
keys_more old new u v same absent is =
    is ∙ ap (λ (x : Uid). if list_any (same_uid x) old then old else old ++ x ∷ []) same ∙ ap (λ b. cond b old (old ++ u ∷ [])) absent

pub numbers_gained : (old new : List Uid) (u : Uid) → new ≡ old ++ u ∷ [] → KeepsNumbers old new
numbers_gained old new u is = subst (KeepsNumbers old) (sym is) (number_kept old (u ∷ []))

pub number_gained : (old new : List Uid) (u : Uid) (n : ℕ) → list_any (same_uid u) old ≡ false → new ≡ old ++ u ∷ [] → n ≡ length old → number_in new u ≡ Some n
number_gained old new u n absent is next = ap (λ (keys : List Uid). number_in keys u) is ∙ number_next old u absent ∙ ap Some (sym next)

pub number_apart : (keys : List Uid) (u v : Uid) (n : ℕ) → number_in keys u ≡ Some n → number_in keys v ≡ Some n → u ≡ v
number_apart keys u v n p q =
    let of_u = (position-Some (same_uid u) keys n u p).1 in
    let of_v = (position-Some (same_uid v) keys n u q).1 in
    (same_uid-Decides u (get_or keys n u)).0 of_u ∙ sym ((same_uid-Decides v (get_or keys n u)).0 of_v)
