-- Numbers of uids that are compared, without the number of a uid being looked up.
use Rattle.std.proofs.Common.{◌≡◌, ℕ, true, false, not, List, [], ◌∷◌, length, get_or, Option, Some, None, nat_eq, option_map, unwrap_or, ⊎_elim, sym, ap, ◌∙◌, arith}
use Rattle.std.specs.List.{IsDistinct, list_any, slice_get}
use Rattle.std.proofs.lemmas.List.Quantifiers.{position-Some}
use Rattle.std.proofs.lemmas.Option.{slice_get-get_or}
use Rattle.base_bits.specs.Bits.{has_bit}
use Rattle.base_reach.proofs.Listed.{any_at, any_found, either_true, is_false, or_left}
use Rattle.base_search.proofs.Finding.{no_bit}
use Rattle.cedar_value.specs.Datum.{same_uid}
use Rattle.cedar_value.specs.Private.Equality.{same_uid-Decides}
use Rattle.cedar_value.specs.declared.uid.Uid.{Uid}
use Rattle.cedar_store.specs.Private.Kept.{has_row, in_ahead, ahead_told, is_ahead_of, is_number_of, number_in}
use Rattle.cedar_store.proofs.AboveNear.{equal_numbers, equal_self, told_number}
use Rattle.cedar_store.proofs.Members.{position_here}

told_key : (u : Uid) (o : Option Uid) → unwrap_or (option_map (same_uid u) o) false ≡ true → o ≡ Some u
told_key u None h = absurd (cc)
told_key u (Some v) h = ap Some (sym ((same_uid-Decides u v).0 h))

-- the key at the place has that number
numbered : (keys : List Uid) (u : Uid) (n : ℕ) → IsDistinct same_uid keys → is_number_of keys u n ≡ true → number_in keys u ≡ Some n
numbered keys u n distinct h = position_here keys n u distinct (told_key u (slice_get keys n) h)

-- a number is that of the key at its place
is_numbered : (keys : List Uid) (u : Uid) (n : ℕ) → number_in keys u ≡ Some n → is_number_of keys u n ≡ true
is_numbered keys u n at =
    let found = position-Some (same_uid u) keys n u at in
    ap (λ (o : Option Uid). unwrap_or (option_map (same_uid u) o) false) (slice_get-get_or keys n u found.0) ∙ found.1

-- a row with a bit is there
has_some : (row : List ℕ) (m : ℕ) → has_bit row m ≡ true → not (nat_eq (length row) 0) ≡ true
has_some [] m h = let none = no_bit m in absurd (cc)
has_some (w ∷ ws) m h = grind arith

pub near_is_ahead : (keys : List Uid) (rows : List (List ℕ)) (near : List ℕ) (u : Uid) → IsDistinct same_uid keys → list_any (is_number_of keys u) near ≡ true → in_ahead keys rows near u ≡ true
near_is_ahead keys rows near u distinct h =
    let found = any_found (is_number_of keys u) near h in
    let n = found.0 in
    ap (ahead_told rows near) (numbered keys u n distinct found.2) ∙ any_at (is_ahead_of rows n) near n found.1 (or_left (nat_eq n n) (has_bit (get_or rows n []) n) (equal_self n))

pub none_is_ahead : (keys : List Uid) (rows : List (List ℕ)) (near : List ℕ) (u : Uid) → list_any (is_number_of keys u) near ≡ false → list_any (has_row rows) near ≡ false → in_ahead keys rows near u ≡ false
none_is_ahead keys rows near u other bare =
    is_false (in_ahead keys rows near u) (λ h.
    (let told = told_number rows near (number_in keys u) h in
    let m = told.0 in
    let found = any_found (is_ahead_of rows m) near told.2 in
    let n = found.0 in
    ⊎_elim
    (λ same.
    (let here : is_number_of keys u n ≡ true = is_numbered keys u n (told.1 ∙ ap Some (sym (equal_numbers n m same))) in
    let some = any_at (is_number_of keys u) near n found.1 here in
    absurd (cc)))
    (λ bit.
    (let row : has_row rows n ≡ true = has_some (get_or rows n []) m bit in
    let some = any_at (has_row rows) near n found.1 row in
    absurd (cc)))
    (either_true (nat_eq n m) (has_bit (get_or rows n []) m) found.2)))
