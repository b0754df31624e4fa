-- The uids whose bits a row has, in a list that gains them.
use Rattle.std.proofs.Common.{◌≡◌, ◌≢◌, ◌↔◌, take, ℕ, ◌+◌, ◌<◌, ◌≤◌, ◌⊎◌, inl, inr, ⊎_elim, Bool, true, false, cond, Bor, List, [], ◌∷◌, ◌++◌, length, get_or, Option, None, Some, refl, sym, ap, subst, ◌∙◌, arith, Contains, IsTrue, nat_lt, lt-ltb}
use Rattle.std.specs.List.{AllPairs, IsDistinct, position, position_or_len, slice_get}
use Rattle.std.proofs.lemmas.Bool.{cases_lt}
use Rattle.std.proofs.lemmas.List.{append-nil, append_assoc}
use Rattle.std.proofs.Math.Seq.{take-append_seam}
use Rattle.std.proofs.lemmas.List.Elements.{Contains-append_left, Contains-get_or, Contains-push, Contains-push_cases}
use Rattle.std.proofs.lemmas.List.Quantifiers.{all_pairs_push, position-Some}
use Rattle.std.proofs.lemmas.List.Sums.{position_or_len_is}
use Rattle.std.proofs.lemmas.Map.Keys.{apart_from_distinct}
use Rattle.std.proofs.lemmas.Option.{get_or_from_slice_get, same_Some, slice_get_within, slice_get-get_or}
use Rattle.base_bits.specs.Bits.{has_bit, IsNextBit}
use Rattle.base_reach.specs.Private.Lent.{lent}
use Rattle.base_reach.proofs.Listed.{nowhere}
use Rattle.base_reach.proofs.Searching.{lent-push}
use Rattle.base_search.specs.Numbered.{bit_told}
use Rattle.cedar_value.specs.Datum.{same_uid}
use Rattle.cedar_value.specs.Private.Equality.{same_uid-Decides}
use Rattle.cedar_value.specs.World.{World, Below}
use Rattle.cedar_value.specs.declared.uid.Uid.{Uid}
use Rattle.cedar_store.specs.Ancestors.{AddsAncestors}
use Rattle.cedar_store.specs.Private.Gained.{AddsMembers}
use Rattle.cedar_store.specs.Private.Kept.{AreAncestors, in_row}

by_bool : (b : Bool) → (b ≡ true → ⊥) → b ≡ false
by_bool true h = absurd (h refl)
by_bool false h = refl

-- of keys that are distinct, each comes first where it stands
pub position_here : (keys : List Uid) (i : ℕ) (u : Uid) → IsDistinct same_uid keys → slice_get keys i ≡ Some u → position (same_uid u) keys ≡ Some i
position_here keys i u distinct read =
    let within = slice_get_within keys i u read in
    let here : get_or keys i u ≡ u = get_or_from_slice_get keys i u u read in
    let first : position_or_len (same_uid u) keys ≡ i = position_or_len_is (same_uid u) keys i u (omega arith) before (λ lt. (same_uid-Decides u (get_or keys i u)).1 (sym here)) in
    ap (λ n. cond (nat_lt n (length keys)) (Some n) None) first ∙ ap (λ b. cond b (Some i) None) (lt-ltb i (length keys) within)
  where
    before : (k : ℕ) → k < i → same_uid u (get_or keys k u) ≡ false
    before k less =
        by_bool (same_uid u (get_or keys k u)) (λ h.
        (let same : u ≡ get_or keys k u = (same_uid-Decides u (get_or keys k u)).0 h in
        let here : get_or keys i u ≡ u = get_or_from_slice_get keys i u u read in
        let apart : same_uid (get_or keys k u) (get_or keys i u) ≡ false = apart_from_distinct same_uid keys k i u distinct less (slice_get_within keys i u read) in
        let equal : same_uid (get_or keys k u) (get_or keys i u) ≡ true = (same_uid-Decides (get_or keys k u) (get_or keys i u)).1 (sym same ∙ sym here) in
        absurd (cc)))

-- the uid has a number below the bound, and the row the bit of it
abbrev pub IsToldBelow : List Uid → List ℕ → ℕ → Uid → Type 0
IsToldBelow keys row bound v = (k : ℕ) × (k < bound) × (position (same_uid v) keys ≡ Some k) × (has_bit row k ≡ true)

-- a list has gained the uids of the row's bits below the bound, each once
pub record HasGained (keys : List Uid) (row : List ℕ) (bound : ℕ) (begun now : List (Bor Uid)) : Type 0 where
  pub added : List (Bor Uid)
  pub appended : now ≡ begun ++ added
  pub once : AllPairs (λ u v. u ≢ v) (lent added)
  pub told : (v : Uid) → Contains (lent added) v ↔ IsToldBelow keys row bound v

-- what has gained uids begins as it was
pub HasGained-begun : (keys : List Uid) (row : List ℕ) (bound : ℕ) (begun now : List (Bor Uid)) → HasGained keys row bound begun now → take (length begun) now ≡ begun
HasGained-begun keys row bound begun now gained = ap (take (length begun)) gained.appended ∙ take-append_seam begun gained.added

pub HasGained-none : (keys : List Uid) (row : List ℕ) (us : List (Bor Uid)) → HasGained keys row 0 us us
HasGained-none keys row us = record {
  added = [];
  appended = sym (append-nil us);
  once = λ i j d less within. absurd (omega arith);
  told = λ v. (λ m. absurd (nowhere v m), λ (told : IsToldBelow keys row 0 v). let less = told.1 in absurd (omega arith));
}

module _ (keys : List Uid) (row : List ℕ) (next number : ℕ) (u : Uid) (distinct : IsDistinct same_uid keys) (found : IsNextBit row next number) (read : slice_get keys number ≡ Some u) where
  told_more : (v : Uid) → IsToldBelow keys row next v → IsToldBelow keys row (number + 1) v
  told_more v told = let less = told.1 in let order = found.0 in (told.0, omega arith, told.2, told.3)

  told_here : (v : Uid) → u ≡ v → IsToldBelow keys row (number + 1) v
  told_here v same = subst (IsToldBelow keys row (number + 1)) same (number, omega arith, position_here keys number u distinct read, found.1)

  told_last : (v : Uid) → IsToldBelow keys row (number + 1) v → IsToldBelow keys row next v ⊎ (u ≡ v)
  told_last v (k, less, at, bit) =
      elim (cases_lt k next) [
        | inl before ↦ inl (k, before, at, bit)
        | inr after ↦ elim (cases_lt k number) [
          | inl between ↦ (let none = found.2 k after between in absurd (cc))
          | inr last ↦ (let same : number ≡ k = omega arith in
              let stands = position-Some (same_uid v) keys k v at in
              let there : slice_get keys k ≡ Some (get_or keys k v) = slice_get-get_or keys k v stands.0 in
              let is : v ≡ get_or keys k v = (same_uid-Decides v (get_or keys k v)).0 stands.1 in
              inr (same_Some u v (sym read ∙ ap (slice_get keys) same ∙ there ∙ ap Some (sym is))))
        ]
      ]

  pub told_step : (v : Uid) → IsToldBelow keys row (number + 1) v ↔ (IsToldBelow keys row next v ⊎ (u ≡ v))
  told_step v = (λ told. told_last v told, λ h. ⊎_elim (λ before. told_more v before) (λ same. told_here v same) h)

  -- the uid of the number was not told before
  pub told_new : ¬ IsToldBelow keys row next u
  told_new before =
      let here = position_here keys number u distinct read in
      let less = before.1 in
      let order = found.0 in
      let is : before.0 ≡ number = same_Some before.0 number (sym before.2 ∙ here) in
      absurd (omega arith)

  told_apart : (us : List Uid) → ((v : Uid) → Contains us v ↔ IsToldBelow keys row next v) → (k : ℕ) (d : Uid) → k < length us → get_or us k d ≢ u
  told_apart us told k d within same = told_new ((told u).0 (subst (Contains us) same (Contains-get_or us k d within)))

  pub HasGained-more : (begun old new : List (Bor Uid)) (b : Bor Uid) → b.now ≡ u → HasGained keys row next begun old → new ≡ old ++ b ∷ [] → HasGained keys row (number + 1) begun new
  HasGained-more begun old new b named gained is =
      let last : lent (gained.added ++ b ∷ []) ≡ lent gained.added ++ u ∷ [] = lent-push (gained.added ++ b ∷ []) gained.added b refl ∙ ap (λ v. lent gained.added ++ v ∷ []) named in record {
        added = gained.added ++ b ∷ [];
        appended = is ∙ ap (λ us. us ++ b ∷ []) gained.appended ∙ append_assoc begun gained.added (b ∷ []);
        once = subst (AllPairs (λ v w. v ≢ w)) (sym last) (all_pairs_push (λ v w. v ≢ w) (lent gained.added) u gained.once (told_apart (lent gained.added) gained.told));
        told = λ v. (
          λ m. elim (Contains-push_cases (lent gained.added) u v (subst (λ us. Contains us v) last m)) [
            | inl before ↦ told_more v ((gained.told v).0 before)
            | inr here ↦ told_here v here
          ],
          λ m. subst (λ us. Contains us v) (sym last) (⊎_elim
              (λ before. Contains-append_left (lent gained.added) (u ∷ []) v ((gained.told v).1 before))
              (λ same. subst (Contains (lent gained.added ++ u ∷ [])) same (Contains-push (lent gained.added) u))
              (told_last v m)),
        );
      }

-- the number of a uid whose bit the row has
number_told : (row : List ℕ) (o : Option ℕ) → bit_told row o ≡ true → (k : ℕ) × (o ≡ Some k) × (has_bit row k ≡ true)
number_told row None h = cc
number_told row (Some k) h = (k, refl, h)

-- the row has no bit more
module _ (keys : List Uid) (row : List ℕ) (bound : ℕ) (none : (k : ℕ) → bound ≤ k → k < length keys → has_bit row k ≡ false) where
  bit_below : (v : Uid) → in_row keys row v ≡ true → IsToldBelow keys row bound v
  bit_below v h =
      let number = number_told row (position (same_uid v) keys) h in
      elim (cases_lt number.0 bound) [
        | inl below ↦ (number.0, below, number.1, number.2)
        | inr past ↦ (let absent = none number.0 past (position-Some (same_uid v) keys number.0 v number.1).0 in
            let there = number.2 in
            absurd (cc))
      ]

  pub told_all : (v : Uid) → IsToldBelow keys row bound v ↔ IsTrue (in_row keys row v)
  told_all v = (λ told. ap (bit_told row) told.2 ∙ told.3, λ h. bit_below v h)

pub HasGained-all : (keys : List Uid) (row : List ℕ) (bound : ℕ) (begun now : List (Bor Uid)) → HasGained keys row bound begun now → ((k : ℕ) → bound ≤ k → k < length keys → has_bit row k ≡ false)
    → AddsMembers keys row begun now
HasGained-all keys row bound begun now gained none = record {
  added = gained.added;
  appended = gained.appended;
  once = gained.once;
  told = λ v. (λ m. (told_all keys row bound none v).0 ((gained.told v).0 m), λ h. (gained.told v).1 ((told_all keys row bound none v).1 h));
}

-- ---- what a store says of it

pub AddsAncestors-row : (w : World) (low : Uid) (keys : List Uid) (row : List ℕ) (old new : List (Bor Uid)) → AreAncestors w low (in_row keys row) → AddsMembers keys row old new → AddsAncestors w low old new
AddsAncestors-row w low keys row old new above gained = record {
  added = gained.added;
  appended = gained.appended;
  once = gained.once;
  above = λ v. (λ m. (above v).0 ((gained.told v).0 m), λ b. (gained.told v).1 ((above v).1 b));
}

pub AddsAncestors-nothing : (w : World) (low : Uid) (us : List (Bor Uid)) → ((v : Uid) → ¬ Below w low v) → AddsAncestors w low us us
AddsAncestors-nothing w low us none = record {
  added = [];
  appended = sym (append-nil us);
  once = λ i j d less within. absurd (omega arith);
  above = λ v. (λ m. absurd (nowhere v m), λ b. absurd (none v b));
}
