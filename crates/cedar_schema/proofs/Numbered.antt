-- Numbers and rows are found one by one.
use Rattle.std.proofs.Common.{Bor, ◌++◌, ◌≡◌, ℕ, zero, suc, ◌+◌, ◌<◌, ◌≤◌, ◌⊎◌, inl, inr, ⊎_elim, Bool, true, false, cond, List, [], ◌∷◌, length, get_or, set, Contains, Option, None, Some, IsSome, unwrap_or, refl, sym, ap, subst, ◌∙◌, arith, IsTrue, ◌↔◌, get_or-set_same, get_or-set_other, length-set}
use Rattle.std.specs.BTreeMap.{BTreeMap, get, is_at, Updates, btree_map_len}
use Rattle.std.specs.List.{slice_get}
use Rattle.std.specs.Map.{lookup}
use Rattle.std.specs.Option.{option_map}
use Rattle.std.specs.Ordering.{is_eq}
use Rattle.std.specs.declared.cmp.Ordering.{Ordering}
use Rattle.std.specs.declared.cmp.Ordering.TheVariants.{Less, Equal, Greater}
use Rattle.std.proofs.lemmas.Bool.{cases_eq, cases_lt}
use Rattle.std.proofs.lemmas.List.{length-append, length-map}
use Rattle.std.proofs.lemmas.Option.{same_Some, slice_get-get_or, slice_get_past}
use Rattle.base_reach.specs.Closure.{LeadsTo, AreListed}
use Rattle.base_reach.specs.Private.Lent.{lent}
use Rattle.base_reach.proofs.Chains.{first_link}
use Rattle.base_reach.proofs.Listed.{here, first_or_later, nowhere}
use Rattle.base_search.specs.Links.{AreClosed, IsRowOver, list_at, next}
use Rattle.base_search.specs.Numbered.{AreNumbersOf}
use Rattle.base_search.proofs.Numbering.{IsNumbering, closure_by_numbers, list_of}
use Rattle.cedar_schema.specs.declared.schema.descents.Descents.{Descents}
use Rattle.cedar_schema.specs.Private.Kept.{AreApart, AreFound, AreLinkNumbers, ArePlacesBelow, AreRows, AreRowsAt, IsPlaceBelow, KeepsNumbers, in_row, with_place}

-- ---- one by one

-- each holds of what it is to hold of, or is left
abbrev pub AreDone : {A : Type 0} → (A → Type 0) → List A → List A → Type 0
AreDone {A} P left all = (u : A) → Contains all u → P u ⊎ Contains left u

pub done_first : {A : Type 0} (P : A → Type 0) (left all : List A) → left ≡ all → AreDone P left all
done_first P left all is u h = inr (subst (λ us. Contains us u) (sym is) h)

pub done_more : {A : Type 0} (P Q : A → Type 0) (before left all : List A) (x : A) → before ≡ x ∷ left → ((u : A) → P u → Q u) → Q x → AreDone P before all → AreDone Q left all
done_more P Q before left all x is kept now done u h = elim (done u h) [
  | inl was ↦ inl (kept u was)
  | inr due ↦ ⊎_elim (λ same. inl (subst Q same now)) (λ later. inr later) (first_or_later x left u (subst (λ us. Contains us u) is due))
]

pub done_all : {A : Type 0} (P : A → Type 0) (left all : List A) → left ≡ [] → AreDone P left all → (u : A) → Contains all u → P u
done_all P left all none done u h = ⊎_elim (λ was. was) (λ due. absurd (nowhere u (subst (λ us. Contains us u) none due))) (done u h)

pub equal_from : (x : Ordering) → is_eq x ≡ true → x ≡ Equal
equal_from Less h = cc
equal_from Equal h = refl
equal_from Greater h = cc

-- ---- numbers

told_cases : {A : Type 0} (R : A → A → Ordering) → ((u v : A) → R u v ≡ Equal → u ≡ v) → (old new : BTreeMap A ℕ) (k : A) (next : ℕ) → Updates R old new k (Some next) → (u : A) (n : ℕ) (b : Bool) → is_at (R k) u ≡ b → get R new u ≡ Some n
    → ((k ≡ u) × (next ≡ n)) ⊎ (get R old u ≡ Some n)
told_cases R ties old new k next put u n true here h = inl (ties k u (equal_from (R k u) here), same_Some _ _ (sym (put.0 u ∙ ap (λ b. cond b (Some next) (get R old u)) here) ∙ h))
told_cases R ties old new k next put u n false here h = inr (sym (put.0 u ∙ ap (λ b. cond b (Some next) (get R old u)) here) ∙ h)

kept_case : {A : Type 0} (R : A → A → Ordering) → ((u v : A) → R u v ≡ Equal → u ≡ v) → (old new : BTreeMap A ℕ) (k : A) (next : ℕ) → get R old k ≡ None → Updates R old new k (Some next) → (u : A) (n : ℕ) (b : Bool) → is_at (R k) u ≡ b → get R old u ≡ Some n → get R new u ≡ Some n
kept_case R ties old new k next absent put u n true here h = (let same : k ≡ u = ties k u (equal_from (R k u) here) in let none : get R old u ≡ None = subst (λ v. get R old v ≡ None) same absent in absurd (cc))
kept_case R ties old new k next absent put u n false here h = put.0 u ∙ ap (λ b. cond b (Some next) (get R old u)) here ∙ h

-- a key without a number is given the next
module _ {A : Type 0} (R : A → A → Ordering) (ties : (u v : A) → R u v ≡ Equal → u ≡ v) (old new : BTreeMap A ℕ) (k : A) (next : ℕ) (absent : get R old k ≡ None) (put : Updates R old new k (Some next)) where
  pub numbers_gained : KeepsNumbers R old new
  numbers_gained u n h = kept_case R ties old new k next absent put u n (is_at (R k) u) refl h

  pub apart_gained : AreApart R old → next ≡ btree_map_len old → btree_map_len new ≡ btree_map_len old + 1 → AreApart R new
  apart_gained were is more = record {
    apart = λ u v n p q. both u v n (told u n p) (told v n q);
    free = λ u n p. small u n (told u n p);
  }
    where
      told : (u : A) (n : ℕ) → get R new u ≡ Some n → ((k ≡ u) × (next ≡ n)) ⊎ (get R old u ≡ Some n)
      told u n p = told_cases R ties old new k next put u n (is_at (R k) u) refl p

      both : (u v : A) (n : ℕ) → ((k ≡ u) × (next ≡ n)) ⊎ (get R old u ≡ Some n) → ((k ≡ v) × (next ≡ n)) ⊎ (get R old v ≡ Some n) → u ≡ v
      both u v n (inl (s, e)) (inl (t, f)) = sym s ∙ t
      both u v n (inl (s, e)) (inr q) = let less = were.free v n q in absurd (omega arith)
      both u v n (inr p) (inl (t, f)) = let less = were.free u n p in absurd (omega arith)
      both u v n (inr p) (inr q) = were.apart u v n p q

      small : (u : A) (n : ℕ) → ((k ≡ u) × (next ≡ n)) ⊎ (get R old u ≡ Some n) → n < btree_map_len new
      small u n (inl (s, e)) = omega arith
      small u n (inr p) = let less = were.free u n p in omega arith

-- ---- places

place_later : {A : Type 0} (keys : List A) (bound : ℕ) (u : A) (o : Option ℕ) → (slice_get keys bound ≡ Some u → ⊥) → IsPlaceBelow keys bound u o → IsPlaceBelow keys (bound + 1) u o
place_later keys bound u None other none = λ k less at. elim (cases_lt k bound) [
  | inl before ↦ none k before at
  | inr last ↦ (let here : k ≡ bound = omega arith in other (ap (slice_get keys) (sym here) ∙ at))
]
place_later keys bound u (Some k) other at = at

module _ {A : Type 0} (R : A → A → Ordering) (numbers : BTreeMap A ℕ) (keys : List A) where
  pub places_first : (places : List (Option ℕ)) → ((n : ℕ) → get_or places n None ≡ None) → ArePlacesBelow R numbers keys 0 places
  places_first places none u m at = subst (IsPlaceBelow keys 0 u) (sym (none m)) (λ k less. absurd (omega arith))

  pub places_here : (places new : List (Option ℕ)) (bound : ℕ) (x : A) (m : ℕ) → AreApart R numbers → slice_get keys bound ≡ Some x → get R numbers x ≡ Some m → m < length places → new ≡ set places m (Some bound) → ArePlacesBelow R numbers keys bound places → ArePlacesBelow R numbers keys (bound + 1) new
  places_here places new bound x m apart here number within is placed u n at = elim (cases_eq n m) [
    | inl same ↦ (let one : x ≡ u = apart.apart x u n (number ∙ ap Some (sym same)) at in
        let read : get_or new n None ≡ Some bound = ap (λ (ps : List (Option ℕ)). get_or ps n None) is ∙ ap (λ i. get_or (set places m (Some bound)) i None) same ∙ get_or-set_same places m (Some bound) None within in
        subst (IsPlaceBelow keys (bound + 1) u) (sym read) (here ∙ ap Some one))
    | inr other ↦ (let read : get_or new n None ≡ get_or places n None = ap (λ (ps : List (Option ℕ)). get_or ps n None) is ∙ get_or-set_other places m n (Some bound) None other in
        let apart_from : slice_get keys bound ≡ Some u → ⊥ = λ too. other (let one : x ≡ u = same_Some _ _ (sym here ∙ too) in same_Some _ _ (sym at ∙ subst (λ v. get R numbers v ≡ Some m) one number)) in
        subst (IsPlaceBelow keys (bound + 1) u) (sym read) (place_later keys bound u (get_or places n None) apart_from (placed u n at)))
  ]

  pub places_on : (places : List (Option ℕ)) (bound : ℕ) (x : A) → slice_get keys bound ≡ Some x → get R numbers x ≡ None → ArePlacesBelow R numbers keys bound places → ArePlacesBelow R numbers keys (bound + 1) places
  places_on places bound x here none placed u n at =
      let apart_from : slice_get keys bound ≡ Some u → ⊥ = λ too. (let one : x ≡ u = same_Some _ _ (sym here ∙ too) in let no : get R numbers u ≡ None = subst (λ v. get R numbers v ≡ None) one none in absurd (cc)) in
      place_later keys bound u (get_or places n None) apart_from (placed u n at)

  pub places_next : (places new : List (Option ℕ)) (bound : ℕ) (x : A) (o : Option ℕ) → AreApart R numbers → length places ≡ btree_map_len numbers → slice_get keys bound ≡ Some x → get R numbers x ≡ o → new ≡ with_place places o bound → ArePlacesBelow R numbers keys bound places
      → (length new ≡ btree_map_len numbers) × ArePlacesBelow R numbers keys (bound + 1) new
  places_next places new bound x None apart long here number is placed = (ap length is ∙ long, subst (ArePlacesBelow R numbers keys (bound + 1)) (sym is) (places_on places bound x here number placed))
  places_next places new bound x (Some m) apart long here number is placed = (
    ap length is ∙ length-set places m (Some bound) ∙ long,
    places_here places new bound x m apart here number (let free = apart.free x m number in omega arith) is placed,
  )

-- no place in a list, nor after one more that is none
pub none_more : (places : List (Option ℕ)) → ((n : ℕ) → get_or places n None ≡ None) → (n : ℕ) → ◌≡◌ {A = Option ℕ} (get_or (places ++ None ∷ []) n None) None
none_more [] none zero = refl
none_more [] none (suc n) = refl
none_more (p ∷ places) none zero = none 0
none_more (p ∷ places) none (suc n) = none_more places (λ k. none (suc k)) n

-- ---- what keys link to, by numbers

module _ {A : Type 0} (R : A → A → Ordering) (up : A → List A) (numbers : BTreeMap A ℕ) (keys : List A) (lists : List (List ℕ)) (places : List (Option ℕ)) (bound : ℕ) (long : length keys ≤ bound)
    (listed : AreListed up keys) (apart : AreApart R numbers) (linked : AreLinkNumbers R up numbers keys lists) (placed : ArePlacesBelow R numbers keys bound places)
  where
    no_links : (u : A) → ((v : A) → Contains (up u) v → ⊥) → (us : List A) → up u ≡ us → us ≡ []
    no_links u none [] is = refl
    no_links u none (v ∷ us) is = absurd (none v (subst (λ (l : List A). Contains l v) (sym is) (here v us)))

    follow_case : (u : A) (o : Option ℕ) → IsPlaceBelow keys bound u o → AreNumbersOf (get R numbers) (up u) (list_at lists o)
    follow_case u (Some k) at = list_of up (get R numbers) keys lists linked k u at
    follow_case u None none =
        let nothing : up u ≡ [] = no_links u (λ v link. (let at = listed u v link in none at.0 (let within = at.1 in omega arith) (slice_get-get_or keys at.0 u at.1 ∙ ap Some at.2))) (up u) refl in
        subst (λ (l : List A). AreNumbersOf (get R numbers) l []) (sym nothing) tt

    pub numbering : IsNumbering up (get R numbers) (next lists places)
    numbering = record {
      apart = apart.apart;
      follow = λ u n at. follow_case u (get_or places n None) (placed u n at);
    }

    pub found_rows : (rows : List (List ℕ)) (found : BTreeMap A (List ℕ)) → AreClosed lists places rows → AreRowsAt R keys rows found → AreFound R up numbers found
    found_rows rows found closed at u row is =
        let place = at u row is in
        closure_by_numbers up (get R numbers) (next lists places) numbering u (get_or lists place.0 []) row (list_of up (get R numbers) keys lists linked place.0 u place.1)
        (subst (IsRowOver (next lists places) (get_or lists place.0 [])) (sym place.2) (closed place.0))

pub lists_long : {A : Type 0} (R : A → A → Ordering) (up : A → List A) (numbers : BTreeMap A ℕ) (keys : List A) (lists : List (List ℕ)) → AreLinkNumbers R up numbers keys lists → length keys ≡ length lists
lists_long R up numbers [] [] h = refl
lists_long R up numbers [] (ns ∷ lists) h = absurd h
lists_long R up numbers (k ∷ keys) [] h = absurd h
lists_long R up numbers (k ∷ keys) (ns ∷ lists) h = ap suc (lists_long R up numbers keys lists h.1)

-- ---- rows by their keys

-- each key from a place on has a row
abbrev pub HaveRowsFrom : {A : Type 0} → (A → A → Ordering) → List A → BTreeMap A (List ℕ) → ℕ → Type 0
HaveRowsFrom {A} R keys found from = (k : ℕ) (u : A) → from ≤ k → slice_get keys k ≡ Some u → IsSome (get R found u)

module _ {A : Type 0} (R : A → A → Ordering) (ties : (u v : A) → R u v ≡ Equal → u ≡ v) (keys : List A) (rows : List (List ℕ)) where
  row_case : (old new : BTreeMap A (List ℕ)) (x : A) (row : List ℕ) (k : ℕ) → AreRowsAt R keys rows old → Updates R old new x (Some row) → slice_get keys k ≡ Some x → row ≡ get_or rows k [] → (u : A) (r : List ℕ) (b : Bool) → is_at (R x) u ≡ b → get R new u ≡ Some r
      → (j : ℕ) × (slice_get keys j ≡ Some u) × (r ≡ get_or rows j [])
  row_case old new x row k at put here is u r true tie h =
      (k, here ∙ ap Some (ties x u (equal_from (R x u) tie)), same_Some _ _ (sym h ∙ put.0 u ∙ ap (λ b. cond b (Some row) (get R old u)) tie) ∙ is)
  row_case old new x row k at put here is u r false tie h = at u r (sym (put.0 u ∙ ap (λ b. cond b (Some row) (get R old u)) tie) ∙ h)

  pub rows_at_more : (old new : BTreeMap A (List ℕ)) (x : A) (row : List ℕ) (k : ℕ) → AreRowsAt R keys rows old → Updates R old new x (Some row) → slice_get keys k ≡ Some x → row ≡ get_or rows k [] → AreRowsAt R keys rows new
  rows_at_more old new x row k at put here is u r h = row_case old new x row k at put here is u r (is_at (R x) u) refl h

  some_case : (old new : BTreeMap A (List ℕ)) (x : A) (row : List ℕ) → Updates R old new x (Some row) → (u : A) (b : Bool) → is_at (R x) u ≡ b → IsSome (get R old u) → IsSome (get R new u)
  some_case old new x row put u true tie h = subst (λ (o : Option (List ℕ)). IsSome o) (sym (put.0 u ∙ ap (λ b. cond b (Some row) (get R old u)) tie)) refl
  some_case old new x row put u false tie h = subst (λ (o : Option (List ℕ)). IsSome o) (sym (put.0 u ∙ ap (λ b. cond b (Some row) (get R old u)) tie)) h

  pub rows_from : (old new : BTreeMap A (List ℕ)) (x : A) (row : List ℕ) (k : ℕ) → Updates R old new x (Some row) → slice_get keys k ≡ Some x → HaveRowsFrom R keys old (k + 1) → HaveRowsFrom R keys new k
  rows_from old new x row k put here have j u from at = elim (cases_eq j k) [
    | inl same ↦ (let one : x ≡ u = same_Some _ _ (sym here ∙ ap (slice_get keys) (sym same) ∙ at) in
        subst (λ v. IsSome (get R new v)) one (subst (λ (o : Option (List ℕ)). IsSome o) (sym put.1) refl))
    | inr later ↦ some_case old new x row put u (is_at (R x) u) refl (have j u (omega arith) at)
  ]

  pub rows_whole : (found : BTreeMap A (List ℕ)) → HaveRowsFrom R keys found 0 → (u : A) → Contains keys u → IsSome (get R found u)
  rows_whole found have u at = have at.0 u (omega arith) (slice_get-get_or keys at.0 u at.1 ∙ ap Some at.2)

-- where the rows are taken from the last to the first: each that was taken is found by the key at its place
pub record IsTaking {A : Type 0} (R : A → A → Ordering) (keys : List A) (all rows : List (List ℕ)) (found : BTreeMap A (List ℕ)) : Type 0 where
  pub few : length rows ≤ length keys
  pub left : (k : ℕ) → k < length rows → get_or rows k [] ≡ get_or all k []
  pub are_at : AreRowsAt R keys all found
  pub whole : HaveRowsFrom R keys found (length rows)

row_front : (rows : List (List ℕ)) (row : List ℕ) (k : ℕ) → k < length rows → get_or (rows ++ row ∷ []) k [] ≡ get_or rows k []
row_front [] row k within = absurd (omega arith)
row_front (r ∷ rows) row zero within = refl
row_front (r ∷ rows) row (suc k) within = row_front rows row k (omega arith)

row_last : (rows : List (List ℕ)) (row : List ℕ) → get_or (rows ++ row ∷ []) (length rows) [] ≡ row
row_last [] row = refl
row_last (r ∷ rows) row = row_last rows row

-- the key that is lent at a place
pub lent_at : {A : Type 0} (keys : List (Bor A)) (k : ℕ) (key : Bor A) → k < length keys → key ≡ get_or keys k key → slice_get (lent keys) k ≡ Some key.now
lent_at [] k key within is = absurd (omega arith)
lent_at (x ∷ keys) zero key within is = sym (ap (λ b. Some b.now) is)
lent_at (x ∷ keys) (suc k) key within is = lent_at keys k key (omega arith) is

module _ {A : Type 0} (R : A → A → Ordering) (ties : (u v : A) → R u v ≡ Equal → u ≡ v) (keys : List A) (all : List (List ℕ)) where
  pub taking_start : (found : BTreeMap A (List ℕ)) → length all ≡ length keys → found.entries ≡ [] → IsTaking R keys all all found
  taking_start found long empty = record {
    few = omega arith;
    left = λ k less. refl;
    are_at = λ u row h. (let none : get R found u ≡ None = ap (λ (es : List (A × List ℕ)). lookup (is_at (R u)) es) empty in absurd (cc));
    whole = λ k u from at. (let past = slice_get_past keys k (omega arith) in absurd (cc));
  }

  pub taking_within : (before popped : List (List ℕ)) (row : List ℕ) (found : BTreeMap A (List ℕ)) → IsTaking R keys all before found → before ≡ popped ++ row ∷ [] → length popped < length keys
  taking_within before popped row found taking is = let long = ap length is ∙ length-append popped (row ∷ []) in let few = taking.few in omega arith

  pub taking_more : (before popped : List (List ℕ)) (row : List ℕ) (old new : BTreeMap A (List ℕ)) (x : A) → IsTaking R keys all before old → before ≡ popped ++ row ∷ [] → slice_get keys (length popped) ≡ Some x → Updates R old new x (Some row) → IsTaking R keys all popped new
  taking_more before popped row old new x taking is here put =
      let long : length before ≡ length popped + 1 = ap length is ∙ length-append popped (row ∷ []) in
      let few = taking.few in
      let held : row ≡ get_or all (length popped) [] = sym (row_last popped row) ∙ ap (λ (rs : List (List ℕ)). get_or rs (length popped) []) (sym is) ∙ taking.left (length popped) (omega arith) in
      record {
        few = omega arith;
        left = λ k less. sym (row_front popped row k less) ∙ ap (λ (rs : List (List ℕ)). get_or rs k []) (sym is) ∙ taking.left k (omega arith);
        are_at = rows_at_more R ties keys all old new x row (length popped) taking.are_at put here held;
        whole = rows_from R ties keys all old new x row (length popped) put here (subst (HaveRowsFrom R keys old) long taking.whole);
      }

  pub taking_end : (rows : List (List ℕ)) (found : BTreeMap A (List ℕ)) → IsTaking R keys all rows found → length rows ≡ 0 → (u : A) → Contains keys u → IsSome (get R found u)
  taking_end rows found taking none u at = rows_whole R ties keys all found (subst (HaveRowsFrom R keys found) none taking.whole) u at

-- the last row is taken, and kept by the key at its place
pub taking_next : {A : Type 0} (R : A → A → Ordering) → ((u v : A) → R u v ≡ Equal → u ≡ v) → (keys : List (Bor A)) (all before popped : List (List ℕ)) (row : List ℕ) (old new : BTreeMap A (List ℕ)) (n : ℕ) (key : Bor A) (k : A)
    → IsTaking R (lent keys) all before old → before ≡ popped ++ row ∷ [] → n ≡ length popped → key ≡ get_or keys n key → k ≡ key.now → Updates R old new k (Some row) → IsTaking R (lent keys) all popped new
taking_next R ties keys all before popped row old new n key k taking is end read same put =
    let long = length-map keys (λ b. b.now) in
    let less = taking_within R ties (lent keys) all before popped row old taking is in
    let within : n < length keys = omega arith in
    let here : slice_get (lent keys) (length popped) ≡ Some key.now = subst (λ m. slice_get (lent keys) m ≡ Some key.now) end (lent_at keys n key within read) in
    taking_more R ties (lent keys) all before popped row old new key.now taking is here (subst (λ x. Updates R old new x (Some row)) same put)

-- ---- what rows tell

module _ {A : Type 0} (R : A → A → Ordering) (up : A → List A) (d : Descents A) where
  row_of : (low high : A) (o : Option (List ℕ)) → get R d.rows low ≡ o → AreFound R up d.numbers d.rows → ((u p : A) → Contains (up u) p → IsSome (get R d.rows u)) → IsTrue (unwrap_or (option_map (λ row. in_row R d.numbers row high) o) false) ↔ LeadsTo up low high
  row_of low high (Some row) e found whole = found low row e high
  row_of low high None e found whole = (
    λ h. let no : false ≡ true = h in cc,
    λ a. let first = first_link a in let no : false ≡ true = subst (λ (o : Option (List ℕ)). IsSome o) e (whole low first.0 first.1) in cc,
  )

  pub AreRows-found : AreFound R up d.numbers d.rows → ((u p : A) → Contains (up u) p → IsSome (get R d.rows u)) → AreRows R up d
  AreRows-found found whole low high = row_of low high (get R d.rows low) refl found whole

-- none of those that have links is above itself
pub acyclic : {A : Type 0} (up : A → List A) (all : List A) → AreListed up all → ((u : A) → Contains all u → LeadsTo up u u → ⊥) → (u : A) → LeadsTo up u u → ⊥
acyclic up all listed none u chain = let first = first_link chain in none u (listed u first.0 first.1) chain
