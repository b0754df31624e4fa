-- The map of places: where an entity stands, and what a look-up by its uid finds.
use Rattle.std.proofs.Common.{◌≡◌, ◌↔◌, ℕ, zero, suc, ◌<◌, ◌≤◌, ◌⊎◌, inl, inr, Bool, true, false, cond, List, [], ◌∷◌, ◌++◌, length, get_or, take, Option, Some, None, refl, sym, ap, subst, ◌∙◌, arith, Contains, unwrap_or, ◌+◌, IsTrue}
use Rattle.indexmap.specs.IndexMap.{IndexMap, get, Updates}
use Rattle.std.specs.List.{slice_get}
use Rattle.std.specs.Option.{is_some, option_map, option_copied, MatchOption}
use Rattle.std.specs.Borrow.{Bor}
use Rattle.std.proofs.lemmas.Option.{same_Some, slice_get-map, slice_get-get_or, slice_get_past}
use Rattle.std.proofs.lemmas.List.{take_more, map-append, length-map, length-take-le}
use Rattle.cedar_value.specs.Datum.{same_uid}
use Rattle.cedar_value.specs.Private.Equality.{same_uid-Decides}
use Rattle.cedar_value.specs.World.{EntityTree, World, entry_of, has_entity}
use Rattle.cedar_value.specs.Private.Parents.{IsParent}
use Rattle.cedar_value.specs.declared.uid.Uid.{Uid}
use Rattle.cedar_store.specs.Entities.{uids_of, StandsTwice, AreUidsDistinct}
use Rattle.cedar_store.specs.Private.Kept.{ArePlaces, IsPlace}

-- ---- a list and its places

at_left : (us vs : List Uid) (k : ℕ) (u : Uid) → slice_get us k ≡ Some u → slice_get (us ++ vs) k ≡ Some u
at_left [] vs k u h = cc
at_left (x ∷ us) vs zero u h = h
at_left (x ∷ us) vs (suc k) u h = at_left us vs k u h

at_end : {X : Type 0} (us : List X) (u : X) → slice_get (us ++ u ∷ []) (length us) ≡ Some u
at_end [] u = refl
at_end (x ∷ us) u = at_end us u

pub at_cases : {X : Type 0} (us : List X) (u q : X) (k : ℕ) → slice_get (us ++ u ∷ []) k ≡ Some q → (slice_get us k ≡ Some q) ⊎ ((k ≡ length us) × (u ≡ q))
at_cases [] u q zero h = inr (refl, same_Some u q h)
at_cases [] u q (suc k) h = cc
at_cases (x ∷ us) u q zero h = inl h
at_cases (x ∷ us) u q (suc k) h = elim (at_cases us u q k h) [ inl before ↦ inl before | inr here ↦ inr (ap suc here.0, here.1) ]

at_taken : (w : World) (i k : ℕ) (u : Uid) → slice_get (uids_of (take i w)) k ≡ Some u → (k < i) × (slice_get (uids_of w) k ≡ Some u)
at_taken [] zero k u h = cc
at_taken [] (suc i) k u h = cc
at_taken (e ∷ w) zero k u h = cc
at_taken (e ∷ w) (suc i) zero u h = (omega arith, h)
at_taken (e ∷ w) (suc i) (suc k) u h = let rest = at_taken w i k u h in let less = rest.0 in (omega arith, rest.1)

pub at_place : (w : World) (i : ℕ) (e : EntityTree) → i < length w → e ≡ get_or w i e → slice_get (uids_of w) i ≡ Some e.uid
at_place w i e within is = slice_get-map (λ x. x.uid) w i ∙ ap (λ o. elim o [ None ↦ None | Some x ↦ Some x.uid ]) (slice_get-get_or w i e within) ∙ ap (λ x. Some x.uid) (sym is)

-- ---- one entity more

placed_case : {S : Type 0} (m n : IndexMap Uid ℕ S) (us : List Uid) (u q : Uid) (k : ℕ) (b : Bool) → same_uid u q ≡ b → get same_uid n q ≡ cond b (Some (length us)) (get same_uid m q) → ArePlaces m us → get same_uid m u ≡ None
    → (get same_uid n q ≡ Some k) ↔ (slice_get (us ++ u ∷ []) k ≡ Some q)
placed_case m n us u q k true tie now placed none =
    let same = (same_uid-Decides u q).0 tie in (
      λ h. (let place : k ≡ length us = sym (same_Some _ _ (sym now ∙ h)) in ap (slice_get (us ++ u ∷ [])) place ∙ at_end us u ∙ ap Some same),
      λ h. elim (at_cases us u q k h) [
        | inl before ↦ (let there : get same_uid m u ≡ Some k = (placed u k).1 (before ∙ ap Some (sym same)) in absurd (cc))
        | inr here ↦ now ∙ ap Some (sym here.0)
      ],
    )
placed_case m n us u q k false tie now placed none = (
  λ h. at_left us (u ∷ []) k q ((placed q k).0 (sym now ∙ h)),
  λ h. elim (at_cases us u q k h) [
    | inl before ↦ now ∙ (placed q k).1 before
    | inr here ↦ (let same = (same_uid-Decides u q).1 here.1 in absurd (cc))
  ],
)

pub ArePlaces-push : {S : Type 0} (m n : IndexMap Uid ℕ S) (us : List Uid) (u : Uid) → ArePlaces m us → get same_uid m u ≡ None → Updates same_uid m n u (Some (length us)) → ArePlaces n (us ++ u ∷ [])
ArePlaces-push m n us u placed none updates q k = placed_case m n us u q k (same_uid u q) refl (updates.0 q) placed none

-- the loop's step: the entity at the next place has its uid told
pub placed_more : {S : Type 0} (m n : IndexMap Uid ℕ S) (w : World) (i : ℕ) (e : EntityTree) (u : Uid) → i < length w → e ≡ get_or w i e → u ≡ e.uid → ArePlaces m (uids_of (take i w)) → get same_uid m u ≡ None → Updates same_uid m n u (Some i)
    → ArePlaces n (uids_of (take (i + 1) w))
placed_more m n w i e u within is named placed none updates =
    let front = uids_of (take i w) in
    let size : length front ≡ i = length-map (take i w) (λ (x : EntityTree). x.uid) ∙ length-take-le i w (omega arith) in
    let more : uids_of (take (i + 1) w) ≡ front ++ u ∷ [] = ap uids_of (take_more w i e within) ∙ map-append (λ (x : EntityTree). x.uid) (take i w) (get_or w i e ∷ []) ∙ ap (λ x. front ++ x ∷ []) (ap (λ (x : EntityTree). x.uid) (sym is) ∙ sym named) in
    let told : Updates same_uid m n u (Some (length front)) = subst (λ k. Updates same_uid m n u (Some k)) (sym size) updates in
    subst (ArePlaces n) (sym more) (ArePlaces-push m n front u placed none told)

twice_at : {S : Type 0} (m : IndexMap Uid ℕ S) (w : World) (i : ℕ) (u : Uid) (o : Option ℕ) → get same_uid m u ≡ o → IsTrue (is_some o) → ArePlaces m (uids_of (take i w)) → slice_get (uids_of w) i ≡ Some u → StandsTwice w u
twice_at m w i u None e there placed at = cc
twice_at m w i u (Some k) e there placed at = let taken = at_taken w i k u ((placed u k).0 e) in (k, i, taken.0, taken.1, at)

pub AreUidsDistinct-placed : {S : Type 0} (m : IndexMap Uid ℕ S) (w : World) → ArePlaces m (uids_of w) → AreUidsDistinct w
AreUidsDistinct-placed m w placed u twice =
    let one = (placed u twice.0).1 twice.3 in
    let two = (placed u twice.1).1 twice.4 in
    let less = twice.2 in
    let same : twice.0 ≡ twice.1 = same_Some _ _ (sym one ∙ two) in
    absurd (omega arith)

pub stands_twice : {S : Type 0} (m : IndexMap Uid ℕ S) (w : World) (i : ℕ) (e : EntityTree) (u : Uid) → i < length w → e ≡ get_or w i e → u ≡ e.uid → ArePlaces m (uids_of (take i w)) → IsTrue (is_some (get same_uid m u)) → StandsTwice w u
stands_twice m w i e u within is named placed there = twice_at m w i u (get same_uid m u) refl there placed (at_place w i e within is ∙ ap Some (sym named))

-- ---- what a look-up finds

entry_step : (e : EntityTree) (w : World) (u : Uid) (k : ℕ) (b : Bool) → same_uid e.uid u ≡ b → (e.uid ≡ u → suc k ≤ 0) → slice_get w k ≡ entry_of w u → slice_get w k ≡ cond b (Some e) (entry_of w u)
entry_step e w u k true same first rest = let none = first ((same_uid-Decides e.uid u).0 same) in absurd (omega arith)
entry_step e w u k false same first rest = rest

pub entry_of-first : (w : World) (u : Uid) (k : ℕ) → slice_get (uids_of w) k ≡ Some u → ((j : ℕ) → slice_get (uids_of w) j ≡ Some u → k ≤ j) → slice_get w k ≡ entry_of w u
entry_of-first [] u k h first = cc
entry_of-first (e ∷ w) u zero h first = ap (λ b. cond b (Some e) (entry_of w u)) (sym ((same_uid-Decides e.uid u).1 (same_Some _ _ h)))
entry_of-first (e ∷ w) u (suc k) h first =
    entry_step e w u k (same_uid e.uid u) refl (λ same. first 0 (ap Some same)) (entry_of-first w u k h (λ j p. let later = first (suc j) p in omega arith))

nowhere_step : (e : EntityTree) (w : World) (u : Uid) (b : Bool) → same_uid e.uid u ≡ b → (e.uid ≡ u → ⊥) → None ≡ entry_of w u → None ≡ cond b (Some e) (entry_of w u)
nowhere_step e w u true same apart rest = absurd (apart ((same_uid-Decides e.uid u).0 same))
nowhere_step e w u false same apart rest = rest

entry_of-nowhere : (w : World) (u : Uid) → ((k : ℕ) → slice_get (uids_of w) k ≡ Some u → ⊥) → None ≡ entry_of w u
entry_of-nowhere [] u h = refl
entry_of-nowhere (e ∷ w) u h = nowhere_step e w u (same_uid e.uid u) refl (λ same. h 0 (ap Some same)) (entry_of-nowhere w u (λ k p. h (suc k) p))

pub entry_of-placed : (w : World) (u : Uid) (k : ℕ) → IsPlace (uids_of w) u (Some k) → slice_get w k ≡ entry_of w u
entry_of-placed w u k placed = entry_of-first w u k ((placed k).0 refl) (λ j p. let same : k ≡ j = same_Some _ _ ((placed j).1 p) in omega arith)

pub entry_of-unplaced : (w : World) (u : Uid) → IsPlace (uids_of w) u None → None ≡ entry_of w u
entry_of-unplaced w u placed = entry_of-nowhere w u (λ k p. let h = (placed k).1 p in cc)

stands : (w : World) (u : Uid) (k : ℕ) → slice_get (uids_of w) k ≡ Some u → true ≡ is_some (slice_get w k)
stands [] u k h = cc
stands (e ∷ w) u zero h = refl
stands (e ∷ w) u (suc k) h = stands w u k h

pub has_entity-placed : (w : World) (u : Uid) (o : Option ℕ) → IsPlace (uids_of w) u o → is_some o ≡ has_entity w u
has_entity-placed w u None placed = ap is_some (entry_of-unplaced w u placed)
has_entity-placed w u (Some k) placed = stands w u k ((placed k).0 refl) ∙ ap is_some (entry_of-placed w u k placed)

-- what has a parent is in the world
listed_step : (e : EntityTree) (w : World) (u p : Uid) (b : Bool) → same_uid e.uid u ≡ b → (IsParent w u p → (k : ℕ) × (slice_get (uids_of w) k ≡ Some u))
    → Contains (unwrap_or (option_map (λ x. x.parents) (cond b (Some e) (entry_of w u))) []) p → (k : ℕ) × (slice_get (uids_of (e ∷ w)) k ≡ Some u)
listed_step e w u p true same rest m = (0, ap Some ((same_uid-Decides e.uid u).0 same))
listed_step e w u p false same rest m = let at = rest m in (suc at.0, at.1)

pub listed : (w : World) (u p : Uid) → IsParent w u p → (k : ℕ) × (slice_get (uids_of w) k ≡ Some u)
listed [] u p l = absurd (omega (arith, l.1))
listed (e ∷ w) u p l = listed_step e w u p (same_uid e.uid u) refl (listed w u p) l

-- ---- what the code reads

pub none_is : (o : Option ℕ) → is_some o ≡ false → o ≡ None
none_is None h = refl
none_is (Some k) h = cc

pub got : {X : Type 0} (r : Option (Bor X)) (xs : List X) (i : ℕ) → MatchOption r (length xs ≤ i) (λ x. (i < length xs) × ((d : X) → x.now ≡ get_or xs i d)) → option_copied r ≡ slice_get xs i
got None xs i past = sym (slice_get_past xs i past)
got (Some x) xs i read = ap Some (read.1 x.now) ∙ sym (slice_get-get_or xs i x.now read.0)

pub within_list : {X : Type 0} (xs : List X) (k : ℕ) (x : X) → slice_get xs k ≡ Some x → k < length xs
within_list [] k x h = cc
within_list (y ∷ xs) zero x h = omega arith
within_list (y ∷ xs) (suc k) x h = let rest = within_list xs k x h in omega arith

pub past_list : {X : Type 0} (xs : List X) (k : ℕ) → None ≡ slice_get xs k → length xs ≤ k
past_list [] k h = omega arith
past_list (y ∷ xs) zero h = cc
past_list (y ∷ xs) (suc k) h = let rest = past_list xs k h in omega arith
