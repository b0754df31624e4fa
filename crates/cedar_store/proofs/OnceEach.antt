-- Entities whose uids are distinct, after changes.
--     distinct_over      a world over changes has each uid once
use Rattle.std.proofs.Common.{◌≡◌, ℕ, zero, suc, ◌<◌, List, [], ◌∷◌, ◌++◌, filter, Bool, true, false, not, cond, Option, Some, None, refl, sym, ap, subst, ◌∙◌, arith, Contains}
use Rattle.std.specs.List.{slice_get}
use Rattle.std.proofs.lemmas.Option.{same_Some}
use Rattle.base_reach.proofs.Listed.{here, there, from_filtered}
use Rattle.cedar_value.specs.Datum.{same_uid}
use Rattle.cedar_value.specs.Private.Equality.{same_uid-Decides}
use Rattle.cedar_value.specs.World.{EntityTree, World, entry_of}
use Rattle.cedar_value.specs.declared.uid.Uid.{Uid}
use Rattle.cedar_store.specs.Changes.{is_changed}
use Rattle.cedar_store.specs.Entities.{AreUidsDistinct, uids_of}
use Rattle.cedar_store.specs.Private.Changing.{AreChangesDistinct, ChangeTree, EachChange, IsChangeOfUid, IsOfUid, removed_of, upserted_by, upserted_of, upsert_in}
use Rattle.cedar_store.specs.Private.Overlaid.{world_over}
use Rattle.cedar_store.proofs.ChangedLemmas.{entry_second, not_upserted}
use Rattle.cedar_store.proofs.ChangesTold.{upserted_told}

-- no entity that comes later has the uid of an earlier one
abbrev Once : World → Type 0
Once [] = Unit {0}
Once (e ∷ w) = (entry_of w e.uid ≡ None) × Once w

-- ---- from places, and to them

later_none : (e : EntityTree) (w : World) (u : Uid) (b : Bool) → same_uid e.uid u ≡ b → cond b (Some e) (entry_of w u) ≡ None → (e.uid ≡ u → ⊥) × (entry_of w u ≡ None)
later_none e w u true is none = cc
later_none e w u false is none = (λ same. absurd (let t = (same_uid-Decides e.uid u).1 same in let both : true ≡ false = sym t ∙ is in cc), none)

absent_at : (w : World) (u : Uid) (k : ℕ) → entry_of w u ≡ None → slice_get (uids_of w) k ≡ Some u → ⊥
absent_at [] u k none at = cc
absent_at (e ∷ w) u zero none at = (later_none e w u (same_uid e.uid u) refl none).0 (same_Some _ _ at)
absent_at (e ∷ w) u (suc k) none at = absent_at w u k (later_none e w u (same_uid e.uid u) refl none).1 at

apart_places : (w : World) → Once w → (u : Uid) (i j : ℕ) → i < j → slice_get (uids_of w) i ≡ Some u → slice_get (uids_of w) j ≡ Some u → ⊥
apart_places [] once u i j less one two = cc
apart_places (e ∷ w) once u zero zero less one two = absurd (omega arith)
apart_places (e ∷ w) once u zero (suc j) less one two = absent_at w u j (subst (λ x. entry_of w x ≡ None) (same_Some _ _ one) once.0) two
apart_places (e ∷ w) once u (suc i) zero less one two = absurd (omega arith)
apart_places (e ∷ w) once u (suc i) (suc j) less one two = apart_places w once.1 u i j (omega arith) one two

distinct_from : (w : World) → Once w → AreUidsDistinct w
distinct_from w once u twice = apart_places w once u twice.0 twice.1 twice.2 twice.3 twice.4

place_by : (e : EntityTree) (w : World) (u : Uid) (x : EntityTree) (b : Bool) → same_uid e.uid u ≡ b → (entry_of w u ≡ Some x → (k : ℕ) × (slice_get (uids_of w) k ≡ Some u)) → cond b (Some e) (entry_of w u) ≡ Some x → (k : ℕ) × (slice_get (uids_of (e ∷ w)) k ≡ Some u)
place_by e w u x true is later at = (0, ap Some ((same_uid-Decides e.uid u).0 is))
place_by e w u x false is later at = let rest = later at in (suc rest.0, rest.1)

place_of : (w : World) (u : Uid) (x : EntityTree) → entry_of w u ≡ Some x → (k : ℕ) × (slice_get (uids_of w) k ≡ Some u)
place_of [] u x at = cc
place_of (e ∷ w) u x at = place_by e w u x (same_uid e.uid u) refl (place_of w u x) at

once_from : (w : World) → AreUidsDistinct w → Once w
once_from [] distinct = tt
once_from (e ∷ w) distinct = (by (entry_of w e.uid) refl, once_from w (λ u twice. distinct u (suc twice.0, suc twice.1, omega (arith, twice.2), twice.3, twice.4)))
  where
    by : (o : Option EntityTree) → entry_of w e.uid ≡ o → entry_of w e.uid ≡ None
    by None is = is
    by (Some x) is = let k = place_of w e.uid x is in absurd (distinct e.uid (0, suc k.0, omega arith, refl, k.1))

-- ---- a filter, and two lists

none_by : (b t : Bool) (e : EntityTree) (w : World) (f : EntityTree → Bool) (u : Uid) → same_uid e.uid u ≡ t → (entry_of w u ≡ None → entry_of (filter f w) u ≡ None) → cond t (Some e) (entry_of w u) ≡ None → entry_of (cond b (e ∷ filter f w) (filter f w)) u ≡ None
none_by true true e w f u same later none = cc
none_by true false e w f u same later none = rw same (later none)
none_by false true e w f u same later none = cc
none_by false false e w f u same later none = later none

none_filtered : (f : EntityTree → Bool) (w : World) (u : Uid) → entry_of w u ≡ None → entry_of (filter f w) u ≡ None
none_filtered f [] u none = refl
none_filtered f (e ∷ w) u none = none_by (f e) (same_uid e.uid u) e w f u refl (none_filtered f w u) none

once_filtered : (f : EntityTree → Bool) (w : World) → Once w → Once (filter f w)
once_filtered f [] once = tt
once_filtered f (e ∷ w) once = by (f e) (once_filtered f w once.1)
  where
    by : (b : Bool) → Once (filter f w) → Once (cond b (e ∷ filter f w) (filter f w))
    by true rest = (none_filtered f w e.uid once.0, rest)
    by false rest = rest

once_both : (xs ys : World) → Once xs → Once ys → ((x : EntityTree) → Contains xs x → entry_of ys x.uid ≡ None) → Once (xs ++ ys)
once_both [] ys first second apart = second
once_both (x ∷ xs) ys first second apart = (entry_second xs ys x.uid first.0 ∙ apart x (here x xs), once_both xs ys first.1 second (λ y m. apart y (there x xs y m)))

-- ---- changes

once_by : (c : ChangeTree) (cs : List ChangeTree) (o : Option EntityTree) → IsOfUid c.uid o → entry_of (upserted_of cs) c.uid ≡ None → Once (upserted_of cs) → Once (upserted_by o (upserted_of cs))
once_by c cs None named none rest = rest
once_by c cs (Some e) named none rest = (subst (λ u. entry_of (upserted_of cs) u ≡ None) (sym named) none, rest)

once_upserted : (cs : List ChangeTree) → AreChangesDistinct cs → EachChange IsChangeOfUid cs → Once (upserted_of cs)
once_upserted [] distinct named = tt
once_upserted (c ∷ cs) distinct named = once_by c cs c.entity named.0 (upserted_told cs c.uid distinct.1 named.1 ∙ ap upsert_in distinct.0) (once_upserted cs distinct.1 named.1)

not_true : (b : Bool) → not b ≡ true → b ≡ false
not_true true h = cc
not_true false h = refl

pub distinct_over : (w : World) (cs : List ChangeTree) → AreUidsDistinct w → AreChangesDistinct cs → EachChange IsChangeOfUid cs → AreUidsDistinct (world_over w cs)
distinct_over w cs once distinct named =
    let stays : EntityTree → Bool = λ (e : EntityTree). not (is_changed (removed_of cs) (upserted_of cs) e.uid) in
    distinct_from (world_over w cs) (once_both (filter stays w) (upserted_of cs) (once_filtered stays w (once_from w once)) (once_upserted cs distinct named)
    (λ x m. not_upserted (removed_of cs) (upserted_of cs) x.uid (not_true (is_changed (removed_of cs) (upserted_of cs) x.uid) (from_filtered stays w x m).1)))
