-- Changes without those that are idle.
--     swept_passed      what they show after one that is idle
--     taken_last, taken_all, once_there      the list of the changes, of which the last one is taken at a time
--     swept_overlaid      what a store keeps with other changes that show the same
use Rattle.std.proofs.Common.{◌≡◌, ℕ, inl, inr, ⊎_elim, List, [], ◌∷◌, ◌++◌, length, map, arith, Bool, true, false, cond, ◌||◌, Option, Some, None, is_some, refl, sym, ap, subst, ◌∙◌, Contains}
use Rattle.std.proofs.lemmas.List.{append_assoc, map-append}
use Rattle.base_reach.proofs.Chains.{chain_among}
use Rattle.cedar_value.specs.Datum.{same_uid}
use Rattle.cedar_value.specs.Private.Equality.{same_uid-Decides}
use Rattle.cedar_value.specs.World.{EntityTree, World, Below, entry_of}
use Rattle.cedar_value.specs.declared.uid.Uid.{Uid}
use Rattle.cedar_store.specs.Private.Based.{BaseTree}
use Rattle.cedar_store.specs.Private.Changing.{AreChangesDistinct, ChangeTree, EachChange, IsChangeOfUid, Seen, change_of, is_needed, only, seen, told_entry, upsert_in}
use Rattle.cedar_store.specs.Private.Overlaid.{IsOverlaid, world_over}
use Rattle.cedar_store.proofs.AfterCall.{entry_case}
use Rattle.cedar_store.proofs.Overlaid.{parents_in}

-- ---- an idle change

abbrev show : Option ChangeTree → Option EntityTree → Seen
show o e = record { entry = told_entry o e; upsert = upsert_in o }

idle_here : (x e : Option EntityTree) (o : Option ChangeTree) → (is_some x || is_some e) ≡ false → o ≡ None → show o e ≡ only x
idle_here None None o idle none = ap (λ y. show y None) none
idle_here None (Some e) o idle none = cc
idle_here (Some x) e o idle none = cc

pub swept_passed : (w : World) (d : ChangeTree) (done m : List ChangeTree) → is_needed w d ≡ false → change_of done d.uid ≡ None → ((u : Uid) → seen w m u ≡ seen w done u) → (u : Uid) → seen w m u ≡ seen w (d ∷ done) u
swept_passed w d done m idle none before u = before u ∙ by (same_uid d.uid u) refl
  where
    by : (b : Bool) → same_uid d.uid u ≡ b → seen w done u ≡ show (cond b (Some d) (change_of done u)) (entry_of w u)
    by true same = subst (λ x. seen w done x ≡ only d.entity) ((same_uid-Decides d.uid u).0 same) (idle_here d.entity (entry_of w d.uid) (change_of done d.uid) idle none)
    by false same = refl

distinct_rest : (cs ds : List ChangeTree) → AreChangesDistinct (cs ++ ds) → AreChangesDistinct ds
distinct_rest [] ds distinct = distinct
distinct_rest (c ∷ cs) ds distinct = distinct_rest cs ds distinct.1

-- the last of the changes has been taken
pub taken_last : {X : Type 0} (f : X → ChangeTree) (all rest : List X) (c : X) (done old : List ChangeTree) → all ≡ rest ++ c ∷ [] → map f all ++ done ≡ old → map f rest ++ f c ∷ done ≡ old
taken_last f all rest c done old is before =
    sym (append_assoc (map f rest) (f c ∷ []) done) ∙ ap (λ es. es ++ done) (sym (ap (map f) is ∙ map-append f rest (c ∷ []))) ∙ before

pub taken_all : {X : Type 0} (f : X → ChangeTree) (all : List X) (done old : List ChangeTree) → length all ≡ 0 → map f all ++ done ≡ old → done ≡ old
taken_all f [] done old none before = before
taken_all f (x ∷ all) done old none before = absurd (omega arith)

-- the last change is not there again
pub once_there : (cs done old : List ChangeTree) (d : ChangeTree) → cs ++ d ∷ done ≡ old → AreChangesDistinct old → change_of done d.uid ≡ None
once_there cs done old d is distinct = (distinct_rest cs (d ∷ done) (subst AreChangesDistinct (sym is) distinct)).0

-- ---- what a store keeps

module _ (b : BaseTree) (old new : List ChangeTree) (marks : List ℕ) (part : World) (notes : List ChangeTree) (distinct : AreChangesDistinct old) (named : EachChange IsChangeOfUid old) (distinct_new : AreChangesDistinct new) (named_new : EachChange IsChangeOfUid new) (same : (u : Uid) → seen b.world new u ≡ seen b.world old u) where
  pub swept_entry : (u : Uid) → entry_of (world_over b.world new) u ≡ entry_of (world_over b.world old) u
  swept_entry u =
      entry_case b.world new u (change_of new u) distinct_new named_new refl ∙ ap (λ (s : Seen). s.entry) (same u) ∙ sym (entry_case b.world old u (change_of old u) distinct named refl)

  below_old : (u v : Uid) → Below (world_over b.world new) u v → Below (world_over b.world old) u v
  below_old u v chain = chain_among (λ x y m. subst (λ o. Contains (parents_in o) y) (swept_entry x) m) chain

  below_new : (u v : Uid) → Below (world_over b.world old) u v → Below (world_over b.world new) u v
  below_new u v chain = chain_among (λ x y m. subst (λ o. Contains (parents_in o) y) (sym (swept_entry x)) m) chain

  pub swept_overlaid : IsOverlaid b old marks part notes → IsOverlaid b new marks part notes
  swept_overlaid kept = record {
    acyclic = λ u chain. kept.acyclic u (below_old u u chain);
    marked = λ u number. ⊎_elim (λ there. inl there) (λ is. inr (ap parents_in (swept_entry u) ∙ is)) (kept.marked u number);
    settled = λ u v there. (let told = kept.settled u v there in (λ c. below_new u v (told.0 c), λ c. told.1 (below_old u v c)));
    parents = λ u p e is m. kept.parents u p e (sym (ap (λ (s : Seen). s.upsert) (same u)) ∙ is) m;
    noted = λ p note. ⊎_elim (λ placed. inl placed) (λ bare. inr (ap parents_in (swept_entry p) ∙ bare.0, bare.1)) (kept.noted p note);
    below_marked = kept.below_marked;
  }
