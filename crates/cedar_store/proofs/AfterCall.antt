-- The world after a call of more changes.
--     told_after, entry_after, parents_after      what it says of a uid
--     links_kept, links_changed      what a store keeps after the call
use Rattle.std.proofs.Common.{◌≡◌, ◌↔◌, ℕ, inl, inr, ⊎_elim, ◌⊎◌, List, [], Bool, true, false, not, ◌&&◌, ◌||◌, Option, Some, None, is_some, refl, sym, ap, subst, ◌∙◌, Contains, IsTrue}
use Rattle.std.specs.List.{list_any}
use Rattle.base_reach.specs.Closure.{one_link}
use Rattle.base_reach.proofs.Chains.{chain_among, first_link}
use Rattle.base_reach.proofs.Listed.{either_true, nowhere, or_left, or_right}
use Rattle.cedar_value.specs.Datum.{same_uid}
use Rattle.cedar_value.specs.World.{EntityTree, World, Below, entry_of, parents_of, has_entity}
use Rattle.cedar_value.specs.declared.uid.Uid.{Uid}
use Rattle.cedar_store.specs.Changes.{changed, is_changed, IsThereInChanges}
use Rattle.cedar_store.specs.Entities.{uids_of}
use Rattle.cedar_store.specs.Private.Based.{BaseTree, IsMarked}
use Rattle.cedar_store.specs.Private.Called.{AreMarkedToo, AreNotesKept, AreSettledAnew, DoLinksStay, IsAfterCall, IsCycleThere, IsResettled}
use Rattle.cedar_store.specs.Private.Changing.{AreChangesDistinct, ChangeTree, EachChange, IsChangeOfUid, Seen, change_of, told_entry, upsert_in}
use Rattle.cedar_store.specs.Private.Kept.{in_row, number_in}
use Rattle.cedar_store.specs.Private.Overlaid.{AreMarked, AreNotesRight, AreParentsKnown, IsBare, IsLinked, IsNoted, IsNumbered, IsOverlaid, IsPlaced, IsSettled, world_over}
use Rattle.cedar_store.specs.declared.store_fault.StoreFault.{StoreFault}
use Rattle.cedar_store.specs.declared.store_fault.StoreFault.TheVariants.{OutOfMemory, DuplicateEntity, Cycle}
use Rattle.cedar_store.proofs.ChangedLemmas.{entry_named, entry_unnamed}
use Rattle.cedar_store.proofs.CutChains.{chain_stays, cycle_named, last_link}
use Rattle.cedar_store.proofs.Overlaid.{over_named, over_unnamed, parents_in, parents_named, parents_unnamed}
use Rattle.cedar_store.proofs.Resettled.{resettled_linked, resettled_right}

pub entry_case : (w : World) (cs : List ChangeTree) (u : Uid) (o : Option ChangeTree) → AreChangesDistinct cs → EachChange IsChangeOfUid cs → change_of cs u ≡ o → entry_of (world_over w cs) u ≡ told_entry o (entry_of w u)
entry_case w cs u None distinct named is = over_unnamed w cs distinct named u is
entry_case w cs u (Some c) distinct named is = over_named w cs distinct named u c is

first_or_second : (a c : Bool) → (a && not c) ≡ false → (a ≡ false) ⊎ (c ≡ true)
first_or_second true true h = inr refl
first_or_second true false h = cc
first_or_second false c h = inl refl

not_second : (a c : Bool) → (a && not c) ≡ true → c ≡ true → ⊥
not_second true true h t = cc
not_second true false h t = cc
not_second false c h t = cc

-- ---- entities and parents after the call

module _ (w : World) (old new : List ChangeTree) (removed : List Uid) (upserted : World) (distinct : AreChangesDistinct old) (named : EachChange IsChangeOfUid old) (distinct_new : AreChangesDistinct new) (named_new : EachChange IsChangeOfUid new) (after : IsAfterCall w old removed upserted new) where
  entry_by : (u : Uid) (b : Bool) → is_changed removed upserted u ≡ b → entry_of (world_over w new) u ≡ entry_of (changed (world_over w old) removed upserted) u
  entry_by u true is =
      entry_case w new u (change_of new u) distinct_new named_new refl ∙ ap (λ (s : Seen). s.entry) (after.named u is) ∙ sym (entry_named (world_over w old) removed upserted u is)
  entry_by u false is =
      entry_case w new u (change_of new u) distinct_new named_new refl ∙ ap (λ (s : Seen). s.entry) (after.kept u is) ∙ sym (entry_case w old u (change_of old u) distinct named refl) ∙ sym (entry_unnamed (world_over w old) removed upserted u is)

  pub entry_after : (u : Uid) → entry_of (world_over w new) u ≡ entry_of (changed (world_over w old) removed upserted) u
  entry_after u = entry_by u (is_changed removed upserted u) refl

  -- what the call does not name has the parents that it had
  pub parents_kept : (u : Uid) → is_changed removed upserted u ≡ false → parents_of (world_over w new) u ≡ parents_of (world_over w old) u
  parents_kept u is = ap parents_in (entry_after u ∙ entry_unnamed (world_over w old) removed upserted u is)

  -- what the call names has the parents of the entity that it upserts
  pub parents_called : (u : Uid) → is_changed removed upserted u ≡ true → parents_of (world_over w new) u ≡ parents_of upserted u
  parents_called u is = ap parents_in (entry_after u ∙ entry_named (world_over w old) removed upserted u is)

  pub below_after : (u v : Uid) → Below (world_over w new) u v → Below (changed (world_over w old) removed upserted) u v
  below_after u v chain = chain_among (λ x y m. subst (λ o. Contains (parents_in o) y) (entry_after x) m) chain

  pub fault_after : (f : StoreFault) → IsCycleThere (world_over w new) f → IsThereInChanges (world_over w old) removed upserted f
  fault_after OutOfMemory there = there
  fault_after (DuplicateEntity u) there = absurd there
  fault_after (Cycle u) there = below_after u u there

-- ---- what something is below is known

module _ (b : BaseTree) (cs : List ChangeTree) (part : World) (notes : List ChangeTree) (distinct : AreChangesDistinct cs) (named : EachChange IsChangeOfUid cs) (numbered : (u v : Uid) → Below b.world u v → IsNumbered b v)
    (known : AreParentsKnown b cs part notes) where
  parent_case : (z p : Uid) (o : Option ChangeTree) (e : Option EntityTree) → change_of cs z ≡ o → upsert_in o ≡ e → Contains (parents_of (world_over b.world cs) z) p → IsLinked b part notes p
  parent_case z p None e is entity m = inl (inr (numbered z p (one_link (subst (λ ps. Contains ps p) (parents_unnamed b.world cs distinct named z is) m))))
  parent_case z p (Some c) None is entity m = absurd (nowhere p (subst (λ ps. Contains ps p) (parents_named b.world cs distinct named z c is ∙ ap parents_in entity) m))
  parent_case z p (Some c) (Some e) is entity m =
      known z p e (ap upsert_in is ∙ entity) (subst (λ ps. Contains ps p) (parents_named b.world cs distinct named z c is ∙ ap parents_in entity) m)

  pub high_linked : (u v : Uid) → Below (world_over b.world cs) u v → IsLinked b part notes v
  high_linked u v chain = let l = last_link chain in parent_case l.0 v (change_of cs l.0) (upsert_in (change_of cs l.0)) refl refl l.1

-- ---- the call leaves alone what anything else is below

module _ (b : BaseTree) (old new : List ChangeTree) (removed : List Uid) (upserted : World) (marks marks_new : List ℕ) (part : World) (notes : List ChangeTree)
    (distinct : AreChangesDistinct old) (named : EachChange IsChangeOfUid old) (distinct_new : AreChangesDistinct new) (named_new : EachChange IsChangeOfUid new)
    (numbered : (u v : Uid) → Below b.world u v → IsNumbered b v) (after : IsAfterCall b.world old removed upserted new) (kept : IsOverlaid b old marks part notes) where
  abbrev is_named : Uid → Bool
  is_named = is_changed removed upserted

  known_by : (part_new : World) (notes_new : List ChangeTree) (u p : Uid) (e : EntityTree) (t : Bool) → is_named u ≡ t → ((p : Uid) → IsLinked b part notes p → IsLinked b part_new notes_new p)
      → (entry_of upserted u ≡ Some e → IsLinked b part_new notes_new p) → upsert_in (change_of new u) ≡ Some e → Contains e.parents p → IsLinked b part_new notes_new p
  known_by part_new notes_new u p e true is keeps here entity m = here (sym (ap (λ (s : Seen). s.upsert) (after.named u is)) ∙ entity)
  known_by part_new notes_new u p e false is keeps here entity m = keeps p (kept.parents u p e (sym (ap (λ (s : Seen). s.upsert) (after.kept u is)) ∙ entity) m)

  kept_parents : (u : Uid) → is_named u ≡ false → parents_of (world_over b.world new) u ≡ parents_of (world_over b.world old) u
  kept_parents = parents_kept b.world old new removed upserted distinct named distinct_new named_new after

  module _ (same_marks : (u : Uid) → in_row b.keys marks_new u ≡ in_row b.keys marks u) (stay : DoLinksStay b old part notes removed upserted) where
    known_still : AreParentsKnown b new part notes
    known_still u p e entity m = known_by part notes u p e (is_named u) refl (λ q l. l) (λ is. stay.known u p e is m) entity m

    -- what something is below keeps its parents
    linked_by : (u : Uid) (t : Bool) → is_named u ≡ t → IsLinked b part notes u → parents_of (world_over b.world new) u ≡ parents_of (world_over b.world old) u
    linked_by u true is linked = parents_called b.world old new removed upserted distinct named distinct_new named_new after u is ∙ stay.same u is linked
    linked_by u false is linked = kept_parents u is

    linked_same : (u : Uid) → IsLinked b part notes u → parents_of (world_over b.world new) u ≡ parents_of (world_over b.world old) u
    linked_same u linked = linked_by u (is_named u) refl linked

    notes_still : AreNotesRight b new part notes
    notes_still p note = ⊎_elim (λ placed. inl placed) (λ bare. inr (linked_same p (inr note) ∙ bare.0, bare.1)) (kept.noted p note)

    abbrev is_placed : Uid → Bool
    is_placed u = has_entity part u || is_some (number_in b.keys u)

    abbrev is_known : Uid → Bool
    is_known u = is_placed u || is_some (change_of notes u)

    placed_there : (u : Uid) → IsPlaced b part u → is_placed u ≡ true
    placed_there u (inl settled) = or_left (has_entity part u) (is_some (number_in b.keys u)) settled
    placed_there u (inr number) = or_right (has_entity part u) (is_some (number_in b.keys u)) number

    known_linked : (u : Uid) → IsLinked b part notes u → is_known u ≡ true
    known_linked u (inl placed) = or_left (is_placed u) (is_some (change_of notes u)) (placed_there u placed)
    known_linked u (inr note) = or_right (is_placed u) (is_some (change_of notes u)) note

    linked_known : (u : Uid) → is_known u ≡ true → IsLinked b part notes u
    linked_known u is = ⊎_elim (λ there. inl (either_true (has_entity part u) (is_some (number_in b.keys u)) there)) (λ note. inr note) (either_true (is_placed u) (is_some (change_of notes u)) is)

    -- what the call names and nothing is below
    abbrev is_moved : Uid → Bool
    is_moved u = is_named u && not (is_known u)

    same_links : (u : Uid) → is_moved u ≡ false → parents_of (world_over b.world new) u ≡ parents_of (world_over b.world old) u
    same_links u h =
        ⊎_elim (λ is. kept_parents u is) (λ is. linked_same u (linked_known u is)) (first_or_second (is_named u) (is_known u) h)

    none_high_new : (c x : Uid) → Below (world_over b.world new) x c → is_moved c ≡ true → ⊥
    none_high_new c x chain is = not_second (is_named c) (is_known c) is (known_linked c (high_linked b new part notes distinct_new named_new numbered known_still x c chain))

    none_high_old : (c x : Uid) → Below (world_over b.world old) x c → is_moved c ≡ true → ⊥
    none_high_old c x chain is = not_second (is_named c) (is_known c) is (known_linked c (high_linked b old part notes distinct named numbered kept.parents x c chain))

    settled_by : (u v : Uid) (t : Bool) → is_moved u ≡ t → IsSettled part u → Below part u v ↔ Below (world_over b.world new) u v
    settled_by u v true is there = absurd (not_second (is_named u) (is_known u) is (known_linked u (inl (inl there))))
    settled_by u v false is there =
        let told = kept.settled u v there in (
          λ chain. chain_stays (world_over b.world new) (world_over b.world old) is_moved (λ x h. sym (same_links x h)) u v is none_high_old (told.0 chain),
          λ chain. told.1 (chain_stays (world_over b.world old) (world_over b.world new) is_moved same_links u v is none_high_new chain),
        )

    marked_still : (p : Uid) → IsMarked b marks_new p → IsMarked b marks p
    marked_still p (inl here) = inl (sym (same_marks p) ∙ here)
    marked_still p (inr (x, here, chain)) = inr (x, sym (same_marks x) ∙ here, chain)

    pub links_kept : IsOverlaid b new marks_new part notes
    links_kept = record {
      acyclic = λ u chain. (let c = cycle_named (world_over b.world old) (world_over b.world new) is_moved same_links kept.acyclic u chain in none_high_new c.0 c.0 c.2 c.1);
      marked = λ u number. ⊎_elim (λ there. inl (same_marks u ∙ there)) (λ same. inr (linked_same u (inl (inr number)) ∙ same)) (kept.marked u number);
      settled = λ u v there. settled_by u v (is_moved u) refl there;
      parents = known_still;
      noted = notes_still;
      below_marked = λ p number marked. kept.below_marked p number (marked_still p marked);
    }

  -- ---- the part is made anew

  module _ (part_new : World) (notes_new : List ChangeTree) (too : AreMarkedToo b removed upserted marks marks_new) (anew : AreSettledAnew b new marks_new part notes (uids_of upserted) part_new notes_new)
      (listed : (u : Uid) (e : EntityTree) → entry_of upserted u ≡ Some e → Contains (uids_of upserted) u) where
    linked_of : (p : Uid) → IsResettled b new part_new notes_new p → IsLinked b part_new notes_new p
    linked_of = resettled_linked b new part_new notes_new

    right_of : (p : Uid) → IsResettled b new part_new notes_new p → IsPlaced b part_new p ⊎ IsBare b new p
    right_of = resettled_right b new part_new notes_new

    linked_still : AreNotesKept b new part notes (uids_of upserted) part_new notes_new → (p : Uid) → IsLinked b part notes p → IsLinked b part_new notes_new p
    linked_still keeps p (inl (inl settled)) = linked_of p (keeps.settled p settled)
    linked_still keeps p (inl (inr number)) = inl (inr number)
    linked_still keeps p (inr note) = inr (keeps.kept p note)

    upserted_parent : (u p : Uid) (e : EntityTree) → entry_of upserted u ≡ Some e → Contains e.parents p → Contains (parents_of (world_over b.world new) u) p
    upserted_parent u p e is m =
        let named_here = is_upserted u e is in
        subst (λ o. Contains (parents_in o) p) (sym (entry_after b.world old new removed upserted distinct named distinct_new named_new after u ∙ entry_named (world_over b.world old) removed upserted u named_here ∙ is)) m
      where
        is_upserted : (u : Uid) (e : EntityTree) → entry_of upserted u ≡ Some e → is_named u ≡ true
        is_upserted u e is = or_there (list_any (same_uid u) removed) (has_entity upserted u) (ap is_some is)
          where
            or_there : (a c : Bool) → c ≡ true → (a || c) ≡ true
            or_there true c h = refl
            or_there false c h = h

    known_anew : AreParentsKnown b new part_new notes_new
    known_anew u p e entity m =
        ⊎_elim (λ h. known_by part_new notes_new u p e (is_named u) refl (linked_still h) (λ is. linked_of p (h.parents u p (listed u e is) (upserted_parent u p e is m))) entity m) (λ anew_all. anew_all.0 u p e entity m) anew.known

    -- what the call names, and was noted and had nothing above it
    called_note : AreNotesKept b new part notes (uids_of upserted) part_new notes_new → (p : Uid) (o : Option EntityTree) → entry_of upserted p ≡ o → is_named p ≡ true → IsNoted notes p → parents_of b.world p ≡ [] → IsPlaced b part_new p ⊎ IsBare b new p
    called_note keeps p None at is note none = inr (parents_called b.world old new removed upserted distinct named distinct_new named_new after p is ∙ ap parents_in at, none)
    called_note keeps p (Some e) at is note none = right_of p (keeps.upserted p (listed p e at) note)

    bare_note : AreNotesKept b new part notes (uids_of upserted) part_new notes_new → (p : Uid) (t : Bool) → is_named p ≡ t → IsNoted notes p → IsBare b old p → IsPlaced b part_new p ⊎ IsBare b new p
    bare_note keeps p true is note bare = called_note keeps p (entry_of upserted p) refl is note bare.1
    bare_note keeps p false is note bare = inr (kept_parents p is ∙ bare.0, bare.1)

    placed_note : AreNotesKept b new part notes (uids_of upserted) part_new notes_new → (p : Uid) → IsPlaced b part p → IsPlaced b part_new p ⊎ IsBare b new p
    placed_note keeps p (inl settled) = right_of p (keeps.settled p settled)
    placed_note keeps p (inr number) = inl (inr number)

    old_note : AreNotesKept b new part notes (uids_of upserted) part_new notes_new → (p : Uid) → IsNoted notes p → IsPlaced b part_new p ⊎ IsBare b new p
    old_note keeps p note = ⊎_elim (placed_note keeps p) (bare_note keeps p (is_named p) refl note) (kept.noted p note)

    notes_anew : AreNotesRight b new part_new notes_new
    notes_anew p note = ⊎_elim (λ h. ⊎_elim (old_note h p) (right_of p) (h.told p note)) (λ anew_all. anew_all.1 p note) anew.known

    marked_by : (u : Uid) (t : Bool) → is_named u ≡ t → IsNumbered b u → IsTrue (in_row b.keys marks_new u) ⊎ (parents_of (world_over b.world new) u ≡ parents_of b.world u)
    marked_by u true is number = inl (too.named u is number)
    marked_by u false is number = ⊎_elim (λ there. inl (too.kept u there)) (λ same. inr (kept_parents u is ∙ same)) (kept.marked u number)

    marked_anew : AreMarked b new marks_new
    marked_anew u number = marked_by u (is_named u) refl number

    cycle_placed : (c : Uid) → is_named c ≡ true → Below (world_over b.world new) c c → IsPlaced b part_new c → ⊥
    cycle_placed c is chain (inl settled) = anew.acyclic c ((anew.settled c c settled).1 chain)
    cycle_placed c is chain (inr number) = anew.acyclic c ((anew.settled c c (anew.below_marked c number (inl (too.named c is number)))).1 chain)

    cycle_bare : (c : Uid) → Below (world_over b.world new) c c → IsBare b new c → ⊥
    cycle_bare c chain bare = let first = first_link chain in nowhere first.0 (subst (λ ps. Contains ps first.0) bare.0 first.1)

    none_cyclic : (c : Uid) → is_named c ≡ true → Below (world_over b.world new) c c → ⊥
    none_cyclic c is chain =
        ⊎_elim (cycle_placed c is chain) (λ note. ⊎_elim (cycle_placed c is chain) (cycle_bare c chain) (notes_anew c note)) (high_linked b new part_new notes_new distinct_new named_new numbered known_anew c c chain)

    pub links_changed : IsOverlaid b new marks_new part_new notes_new
    links_changed = record {
      acyclic = λ u chain. (let c = cycle_named (world_over b.world old) (world_over b.world new) is_named kept_parents kept.acyclic u chain in none_cyclic c.0 c.1 c.2);
      marked = marked_anew;
      settled = anew.settled;
      parents = known_anew;
      noted = notes_anew;
      below_marked = anew.below_marked;
    }
