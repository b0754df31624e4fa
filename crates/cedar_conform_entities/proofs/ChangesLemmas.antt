-- From the parts of changes that are read to the store after them.
use Rattle.std.proofs.Common.{◌≡◌, ℕ, suc, Bool, true, false, inl, inr, ⊎_elim, List, [], ◌∷◌, ◌++◌, length, map, Contains, Option, Some, None, MatchOption, Result, Ok, Err, MatchResult, IfOk, IfErr, refl, sym, subst, ◌∙◌, append_assoc, append-nil}
use Rattle.std.specs.BTreeSet.{BTreeSet, IsEmpty}
use Rattle.serde_json.specs.Data.{Data, Items, no_items, item}
use Rattle.serde_json.specs.Find.{as_array}
use Rattle.serde_json.specs.View.{items_of}
use Rattle.base_reach.proofs.Listed.{nowhere, first_or_later}
use Rattle.cedar_conform_values.specs.Objects.{has_only}
use Rattle.cedar_conform_values.specs.declared.conform_fault.ConformFault.{ConformFault}
use Rattle.cedar_conform_values.specs.declared.conform_fault.ConformFault.TheVariants.{OutOfMemory, DuplicateEntity, Cycle, Shape, ActionDiffers}
use Rattle.cedar_conform_entities.specs.Changes.{is_change_key, upserts_in, removals_in, WritesChanges, IsRemovedTwice, IsActionUid, DenotesChanges, DenotesChangedWorld, BytesDenoteChanged, ChangedWorldsConform, upserts_only, HasChangesFault, BytesHaveChangesFault}
use Rattle.cedar_conform_entities.specs.Changes as changes
use Rattle.cedar_conform_entities.specs.Denotes.{DenoteEntities, no_entries, an_entity, an_action}
use Rattle.cedar_conform_entities.specs.Entries.{AreUids, no_uids, IsUidOf, SomeWrites, TwoWrite}
use Rattle.cedar_conform_entities.specs.Private.Changing.{IsNoted, RefusesNoted, uid_of_entry, appended, OnceBut, AreUpserts, AreRemovals, HasRemovalsFault, an_action as removes_action, twice, RefusesRemovals, RefusesChanges, AreChangesOf, HasStoreChangesFault}
use Rattle.cedar_conform_entities.specs.Private.Parts.{IsEntry, Refuses, RefusesEntry}
use Rattle.cedar_conform_entities.specs.Private.Progress.{IsItem, HasListFault, of_entry, written_twice, RefusesList, Twice}
use Rattle.cedar_conform_entities.specs.declared.entry.Entry.{Entry}
use Rattle.cedar_conform_entities.specs.declared.entry.Entry.TheVariants.{Entity, Action}
use Rattle.cedar_conform_entities.proofs.EntryLemmas.{AllBut, all_start, all_more, all_first, all_end}
use Rattle.cedar_conform_entities.proofs.OnceLemmas.{first_entry, first_uid, once_start, once_twice, once_more, once_end}
use Rattle.cedar_conform_entities.proofs.TwiceLemmas.{twice_places, places_twice}
use Rattle.cedar_schema_spec.specs.Conformance.{Conforms}
use Rattle.cedar_schema_spec.specs.SchemaTree.{SchemaTree}
use Rattle.cedar_schema_spec.specs.WellFormed.{AreParentsDeclared, AreTypesApart, IsHierarchy}
use Rattle.cedar_store.specs.Changes.{changed, HaveSameEntities}
use Rattle.cedar_store.specs.Entities.{uids_of, AreUidsDistinct, IsAcyclic}
use Rattle.cedar_value.specs.World.{World}
use Rattle.cedar_value.specs.declared.uid.Uid.{Uid}

no_suc : (n : ℕ) → suc n ≡ 0 → ⊥
no_suc n h = absurd (cc)

-- ---- the entries that are upserted

-- what has been read, followed by what is left to read, is all
pub record UpsertsBut (s : SchemaTree) (all rest : Items) (w : World) (noted : BTreeSet Uid) : Type 0 where
  pub denoted : (es : World) → DenoteEntities s rest es → DenoteEntities s all (w ++ es)
  pub among : (d : Data) → IsItem rest d → IsItem all d
  pub once : OnceBut (TwoWrite all) (TwoWrite rest) (SomeWrites rest) noted

module _ (s : SchemaTree) (all : Items) where
  pub upserts_start : (w : World) (noted : BTreeSet Uid) → w ≡ [] → IsEmpty noted → UpsertsBut s all all w noted
  upserts_start w noted none e = record {
    denoted = λ es h. subst (λ v. DenoteEntities s all (v ++ es)) (sym none) h;
    among = λ d m. m;
    once = once_start (TwoWrite all) (SomeWrites all) noted e;
  }

  written : (d : Data) (entry : Entry) → IsEntry s d entry → IsUidOf d (uid_of_entry entry)
  written d (Entity e) h = h.read.written.written.uid
  written d (Action u) h = h.1.written.uid

  denoted_more : (d : Data) (ds : Items) (w : World) (entry : Entry) → IsEntry s d entry → ((es : World) → DenoteEntities s (item d ds) es → DenoteEntities s all (w ++ es)) → (es : World) → DenoteEntities s ds es → DenoteEntities s all (appended w entry ++ es)
  denoted_more d ds w (Entity e) h before es more = subst (DenoteEntities s all) (sym (append_assoc w (e ∷ []) es)) (before (e ∷ es) (an_entity h more))
  denoted_more d ds w (Action u) h before es more = before es (an_action h.1 more)

  module _ (d : Data) (ds : Items) (w : World) (noted : BTreeSet Uid) (p : UpsertsBut s all (item d ds) w noted) where
    item_more : (entry : Entry) → IsEntry s d entry → (w' : World) (now : BTreeSet Uid) → w' ≡ appended w entry → IsNoted noted now (uid_of_entry entry) → UpsertsBut s all ds w' now
    item_more entry h w' now new set = record {
      denoted = subst (λ v. (es : World) → DenoteEntities s ds es → DenoteEntities s all (v ++ es)) (sym new) (denoted_more d ds w entry h p.denoted);
      among = λ x m. p.among x (suc m.0, m.1);
      once =
          once_more (TwoWrite all) (TwoWrite (item d ds)) (SomeWrites (item d ds)) (TwoWrite ds) (SomeWrites ds) noted (uid_of_entry entry) p.once
          (first_entry d ds (uid_of_entry entry) (written d entry h)) now set;
    }

    item_refused : (f : ConformFault) → RefusesEntry s d f → RefusesList s all f
    item_refused f h other = of_entry (p.among d (0, refl)) (h other)

    item_twice : (entry : Entry) → IsEntry s d entry → (f : ConformFault) → RefusesNoted noted (uid_of_entry entry) f → RefusesList s all f
    item_twice entry h f told other =
        subst (HasListFault s all) (sym (told other).0)
        (written_twice
        (once_twice (TwoWrite all) (TwoWrite (item d ds)) (SomeWrites (item d ds)) (TwoWrite ds) (SomeWrites ds) noted (uid_of_entry entry) p.once (first_entry d ds (uid_of_entry entry) (written d entry h)) (told other).1))

  module _ {X : Type 0} (view : X → Data) (rest others : List X) (x : X) (is : rest ≡ x ∷ others) (w : World) (noted : BTreeSet Uid) (p : UpsertsBut s all (items_of (map view rest)) w noted) where
    first_item : UpsertsBut s all (item (view x) (items_of (map view others))) w noted
    first_item = subst (λ xs. UpsertsBut s all (items_of (map view xs)) w noted) is p

    pub upserts_more : (entry : Entry) → IsEntry s (view x) entry → (w' : World) (now : BTreeSet Uid) → w' ≡ appended w entry → IsNoted noted now (uid_of_entry entry) → UpsertsBut s all (items_of (map view others)) w' now
    upserts_more = item_more (view x) (items_of (map view others)) w noted first_item

    pub upserts_refused : (f : ConformFault) → RefusesEntry s (view x) f → RefusesList s all f
    upserts_refused = item_refused (view x) (items_of (map view others)) w noted first_item

    pub upserts_twice : (entry : Entry) → IsEntry s (view x) entry → (f : ConformFault) → RefusesNoted noted (uid_of_entry entry) f → RefusesList s all f
    upserts_twice = item_twice (view x) (items_of (map view others)) w noted first_item

  pub upserts_end : {X : Type 0} (view : X → Data) (rest : List X) (w : World) (noted : BTreeSet Uid) → length rest ≡ 0 → UpsertsBut s all (items_of (map view rest)) w noted → AreUpserts s all w
  upserts_end view [] w noted e p = record {
    denoted = subst (DenoteEntities s all) (append-nil w) (p.denoted [] no_entries);
    distinct = once_end (TwoWrite all) (TwoWrite no_items) (SomeWrites no_items) noted (λ u t. t) (λ u m. m) p.once;
  }
  upserts_end view (x ∷ xs) w noted e p = absurd (no_suc (length xs) e)

-- ---- the uids that are removed

-- of the uids before those that are left it is known that they are fine
pub record RemovalsBut (s : SchemaTree) (all rest : List Uid) (noted : BTreeSet Uid) : Type 0 where
  pub actions : AllBut (λ u. ¬ IsActionUid s u) all rest
  pub once : OnceBut (Twice all) (Twice rest) (Contains rest) noted

module _ (s : SchemaTree) (all : List Uid) where
  pub removals_start : (noted : BTreeSet Uid) → IsEmpty noted → RemovalsBut s all all noted
  removals_start noted e = record { actions = all_start (λ u. ¬ IsActionUid s u) all; once = once_start (Twice all) (Contains all) noted e }

  module _ (rest others : List Uid) (v : Uid) (is : rest ≡ v ∷ others) (noted : BTreeSet Uid) (p : RemovalsBut s all rest noted) where
    once_at : OnceBut (Twice all) (Twice (v ∷ others)) (Contains (v ∷ others)) noted
    once_at = subst (λ (us : List Uid). OnceBut (Twice all) (Twice us) (Contains us) noted) is p.once

    pub removals_more : (now : BTreeSet Uid) → ¬ IsActionUid s v → IsNoted noted now v → RemovalsBut s all others now
    removals_more now other h = record {
      actions = all_more (λ u. ¬ IsActionUid s u) all rest others v is other p.actions;
      once = once_more (Twice all) (Twice (v ∷ others)) (Contains (v ∷ others)) (Twice others) (Contains others) noted v once_at (first_uid v others) now h;
    }

    pub action_removed : IsActionUid s v → RefusesRemovals s all ActionDiffers
    action_removed h other = removes_action (all_first (λ u. ¬ IsActionUid s u) all rest others v is p.actions) h

    pub removed_twice : (f : ConformFault) → RefusesNoted noted v f → RefusesRemovals s all f
    removed_twice f told other =
        subst (HasRemovalsFault s all) (sym (told other).0) (twice (twice_places all v (once_twice (Twice all) (Twice (v ∷ others)) (Contains (v ∷ others)) (Twice others) (Contains others) noted v once_at (first_uid v others) (told other).1)))

  pub removals_end : (rest : List Uid) (noted : BTreeSet Uid) → length rest ≡ 0 → RemovalsBut s all rest noted → AreRemovals s all
  removals_end [] noted e p = record {
    no_actions = all_end (λ u. ¬ IsActionUid s u) all [] e p.actions;
    once = λ u h. once_end (Twice all) (Twice []) (Contains []) noted (λ v t. t) (λ v m. nowhere v m) p.once u (places_twice all u h.0 h.1 h.2 h.3 h.4);
  }
  removals_end (x ∷ xs) noted e p = absurd (no_suc (length xs) e)

-- ---- the changes of a JSON

module _ (s : SchemaTree) (d : Data) where
  shape_refused : ((entries : Items) (removed : List Uid) → ¬ WritesChanges d entries removed) → RefusesChanges s d Shape
  shape_refused h other w = changes.no_changes h

  pub keys_refused : (b : Bool) → b ≡ has_only is_change_key d → b ≡ false → RefusesChanges s d Shape
  keys_refused b e f = shape_refused (λ entries removed h. let no_more : true ≡ false = sym h.keys ∙ sym e ∙ f in cc)

  pub upserts_missing : None ≡ as_array (upserts_in d) → RefusesChanges s d Shape
  upserts_missing e = shape_refused (λ entries removed h. let no_more : None ≡ Some entries = e ∙ h.upserts in cc)

  pub removals_missing : None ≡ as_array (removals_in d) → RefusesChanges s d Shape
  removals_missing e = shape_refused (λ entries removed h. subst (λ (o : Option Items). MatchOption o ⊥ (λ ds. AreUids ds removed)) (sym e) h.removals)

  pub uids_refused : (ds : Items) (f : ConformFault) → Some ds ≡ as_array (removals_in d) → Refuses (AreUids ds) f → RefusesChanges s d f
  uids_refused ds f e told other w =
      subst (λ (g : ConformFault). HasChangesFault s w d g) (sym (told other).0) (changes.no_changes (λ entries removed h. (told other).1 removed (subst (λ (o : Option Items). MatchOption o ⊥ (λ xs. AreUids xs removed)) (sym e) h.removals)))

  module _ (entries ds : Items) (removed : List Uid) (keys : has_only is_change_key d ≡ true) (upserts : Some entries ≡ as_array (upserts_in d)) (removals : Some ds ≡ as_array (removals_in d)) (uids : AreUids ds removed) where
    writes : WritesChanges d entries removed
    writes = record { keys = keys; upserts = sym upserts; removals = subst (λ (o : Option Items). MatchOption o ⊥ (λ xs. AreUids xs removed)) removals uids }

    removals_fault : (w : World) (f : ConformFault) → HasRemovalsFault s removed f → HasChangesFault s w d f
    removals_fault w f (removes_action m h) = changes.action_removed writes m h
    removals_fault w f (twice h) = changes.removed_twice writes h

    pub removals_refused : (f : ConformFault) (given : List Uid) → given ≡ removed → RefusesRemovals s given f → RefusesChanges s d f
    removals_refused f given e h other w = removals_fault w f (subst (λ (us : List Uid). HasRemovalsFault s us f) e (h other))

    entries_fault : (w : World) (f : ConformFault) → HasListFault s entries f → HasChangesFault s w d f
    entries_fault w f (of_entry m h) = changes.of_entry (sym upserts) m h
    entries_fault w f (written_twice h) = changes.written_twice (sym upserts) h

    pub entries_refused : (f : ConformFault) → RefusesList s entries f → RefusesChanges s d f
    entries_refused f h other w = entries_fault w f (h other)

    pub changes_denoted : (given : List Uid) (upserted : World) → given ≡ removed → AreRemovals s given → AreUpserts s entries upserted → DenotesChanges s d removed upserted
    changes_denoted given upserted e fine h = let r = subst (AreRemovals s) e fine in record {
      entries = entries;
      written = writes;
      denoted = h.denoted;
      distinct = h.distinct;
      once = r.once;
      no_actions = r.no_actions;
    }

-- ---- the store after them

written_by : {s : SchemaTree} {ds : Items} {es : World} → DenoteEntities s ds es → (u : Uid) → Contains (uids_of es) u → SomeWrites ds u
written_by no_entries u m = absurd (nowhere u m)
written_by (an_entity {d = d} {e = e} {es = es} h more) u m = ⊎_elim (λ same. inl (subst (IsUidOf d) same h.read.written.written.uid)) (λ r. inr (written_by more u r)) (first_or_later e.uid (uids_of es) u m)
written_by (an_action h more) u m = inr (written_by more u m)

twice_written : {s : SchemaTree} {ds : Items} {es : World} → DenoteEntities s ds es → (u : Uid) → Twice (uids_of es) u → TwoWrite ds u
twice_written no_entries u t = absurd t
twice_written (an_entity {d = d} h more) u (inl (same, m)) = inl (subst (IsUidOf d) same h.read.written.written.uid, written_by more u m)
twice_written (an_entity h more) u (inr t) = inr (twice_written more u t)
twice_written (an_action h more) u t = inr (twice_written more u t)

module _ (s : SchemaTree) (d : Data) (w : World) (removed : List Uid) (upserted : World) (read : DenotesChanges s d removed upserted) where
  store_fault : (f : ConformFault) → HasStoreChangesFault w removed upserted f → (f ≡ OutOfMemory → ⊥) → HasChangesFault s w d f
  store_fault OutOfMemory h other = absurd (other refl)
  store_fault (DuplicateEntity u) h other = absurd (read.distinct u (twice_written read.denoted u (places_twice (uids_of upserted) u h.0 h.1 h.2 h.3 h.4)))
  store_fault (Cycle u) h other = changes.below_itself read h
  store_fault _ h other = absurd h

  pub world_changed : (result : Result World ConformFault) → IfOk result (λ v. HaveSameEntities v (changed w removed upserted)) → IfOk result AreUidsDistinct → IfOk result IsAcyclic → IfOk result (DenotesChangedWorld s d w)
  world_changed (Ok v) is distinct acyclic = record {
    removed = removed;
    upserted = upserted;
    changes = read;
    entities = is;
    once = distinct;
    acyclic = acyclic;
  }
  world_changed (Err f) is distinct acyclic = tt

  pub world_refused : (result : Result World ConformFault) → IfErr result (HasStoreChangesFault w removed upserted) → IfErr result (λ f. (f ≡ OutOfMemory → ⊥) → HasChangesFault s w d f)
  world_refused (Ok v) h = tt
  world_refused (Err f) h = store_fault f h

pub world_conforms : (s : SchemaTree) (d : Data) (w : World) → ChangedWorldsConform → AreParentsDeclared s → AreTypesApart s → IsHierarchy s → (result : Result World ConformFault) → IfOk result (DenotesChangedWorld s d w) → Conforms s w → IfOk result (Conforms s)
world_conforms s d w law declared apart hierarchy (Ok v) h before = law s d w v declared apart hierarchy before h
world_conforms s d w law declared apart hierarchy (Err f) h before = tt

module _ (s : SchemaTree) (bytes : List ℕ) (w : World) (removed : List Uid) (upserted : World) (read : AreChangesOf s bytes removed upserted) where
  pub store_changed : (result : Result World ConformFault) → IfOk result (λ v. HaveSameEntities v (changed w removed upserted)) → IfOk result AreUidsDistinct → IfOk result IsAcyclic → IfOk result (BytesDenoteChanged s bytes w)
  store_changed (Ok v) is distinct acyclic = (read.0, read.1, world_changed s read.0 w removed upserted read.2 (Ok v) is distinct acyclic)
  store_changed (Err f) is distinct acyclic = tt

  pub store_refused : (result : Result World ConformFault) → IfErr result (HasStoreChangesFault w removed upserted) → IfErr result (λ f. (f ≡ OutOfMemory → ⊥) → BytesHaveChangesFault s w bytes f)
  store_refused (Ok v) h = tt
  store_refused (Err f) h = λ other. inr (read.0, read.1, world_refused s read.0 w removed upserted read.2 (Err f) h other)

pub store_conforms : (s : SchemaTree) (bytes : List ℕ) (w : World) → ChangedWorldsConform → AreParentsDeclared s → AreTypesApart s → IsHierarchy s → (result : Result World ConformFault) → IfOk result (BytesDenoteChanged s bytes w) → Conforms s w → IfOk result (Conforms s)
store_conforms s bytes w law declared apart hierarchy (Ok v) h before = law s h.0 w v declared apart hierarchy before h.2
store_conforms s bytes w law declared apart hierarchy (Err f) h before = tt

-- ---- entries that are upserted alone

only_keys : (d : Data) → has_only is_change_key (upserts_only d) ≡ true
unfolding is_change_key
only_keys d = refl

none_removed : (s : SchemaTree) → AreRemovals s []
none_removed s = record { no_actions = λ u m. absurd (nowhere u m); once = λ u h. places_twice [] u h.0 h.1 h.2 h.3 h.4 }

module _ (s : SchemaTree) (d : Data) where
  pub no_entries_refused : None ≡ as_array d → RefusesChanges s (upserts_only d) Shape
  no_entries_refused e = upserts_missing s (upserts_only d) e

  module _ (entries : Items) (list : Some entries ≡ as_array d) where
    pub upserts_only_refused : (f : ConformFault) → RefusesList s entries f → RefusesChanges s (upserts_only d) f
    upserts_only_refused = entries_refused s (upserts_only d) entries no_items [] (only_keys d) list refl no_uids

    pub upserts_only_denoted : (upserted : World) → AreUpserts s entries upserted → DenotesChanges s (upserts_only d) [] upserted
    upserts_only_denoted upserted h = changes_denoted s (upserts_only d) entries no_items [] (only_keys d) list refl no_uids [] upserted refl (none_removed s) h

    pub upserts_only_read : {V : Type 0} (entities : V → World) (result : Result V ConformFault) → MatchResult result (λ v. AreUpserts s entries (entities v)) (RefusesList s entries)
        → MatchResult result (λ v. DenotesChanges s (upserts_only d) [] (entities v)) (RefusesChanges s (upserts_only d))
    upserts_only_read entities (Ok v) h = upserts_only_denoted (entities v) h
    upserts_only_read entities (Err f) h = upserts_only_refused f h
