-- Worlds that a JSON of changes denotes after one have the same entities, and then it has no fault.
use Rattle.std.proofs.Common.{◌≡◌, inl, inr, List, Contains, Option, Some, None, MatchOption, Result, Ok, Err, sym, ap, subst, ◌∙◌}
use Rattle.std.specs.Prelude.{◌≢◌, IfErr, IfOk, MatchResult}
use Rattle.serde_json.specs.Data.{Data, Items}
use Rattle.serde_json.specs.Find.{as_array, get_item}
use Rattle.base_json.specs.JsonTree.{json_of}
use Rattle.cedar_conform_values.specs.declared.conform_fault.ConformFault.{ConformFault}
use Rattle.cedar_conform_values.specs.declared.conform_fault.ConformFault.TheVariants.{OutOfMemory}
use Rattle.cedar_conform_entities.specs.Changes.{upserts_in, removals_in, WritesChanges, IsRemovedTwice, DenotesChanges, DenotesChangedWorld, HasChangesFault, no_changes, of_entry, written_twice, removed_twice, action_removed, below_itself}
use Rattle.cedar_conform_entities.specs.Denotes.{DenoteEntities}
use Rattle.cedar_conform_entities.specs.Entries.{AreUids, TwoWrite}
use Rattle.cedar_conform_entities.specs.Exactness.{OneChangedWorld, ChangedWorldsHaveNoFault}
use Rattle.cedar_conform_entities.proofs.OnlyMemory.{memory_alone}
use Rattle.cedar_conform_entities.proofs.Exact.{same_value, uids_same, entities_same, fine_entries}
use Rattle.cedar_schema_spec.specs.SchemaTree.{SchemaTree}
use Rattle.cedar_store.proofs.SameEntities.{same_below}
use Rattle.cedar_store.specs.Changes.{changed, HaveSameEntities}
use Rattle.cedar_value.specs.World.{World, entry_of, Below}
use Rattle.cedar_value.specs.declared.uid.Uid.{Uid}

-- ---- they write one list of entries, and one of uids

removed_at : (o : Option Items) (us vs : List Uid) → MatchOption o ⊥ (λ ds. AreUids ds us) → MatchOption o ⊥ (λ ds. AreUids ds vs) → us ≡ vs
removed_at None us vs h k = absurd h
removed_at (Some ds) us vs h k = uids_same h k

module _ (d : Data) where
  entries_same : {xs ys : Items} {us vs : List Uid} → WritesChanges d xs us → WritesChanges d ys vs → xs ≡ ys
  entries_same {xs} {ys} h k = same_value (as_array (upserts_in d)) xs ys h.upserts k.upserts

  removed_same : {xs ys : Items} {us vs : List Uid} → WritesChanges d xs us → WritesChanges d ys vs → us ≡ vs
  removed_same {us = us} {vs = vs} h k = removed_at (as_array (removals_in d)) us vs h.removals k.removals

-- ---- they denote one world, and have no fault then

module _ (s : SchemaTree) (d : Data) where
  upserted_same : (us vs : List Uid) (es fs : World) → DenotesChanges s d us es → DenotesChanges s d vs fs → es ≡ fs
  upserted_same us vs es fs h k = entities_same (subst (λ (xs : Items). DenoteEntities s xs es) (entries_same d h.written k.written) h.denoted) k.denoted

  worlds_same : (old : World) (us vs : List Uid) (es fs : World) → DenotesChanges s d us es → DenotesChanges s d vs fs → changed old us es ≡ changed old vs fs
  worlds_same old us vs es fs h k = ap (λ (xs : List Uid). changed old xs es) (removed_same d h.written k.written) ∙ ap (λ (ws : World). changed old vs ws) (upserted_same us vs es fs h k)

  pub changed_same : (old v w : World) → DenotesChangedWorld s d old v → DenotesChangedWorld s d old w → HaveSameEntities v w
  changed_same old v w h k u =
      h.entities u ∙ ap (λ (x : World). entry_of x u) (worlds_same old h.removed k.removed h.upserted k.upserted h.changes k.changes) ∙ sym (k.entities u)

  module _ (old new : World) (h : DenotesChangedWorld s d old new) where
    pub fine_changes : (f : ConformFault) → HasChangesFault s old d f → ⊥
    fine_changes f (no_changes none) = none h.changes.entries h.removed h.changes.written
    fine_changes f (of_entry {entries = ds} {entry = x} list at fault) =
        let same : ds ≡ h.changes.entries = same_value (as_array (upserts_in d)) ds h.changes.entries list h.changes.written.upserts in
        fine_entries h.changes.denoted at.0 x (subst (λ (xs : Items). get_item at.0 xs ≡ Some x) same at.1) f fault
    fine_changes f (written_twice {entries = ds} {u = u} list twice) =
        let same : ds ≡ h.changes.entries = same_value (as_array (upserts_in d)) ds h.changes.entries list h.changes.written.upserts in
        h.changes.distinct u (subst (λ (xs : Items). TwoWrite xs u) same twice)
    fine_changes f (removed_twice {u = u} writes twice) = h.changes.once u (subst (λ (us : List Uid). IsRemovedTwice us u) (removed_same d writes h.changes.written) twice)
    fine_changes f (action_removed {u = u} writes m action) = h.changes.no_actions u (subst (λ (us : List Uid). Contains us u) (removed_same d writes h.changes.written) m) action
    fine_changes f (below_itself {removed = us} {upserted = es} {u = u} denoted below) =
        h.acyclic u (same_below (changed old h.removed h.upserted) new (λ x. sym (h.entities x)) (subst (λ (w : World). Below w u u) (worlds_same old us h.removed es h.upserted denoted h.changes) below))

-- ---- what is answered then

module _ (s : SchemaTree) (d : Data) (old : World) where
  pub only_changed : (result : Result World ConformFault) → IfOk result (DenotesChangedWorld s d old) → IfErr result (λ f. f ≢ OutOfMemory → HasChangesFault s old d f)
      → (w : World) → DenotesChangedWorld s d old w → MatchResult result (λ v. HaveSameEntities v w) (λ f. f ≡ OutOfMemory)
  only_changed (Ok v) denotes refused w k = changed_same s d old v w denotes k
  only_changed (Err f) denotes refused w k = memory_alone f (λ other. fine_changes s d old w k f (refused other))

-- ---- of bytes

pub one_changed_world : OneChangedWorld
one_changed_world s bytes old v w h k =
    let same : h.0 ≡ k.0 = same_value (json_of bytes) h.0 k.0 h.1 k.1 in changed_same s k.0 old v w (subst (λ (d : Data). DenotesChangedWorld s d old v) same h.2) k.2

pub changed_worlds_have_no_fault : ChangedWorldsHaveNoFault
changed_worlds_have_no_fault s bytes old new f h (inl none) = let no_more : None ≡ Some h.0 = sym none.1 ∙ h.1 in cc
changed_worlds_have_no_fault s bytes old new f h (inr k) =
    let same : k.0 ≡ h.0 = same_value (json_of bytes) k.0 h.0 k.1 h.1 in fine_changes s h.0 old new h.2 f (subst (λ (d : Data). HasChangesFault s old d f) same k.2)
