-- What a JSON of entities denotes is one world, and then it has no fault.
use Rattle.std.proofs.Common.{◌≡◌, ℕ, zero, suc, true, false, inl, inr, List, [], ◌∷◌, Contains, Option, Some, None, MatchOption, refl, sym, ap, subst, ◌∙◌}
use Rattle.std.specs.Prelude.{is_some}
use Rattle.serde_json.specs.Data.{Data, Items}
use Rattle.serde_json.specs.Find.{as_array, get_item}
use Rattle.base_reach.proofs.Listed.{nowhere}
use Rattle.cedar_conform_values.specs.declared.conform_fault.ConformFault.{ConformFault}
use Rattle.cedar_conform_entities.specs.Denotes.{ReadsEntity, DenotesEntity, RepeatsAction, DenoteEntities, no_entries, an_entity, an_action, DenotesWorld}
use Rattle.cedar_conform_entities.specs.Entries.{AreUids, no_uids, one_uid, Writes, IsActionName, TwoWrite, attributes_in, parents_in}
use Rattle.cedar_conform_entities.specs.Exactness.{OneWorld, WorldsHaveNoFault}
use Rattle.cedar_conform_entities.specs.Faults.{HasEntryFault, no_entry, undeclared, undeclared_parent, no_descent, no_repetition, attributes, unlisted, HasFault, no_list, of_entry, written_twice, below_itself}
use Rattle.cedar_conform_entities.specs.Worlds.{world_of}
use Rattle.cedar_conform_entities.proofs.Repeats as written
use Rattle.base_json.specs.JsonTree.{json_of}
use Rattle.cedar_schema_spec.specs.Declarations.{IsEntityType}
use Rattle.cedar_schema_spec.specs.Descents.{TypeDescends}
use Rattle.cedar_schema_spec.specs.Enumerated.{entity_listed}
use Rattle.cedar_schema_spec.specs.SchemaTree.{SchemaTree, shape_of}
use Rattle.cedar_schema_types.specs.Types.{TypeTree}
use Rattle.cedar_conform_values.specs.Values.{value_read}
use Rattle.cedar_value.specs.Datum.{Datum, record_of, fields_of, pairs_of}
use Rattle.cedar_value.specs.World.{World, EntityTree, Below}
use Rattle.cedar_value.specs.declared.uid.Uid.{Uid}

pub same_value : {A : Type 0} (o : Option A) (x y : A) → o ≡ Some x → o ≡ Some y → x ≡ y
same_value o x y p q = let same : Some x ≡ Some y = sym p ∙ q in cc

-- ---- an entry writes one uid, and one list of parents

pub uids_same : {ds : Items} {us vs : List Uid} → AreUids ds us → AreUids ds vs → us ≡ vs
uids_same no_uids no_uids = refl
uids_same (one_uid {d = d} {u = u} {us = us} h more) (one_uid {u = v} {us = vs} k rest) =
    ap (λ x. x ∷ us) (written.one_object d u v h k) ∙ ap (λ xs. v ∷ xs) (uids_same more rest)

parents_at : (o : Option Items) (us vs : List Uid) → MatchOption o ⊥ (λ ds. AreUids ds us) → MatchOption o ⊥ (λ ds. AreUids ds vs) → us ≡ vs
parents_at None us vs h k = absurd h
parents_at (Some ds) us vs h k = uids_same h k

uid_same : (d : Data) {u v : Uid} {us vs : List Uid} → Writes d u us → Writes d v vs → u ≡ v
uid_same d {u} {v} h k = written.one_uid d u v h.uid k.uid

parents_same : (d : Data) {u v : Uid} {us vs : List Uid} → Writes d u us → Writes d v vs → us ≡ vs
parents_same d {us = us} {vs = vs} h k = parents_at (as_array (parents_in d)) us vs h.listed k.listed

-- ---- an entry denotes one entity

pairs_back : (ps : List (List ℕ × Datum)) → pairs_of (fields_of ps) ≡ ps
pairs_back [] = refl
pairs_back (p ∷ ps) = ap (λ qs. p ∷ qs) (pairs_back ps)

same_fields : (ps qs : List (List ℕ × Datum)) → record_of (fields_of ps) ≡ record_of (fields_of qs) → ps ≡ qs
same_fields ps qs e = let fs : fields_of ps ≡ fields_of qs = cc in sym (pairs_back ps) ∙ ap pairs_of fs ∙ pairs_back qs

module _ (s : SchemaTree) (d : Data) where
  shape_same : (e f : EntityTree) (h : ReadsEntity s d e) (k : ReadsEntity s d f) → h.shape ≡ k.shape
  shape_same e f h k = same_value (shape_of s f.uid.ty) h.shape k.shape (subst (λ (u : Uid). shape_of s u.ty ≡ Some h.shape) (uid_same d h.written.written k.written.written) h.declared) k.declared

  attributes_same : (e f : EntityTree) → ReadsEntity s d e → ReadsEntity s d f → e.attributes ≡ f.attributes
  attributes_same e f h k = same_fields e.attributes f.attributes (h.attributes ∙ ap (λ (t : TypeTree). (value_read t (attributes_in d)).value) (shape_same e f h k) ∙ sym k.attributes)

  entity_same : (e f : EntityTree) → ReadsEntity s d e → ReadsEntity s d f → e ≡ f
  entity_same e f h k =
      let us = uid_same d h.written.written k.written.written in
      let as' = attributes_same e f h k in
      let ps = parents_same d h.written.written k.written.written in λ i. record { uid = us i; attributes = as' i; parents = ps i }

  not_both : (e : EntityTree) (u : Uid) (parents : List Uid) → ReadsEntity s d e → RepeatsAction s d u parents → ⊥
  not_both e u parents h k = h.written.no_action (subst (λ (v : Uid). IsActionName v.ty) (uid_same d k.written h.written.written) k.named)

pub entities_same : {s : SchemaTree} {ds : Items} {es fs : World} → DenoteEntities s ds es → DenoteEntities s ds fs → es ≡ fs
entities_same no_entries no_entries = refl
entities_same {s} (an_entity {d = d} {e = e} {es = es} h more) (an_entity {e = f} {es = fs} k rest) = ap (λ x. x ∷ es) (entity_same s d e f h.read k.read) ∙ ap (λ xs. f ∷ xs) (entities_same more rest)
entities_same {s} (an_entity {d = d} {e = e} h more) (an_action {u = u} {parents = us} k rest) = absurd (not_both s d e u us h.read k)
entities_same {s} (an_action {u = u} {parents = us} h more) (an_entity {d = d} {e = e} k rest) = absurd (not_both s d e u us k.read h)
entities_same (an_action h more) (an_action k rest) = entities_same more rest

-- ---- and has no fault then

module _ (s : SchemaTree) (d : Data) where
  fine_reading : (e : EntityTree) → ReadsEntity s d e → entity_listed s e ≡ true → (f : ConformFault) → HasEntryFault s d f → ⊥
  fine_reading e h listed f (no_entry k) = k e.uid e.parents h.written.written
  fine_reading e h listed f (undeclared {u = u} w k) = k (subst (λ (v : Uid). IsEntityType s v.ty) (uid_same d h.written.written w.written) (ap is_some h.declared))
  fine_reading e h listed f (undeclared_parent {p = p} w m k) = k (h.parents p (subst (λ (ps : List Uid). Contains ps p) (parents_same d w.written h.written.written) m)).0
  fine_reading e h listed f (no_descent {p = p} w m k) =
      k (subst (λ (v : Uid). TypeDescends s v.ty p.ty) (uid_same d h.written.written w.written) (h.parents p (subst (λ (ps : List Uid). Contains ps p) (parents_same d w.written h.written.written) m)).1)
  fine_reading e h listed f (no_repetition w named k) = h.written.no_action (subst (λ (v : Uid). IsActionName v.ty) (uid_same d w h.written.written) named)
  fine_reading e h listed f (attributes {shape = t} w declared m) =
      let same : h.shape ≡ t = same_value (shape_of s e.uid.ty) h.shape t h.declared (subst (λ (v : Uid). shape_of s v.ty ≡ Some t) (uid_same d w.written h.written.written) declared) in
      nowhere f (subst (λ fs. Contains fs f) (subst (λ (x : TypeTree). (value_read x (attributes_in d)).faults ≡ []) same h.fine) m)
  fine_reading e h listed f (unlisted {e = x} r fails) = let both : true ≡ false = sym listed ∙ ap (entity_listed s) (entity_same s d e x h r) ∙ fails in cc

  fine_entity : (e : EntityTree) → DenotesEntity s d e → (f : ConformFault) → HasEntryFault s d f → ⊥
  fine_entity e h = fine_reading e h.read h.listed

  no_action_fault : (u v : Uid) (us vs : List Uid) → RepeatsAction s d u us → Writes d v vs → (IsActionName v.ty → ⊥) → ⊥
  no_action_fault u v us vs h w other = other (subst (λ (x : Uid). IsActionName x.ty) (uid_same d h.written w) h.named)

  fine_action : (u : Uid) (us : List Uid) → RepeatsAction s d u us → (f : ConformFault) → HasEntryFault s d f → ⊥
  fine_action u us h f (no_entry k) = k u us h.written
  fine_action u us h f (undeclared {u = v} {parents = vs} w k) = no_action_fault u v us vs h w.written w.no_action
  fine_action u us h f (undeclared_parent {u = v} {parents = vs} w m k) = no_action_fault u v us vs h w.written w.no_action
  fine_action u us h f (no_descent {u = v} {parents = vs} w m k) = no_action_fault u v us vs h w.written w.no_action
  fine_action u us h f (no_repetition w named k) = k (subst (RepeatsAction s d _) (parents_same d h.written w) (subst (λ (x : Uid). RepeatsAction s d x us) (uid_same d h.written w) h))
  fine_action u us h f (attributes {u = v} {parents = vs} w declared m) = no_action_fault u v us vs h w.written w.no_action
  fine_action u us h f (unlisted {e = x} r fails) = not_both s d x u us r h

pub fine_entries : {s : SchemaTree} {ds : Items} {es : World} → DenoteEntities s ds es → (k : ℕ) (d : Data) → get_item k ds ≡ Some d → (f : ConformFault) → HasEntryFault s d f → ⊥
fine_entries no_entries k d at f h = cc
fine_entries {s} (an_entity {d = x} {e = e} one more) zero d at f h = let same : x ≡ d = cc in fine_entity s x e one f (subst (λ y. HasEntryFault s y f) (sym same) h)
fine_entries {s} (an_action {d = x} {u = u} {parents = us} one more) zero d at f h = let same : x ≡ d = cc in fine_action s x u us one f (subst (λ y. HasEntryFault s y f) (sym same) h)
fine_entries (an_entity one more) (suc k) d at f h = fine_entries more k d at f h
fine_entries (an_action one more) (suc k) d at f h = fine_entries more k d at f h

module _ (s : SchemaTree) (d : Data) where
  fine_world : (w : World) → DenotesWorld s d w → (f : ConformFault) → HasFault s d f → ⊥
  fine_world w h f (no_list none) = let no_more : None ≡ Some h.entries = sym none ∙ h.list in cc
  fine_world w h f (of_entry {ds = ds} {entry = x} list at fault) =
      let same : ds ≡ h.entries = same_value (as_array d) ds h.entries list h.list in
      fine_entries h.denoted at.0 x (subst (λ (xs : Items). get_item at.0 xs ≡ Some x) same at.1) f fault
  fine_world w h f (written_twice {ds = ds} {u = u} list twice) =
      let same : ds ≡ h.entries = same_value (as_array d) ds h.entries list h.list in h.distinct u (subst (λ (xs : Items). TwoWrite xs u) same twice)
  fine_world w h f (below_itself {ds = ds} {es = es} {u = u} list denoted below) =
      let same : ds ≡ h.entries = same_value (as_array d) ds h.entries list h.list in
      let worlds : es ≡ h.entities = entities_same (subst (λ (xs : Items). DenoteEntities s xs es) same denoted) h.denoted in
      h.acyclic u (subst (λ (v : World). Below v u u) (ap (world_of s) worlds ∙ sym h.is) below)

  world_same : (v w : World) → DenotesWorld s d v → DenotesWorld s d w → v ≡ w
  world_same v w h k =
      let same : h.entries ≡ k.entries = same_value (as_array d) h.entries k.entries h.list k.list in
      h.is ∙ ap (world_of s) (entities_same (subst (λ (xs : Items). DenoteEntities s xs h.entities) same h.denoted) k.denoted) ∙ sym k.is

-- ---- of bytes

pub one_world : OneWorld
one_world s bytes v w h k =
    let same : h.0 ≡ k.0 = same_value (json_of bytes) h.0 k.0 h.1 k.1 in world_same s k.0 v w (subst (λ (d : Data). DenotesWorld s d v) same h.2) k.2

pub worlds_have_no_fault : WorldsHaveNoFault
worlds_have_no_fault s bytes w f h (inl none) = let no_more : None ≡ Some h.0 = sym none.1 ∙ h.1 in cc
worlds_have_no_fault s bytes w f h (inr k) =
    let same : k.0 ≡ h.0 = same_value (json_of bytes) k.0 h.0 k.1 h.1 in fine_world s h.0 w h.2 f (subst (λ (d : Data). HasFault s d f) same k.2)
