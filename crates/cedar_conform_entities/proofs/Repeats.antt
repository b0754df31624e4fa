-- Which uids the entries of a list write twice, by the world that they denote.
use Rattle.std.proofs.Common.{◌≡◌, ◌⊎◌, inl, inr, ⊎_elim, List, [], ◌∷◌, ◌++◌, map, Contains, Option, Some, None, MatchOption, codes, refl, sym, ap, subst, ◌∙◌}
use Rattle.std.specs.List.Sorted.{IsStrictlySortedBy}
use Rattle.std.specs.Map.{keys_of}
use Rattle.serde_json.specs.Data.{Data, Items}
use Rattle.serde_json.specs.Find.{get}
use Rattle.base_reach.proofs.Listed.{here, there, first_or_later, nowhere}
use Rattle.cedar_conform_values.specs.WrittenUids.{IsUidObject}
use Rattle.cedar_conform_entities.specs.Denotes.{DenoteEntities, no_entries, an_entity, an_action}
use Rattle.cedar_conform_entities.specs.Entries.{IsUidOf, SomeWrites, TwoWrite}
use Rattle.cedar_conform_entities.specs.Private.Progress.{DenoteAll, nothing, entity_first, action_first, Twice}
use Rattle.cedar_conform_entities.specs.Worlds.{world_of}
use Rattle.cedar_conform_entities.proofs.Conforming.{apart_type}
use Rattle.cedar_conform_entities.proofs.TwiceLemmas.{twice_behind, twice_split, twice_places, places_twice, none_twice_sorted}
use Rattle.cedar_schema_spec.specs.Declarations.{IsAction, action_entity}
use Rattle.cedar_schema_spec.specs.SchemaTree.{SchemaTree, ActionTree, shape_of}
use Rattle.cedar_schema_spec.specs.WellFormed.{AreTypesApart}
use Rattle.cedar_store.specs.Entities.{uids_of, StandsTwice, AreUidsDistinct}
use Rattle.cedar_schema_types.specs.Types.{TypeTree}
use Rattle.cedar_value.specs.Order.{uid_cmp}
use Rattle.cedar_value.specs.World.{World}
use Rattle.cedar_value.specs.declared.uid.Uid.{Uid}

-- ---- an entry writes one uid

pub one_object : (d : Data) (u v : Uid) → IsUidObject d u → IsUidObject d v → u ≡ v
one_object d u v h k = let same : Some u ≡ Some v = sym h.0 ∙ k.0 in cc

one_at : (o : Option Data) (u v : Uid) → MatchOption o ⊥ (λ found. IsUidObject found u) → MatchOption o ⊥ (λ found. IsUidObject found v) → u ≡ v
one_at None u v h k = absurd h
one_at (Some d) u v h k = one_object d u v h k

pub one_uid : (d : Data) (u v : Uid) → IsUidOf d u → IsUidOf d v → u ≡ v
one_uid d = one_at (get (codes "uid") d)

-- ---- entries, and what they denote

pub plain : {s : SchemaTree} {ds : Items} {es : World} {us : List Uid} → DenoteAll s ds es us → DenoteEntities s ds es
plain nothing = no_entries
plain (entity_first h more) = an_entity h (plain more)
plain (action_first h more) = an_action h (plain more)

module _ (s : SchemaTree) where
  abbrev HasShape : Uid → Type 0
  HasShape u = (t : TypeTree) × (shape_of s u.ty ≡ Some t)

  typed : {ds : Items} {es : World} {us : List Uid} → DenoteAll s ds es us → (u : Uid) → Contains (uids_of es) u → HasShape u
  typed nothing u m = absurd (nowhere u m)
  typed (entity_first {e = e} {es = es} h more) u m = ⊎_elim (λ same. subst HasShape same (h.read.shape, h.read.declared)) (λ r. typed more u r) (first_or_later e.uid (uids_of es) u m)
  typed (action_first h more) u m = typed more u m

  acted : {ds : Items} {es : World} {us : List Uid} → DenoteAll s ds es us → (u : Uid) → Contains us u → IsAction s u
  acted nothing u m = absurd (nowhere u m)
  acted (entity_first h more) u m = acted more u m
  acted (action_first {u = v} {us = us} h more) u m = ⊎_elim (λ same. subst (IsAction s) same h.declared) (λ r. acted more u r) (first_or_later v us u m)

  written_by : {ds : Items} {es : World} {us : List Uid} → DenoteAll s ds es us → (u : Uid) → Contains (uids_of es) u → SomeWrites ds u
  written_by nothing u m = absurd (nowhere u m)
  written_by (entity_first {d = d} {e = e} {es = es} h more) u m = ⊎_elim (λ same. inl (subst (IsUidOf d) same h.read.written.written.uid)) (λ r. inr (written_by more u r)) (first_or_later e.uid (uids_of es) u m)
  written_by (action_first h more) u m = inr (written_by more u m)

  twice_written : {ds : Items} {es : World} {us : List Uid} → DenoteAll s ds es us → (u : Uid) → Twice (uids_of es) u → TwoWrite ds u
  twice_written nothing u t = absurd t
  twice_written (entity_first {d = d} h more) u (inl (same, m)) = inl (subst (IsUidOf d) same h.read.written.written.uid, written_by more u m)
  twice_written (entity_first h more) u (inr t) = inr (twice_written more u t)
  twice_written (action_first h more) u t = inr (twice_written more u t)

  writers : {ds : Items} {es : World} {us : List Uid} → DenoteAll s ds es us → (u : Uid) → SomeWrites ds u → Contains (uids_of es) u ⊎ Contains us u
  writers nothing u w = absurd w
  writers (entity_first {d = d} {e = e} {es = es} h more) u (inl w) = inl (subst (Contains (e.uid ∷ uids_of es)) (one_uid d e.uid u h.read.written.written.uid w) (here e.uid (uids_of es)))
  writers (entity_first {e = e} {es = es} h more) u (inr w) = ⊎_elim (λ m. inl (there e.uid (uids_of es) u m)) (λ m. inr m) (writers more u w)
  writers (action_first {d = d} {u = v} {us = us} h more) u (inl w) = inr (subst (Contains (v ∷ us)) (one_uid d v u h.written.uid w) (here v us))
  writers (action_first {u = v} {us = us} h more) u (inr w) = ⊎_elim (λ m. inl m) (λ m. inr (there v us u m)) (writers more u w)

  module _ (apart : AreTypesApart s) where
    apart_uid : (u : Uid) → HasShape u → IsAction s u → ⊥
    apart_uid u h a = apart_type s apart u h.0 h.1 a

    none_written : {ds : Items} {es : World} {us : List Uid} → DenoteAll s ds es us → ((u : Uid) → Twice (uids_of es) u → ⊥) → ((u : Uid) → Twice us u → ⊥) → (u : Uid) → TwoWrite ds u → ⊥
    none_written nothing p q u t = t
    none_written (entity_first {d = d} {e = e} h more) p q u (inl (w, others)) =
        let same : e.uid ≡ u = one_uid d e.uid u h.read.written.written.uid w in
        ⊎_elim (λ m. p u (inl (same, m))) (λ m. apart_uid u (subst HasShape same (h.read.shape, h.read.declared)) (acted more u m)) (writers more u others)
    none_written (entity_first h more) p q u (inr t) = none_written more (λ v w. p v (inr w)) q u t
    none_written (action_first {d = d} {u = v} h more) p q u (inl (w, others)) =
        let same : v ≡ u = one_uid d v u h.written.uid w in
        ⊎_elim (λ m. apart_uid u (typed more u m) (subst (IsAction s) same h.declared)) (λ m. q u (inl (same, m))) (writers more u others)
    none_written (action_first h more) p q u (inr t) = none_written more p (λ v w. q v (inr w)) u t

    -- ---- with the schema's actions

    uids_with : (as' : List (Uid × ActionTree)) (es : World) → uids_of (map action_entity as' ++ es) ≡ keys_of as' ++ uids_of es
    uids_with [] es = refl
    uids_with (a ∷ as') es = ap (λ us. a.0 ∷ us) (uids_with as' es)

    pub distinct_entries : {ds : Items} {es : World} {us : List Uid} → DenoteAll s ds es us → ((u : Uid) → Twice us u → ⊥) → AreUidsDistinct (world_of s es) → (u : Uid) → TwoWrite ds u → ⊥
    distinct_entries {es = es} h once distinct = none_written h (λ u t. distinct u (twice_places (uids_of (world_of s es)) u (subst (λ us. Twice us u) (sym (uids_with s.actions es)) (twice_behind (keys_of s.actions) (uids_of es) u t)))) once

    pub repeated_entries : IsStrictlySortedBy uid_cmp (keys_of s.actions) → {ds : Items} {es : World} {us : List Uid} → DenoteAll s ds es us → (u : Uid) → StandsTwice (world_of s es) u → TwoWrite ds u
    repeated_entries up {es = es} h u twice =
        ⊎_elim (λ t. absurd (none_twice_sorted (keys_of s.actions) up u t)) (λ more. ⊎_elim (λ both. absurd (apart_uid u (typed h u both.1) both.0)) (λ t. twice_written h u t) more)
        (twice_split (keys_of s.actions) (uids_of es) u (subst (λ us. Twice us u) (uids_with s.actions es) (places_twice (uids_of (world_of s es)) u twice.0 twice.1 twice.2 twice.3 twice.4)))
