-- Entries that are upserted denote a world after each other one, or they have a fault.
use Rattle.std.proofs.Common.{◌≡◌, ◌≢◌, ◌⊎◌, ℕ, zero, suc, ◌<◌, Bool, true, false, not, cond, inl, inr, ⊎_elim, List, [], ◌∷◌, ◌++◌, filter, Contains, codes, Option, Some, None, is_some, refl, sym, ap, subst, ◌∙◌, arith}
use Rattle.std.specs.Prelude.{IsSome, MatchOption}
use Rattle.std.specs.Bool.{Decides}
use Rattle.std.specs.List.{slice_get}
use Rattle.std.proofs.lemmas.Option.{same_Some}
use Rattle.serde_json.specs.Data.{Data, object, Items, no_items, item, no_members}
use Rattle.serde_json.specs.Find.{get, get_item, as_array, as_object}
use Rattle.base_reach.proofs.Listed.{here, there, first_or_later, nowhere}
use Rattle.cedar_value.specs.Datum.{Fields, pairs_of, record_of, same_uid}
use Rattle.cedar_value.specs.Private.Equality.{same_uid-Decides}
use Rattle.base_reach.specs.Closure.{one_link, more_links}
use Rattle.cedar_value.specs.World.{World, EntityTree, entry_of, Below, below}
use Rattle.cedar_value.specs.declared.uid.Uid.{Uid}
use Rattle.cedar_value.proofs.Reach.{parents-listed}
use Rattle.cedar_schema_types.specs.Types.{TypeTree}
use Rattle.cedar_schema_spec.specs.Declarations.{IsAction, IsEntityType, is_action, action_below, type_below, ActionsAreDecided, ActionDescentsAreDecided, TypeDescentsAreDecided}
use Rattle.cedar_schema_spec.specs.Descents.{ActionDescends, TypeDescends}
use Rattle.cedar_schema_spec.specs.Enumerated.{entity_listed}
use Rattle.cedar_schema_spec.specs.SchemaTree.{SchemaTree, shape_of}
use Rattle.cedar_schema_spec.specs.WellFormed.{AreShapesOrdered}
use Rattle.cedar_store.specs.Changes.{changed, HaveSameEntities}
use Rattle.cedar_store.specs.Entities.{uids_of, AreUidsDistinct, IsAcyclic}
use Rattle.cedar_store.proofs.ChangedLemmas.{entry_gone, entry_stays}
use Rattle.cedar_store.proofs.SameEntities.{same_acyclic}
use Rattle.cedar_conform_values.specs.Belonging.{ReadValuesBelong}
use Rattle.cedar_conform_values.specs.Objects.{has_only}
use Rattle.cedar_conform_values.specs.Uids.{uid_object}
use Rattle.cedar_conform_values.specs.Values.{value_read}
use Rattle.cedar_conform_values.specs.WrittenUids.{IsUidObject}
use Rattle.cedar_conform_values.specs.declared.conform_fault.ConformFault.{ConformFault}
use Rattle.cedar_conform_values.specs.declared.conform_fault.ConformFault.TheVariants.{OutOfMemory, DuplicateEntity, Cycle, Shape, UnknownType, BadAncestor, ActionDiffers}
use Rattle.cedar_conform_entities.specs.Changes.{DenotesChanges, DenotesChangedWorld, HasChangesFault, is_change_key, upserts_only}
use Rattle.cedar_conform_entities.specs.Changes as changes
use Rattle.cedar_conform_entities.specs.Denotes.{ReadsEntity, DenoteEntities, IsAccepted, no_entries, an_entity, an_action}
use Rattle.cedar_conform_entities.specs.Entries.{AreUids, no_uids, one_uid, IsUidOf, IsActionName, SomeWrites, TwoWrite, Writes, WritesEntity, attributes_in, is_entry_key, parents_in, tags_in}
use Rattle.cedar_conform_entities.specs.Faults.{HasEntryFault}
use Rattle.cedar_conform_entities.specs.Faults as fault
use Rattle.cedar_conform_entities.proofs.EntryLemmas.{shape_ordered}
use Rattle.cedar_auth.proofs.Answerable.{UidsAreDecided, NamesAreDecided, fields_back, object_by, record_in, same_text, uid_by}
use Rattle.cedar_auth.proofs.TrueFaults.{Others, of_value}

-- ---- what can be decided

decided : {P : Type 0} (b : Bool) → Decides b P → P ⊎ (P → ⊥)
decided true d = inl (d.0 refl)
decided false d = inr (λ p. let told : false ≡ true = d.1 p in cc)

-- all have the property, or one is found that has not
module _ {A : Type 0} (P : A → Type 0) (each : (x : A) → P x ⊎ (P x → ⊥)) where
  all_by : (x : A) (xs : List A) → P x ⊎ (P x → ⊥) → ((y : A) → Contains xs y → P y) ⊎ ((y : A) × Contains xs y × (P y → ⊥)) → ((y : A) → Contains (x ∷ xs) y → P y) ⊎ ((y : A) × Contains (x ∷ xs) y × (P y → ⊥))
  all_by x xs (inl h) (inl k) = inl (λ y m. ⊎_elim (λ e. subst P e h) (λ r. k y r) (first_or_later x xs y m))
  all_by x xs (inl h) (inr k) = inr (k.0, there x xs k.0 k.1, k.2)
  all_by x xs (inr n) k = inr (x, here x xs, n)

  all_or : (xs : List A) → ((y : A) → Contains xs y → P y) ⊎ ((y : A) × Contains xs y × (P y → ⊥))
  all_or [] = inl (λ y m. absurd (nowhere y m))
  all_or (x ∷ xs) = all_by x xs (each x) (all_or xs)

same_or : (u v : Uid) → (u ≡ v) ⊎ (u ≡ v → ⊥)
same_or u v = uid_by u v (same_text u.ty v.ty) (same_text u.id v.id)

some_or : {A : Type 0} (o : Option A) → IsSome o ⊎ (IsSome o → ⊥)
some_or None = inr (λ h. cc)
some_or (Some x) = inl refl

empty_or : (d : Data) → (d ≡ object no_members) ⊎ (d ≡ object no_members → ⊥)
empty_or (object no_members) = inl refl
empty_or _ = inr (λ e. cc)

-- ---- names of actions

abbrev EndsWith : List ℕ → List ℕ → Type 0
EndsWith end n = (front : List ℕ) × (n ≡ front ++ end)

no_more : (x : ℕ) (xs end : List ℕ) → (x ∷ xs ≡ end → ⊥) → (EndsWith end xs → ⊥) → EndsWith end (x ∷ xs) → ⊥
no_more x xs end n later ([], e) = n e
no_more x xs end n later (y ∷ ys, e) = later (ys, let rest : xs ≡ ys ++ end = cc in rest)

none_left : (end : List ℕ) → ([] ≡ end → ⊥) → EndsWith end [] → ⊥
none_left end n ([], e) = n e
none_left end n (y ∷ ys, e) = cc

ends_by : (x : ℕ) (xs end : List ℕ) → (x ∷ xs ≡ end) ⊎ (x ∷ xs ≡ end → ⊥) → EndsWith end xs ⊎ (EndsWith end xs → ⊥) → EndsWith end (x ∷ xs) ⊎ (EndsWith end (x ∷ xs) → ⊥)
ends_by x xs end (inl e) rest = inl ([], e)
ends_by x xs end (inr n) (inl f) = inl (x ∷ f.0, ap (λ (ys : List ℕ). x ∷ ys) f.1)
ends_by x xs end (inr n) (inr m) = inr (λ h. no_more x xs end n m h)

ends_or : (end n : List ℕ) → EndsWith end n ⊎ (EndsWith end n → ⊥)
ends_or end [] = ⊎_elim (λ e. inl ([], e)) (λ n. inr (λ h. none_left end n h)) (same_text [] end)
ends_or end (x ∷ xs) = ends_by x xs end (same_text (x ∷ xs) end) (ends_or end xs)

either_or : {P Q : Type 0} → P ⊎ (P → ⊥) → Q ⊎ (Q → ⊥) → (P ⊎ Q) ⊎ (P ⊎ Q → ⊥)
either_or (inl p) q = inl (inl p)
either_or (inr n) (inl q) = inl (inr q)
either_or (inr n) (inr m) = inr (λ h. ⊎_elim n m h)

action_name_or : (n : List ℕ) → IsActionName n ⊎ (IsActionName n → ⊥)
action_name_or n = either_or (same_text n (codes "Action")) (ends_or (codes "::Action") n)

-- ---- what entries write

module _ (uids : UidsAreDecided) (names : NamesAreDecided) where
  uid_or : (d : Data) → ((u : Uid) × IsUidObject d u) ⊎ ((u : Uid) → IsUidObject d u → ⊥)
  uid_or d = object_by uids names d (uid_object d) refl

  uid_in : (o : Option Data) → ((u : Uid) × MatchOption o ⊥ (λ found. IsUidObject found u)) ⊎ ((u : Uid) → MatchOption o ⊥ (λ found. IsUidObject found u) → ⊥)
  uid_in None = inr (λ u h. h)
  uid_in (Some d) = uid_or d

  uid_of : (d : Data) → ((u : Uid) × IsUidOf d u) ⊎ ((u : Uid) → IsUidOf d u → ⊥)
  uid_of d = uid_in (get (codes "uid") d)

  first_uid : {d : Data} {ds : Items} {us : List Uid} → AreUids (item d ds) us → (u : Uid) × IsUidObject d u
  first_uid (one_uid {u = u} h more) = (u, h)

  later_uids : {d : Data} {ds : Items} {us : List Uid} → AreUids (item d ds) us → (vs : List Uid) × AreUids ds vs
  later_uids (one_uid {us = us} h more) = (us, more)

  uids_by : (d : Data) (ds : Items) → ((u : Uid) × IsUidObject d u) ⊎ ((u : Uid) → IsUidObject d u → ⊥) → ((us : List Uid) × AreUids ds us) ⊎ ((us : List Uid) → AreUids ds us → ⊥)
      → ((us : List Uid) × AreUids (item d ds) us) ⊎ ((us : List Uid) → AreUids (item d ds) us → ⊥)
  uids_by d ds (inl u) (inl us) = inl (u.0 ∷ us.0, one_uid u.1 us.1)
  uids_by d ds (inr n) rest = inr (λ us h. let f = first_uid h in n f.0 f.1)
  uids_by d ds (inl u) (inr n) = inr (λ us h. let f = later_uids h in n f.0 f.1)

  uids_or : (ds : Items) → ((us : List Uid) × AreUids ds us) ⊎ ((us : List Uid) → AreUids ds us → ⊥)
  uids_or no_items = inl ([], no_uids)
  uids_or (item d ds) = uids_by d ds (uid_or d) (uids_or ds)

  listed_in : (o : Option Items) → ((us : List Uid) × MatchOption o ⊥ (λ ds. AreUids ds us)) ⊎ ((us : List Uid) → MatchOption o ⊥ (λ ds. AreUids ds us) → ⊥)
  listed_in None = inr (λ us h. h)
  listed_in (Some ds) = uids_or ds

  WritesOne : Data → Type 0
  WritesOne d = (u : Uid) × (parents : List Uid) × Writes d u parents

  WritesNone : Data → Type 0
  WritesNone d = (u : Uid) (parents : List Uid) → Writes d u parents → ⊥

  writes_by : (d : Data) (b : Bool) → has_only is_entry_key d ≡ b → ((u : Uid) × IsUidOf d u) ⊎ ((u : Uid) → IsUidOf d u → ⊥)
      → ((us : List Uid) × MatchOption (as_array (parents_in d)) ⊥ (λ ds. AreUids ds us)) ⊎ ((us : List Uid) → MatchOption (as_array (parents_in d)) ⊥ (λ ds. AreUids ds us) → ⊥)
      → IsSome (as_object (attributes_in d)) ⊎ (IsSome (as_object (attributes_in d)) → ⊥) → (tags_in d ≡ object no_members) ⊎ (tags_in d ≡ object no_members → ⊥) → WritesOne d ⊎ WritesNone d
  unfolding WritesOne WritesNone
  writes_by d false keys u us a t = inr (λ v ps h. let both : true ≡ false = sym h.keys ∙ keys in cc)
  writes_by d true keys (inr n) us a t = inr (λ v ps h. n v h.uid)
  writes_by d true keys (inl u) (inr n) a t = inr (λ v ps h. n ps h.listed)
  writes_by d true keys (inl u) (inl us) (inr n) t = inr (λ v ps h. n h.attributed)
  writes_by d true keys (inl u) (inl us) (inl a) (inr n) = inr (λ v ps h. n h.untagged)
  writes_by d true keys (inl u) (inl us) (inl a) (inl t) = inl (u.0, us.0, record { keys = keys; uid = u.1; listed = us.1; attributed = a; untagged = t })

  writes_or : (d : Data) → WritesOne d ⊎ WritesNone d
  writes_or d = writes_by d (has_only is_entry_key d) refl (uid_of d) (listed_in (as_array (parents_in d))) (some_or (as_object (attributes_in d))) (empty_or (tags_in d))

  -- ---- uids that two entries write

  one_in : (o : Option Data) (u v : Uid) → MatchOption o ⊥ (λ found. IsUidObject found u) → MatchOption o ⊥ (λ found. IsUidObject found v) → u ≡ v
  one_in None u v h k = absurd h
  one_in (Some d) u v h k = same_Some u v (sym h.0 ∙ k.0)

  one_of : (d : Data) (u v : Uid) → IsUidOf d u → IsUidOf d v → u ≡ v
  one_of d = one_in (get (codes "uid") d)

  writes_this : (d : Data) (u : Uid) → ((v : Uid) × IsUidOf d v) ⊎ ((v : Uid) → IsUidOf d v → ⊥) → IsUidOf d u ⊎ (IsUidOf d u → ⊥)
  writes_this d u (inl v) = ⊎_elim (λ e. inl (subst (IsUidOf d) e v.1)) (λ n. inr (λ h. n (one_of d v.0 u v.1 h))) (same_or v.0 u)
  writes_this d u (inr n) = inr (n u)

  some_writes_or : (ds : Items) (u : Uid) → SomeWrites ds u ⊎ (SomeWrites ds u → ⊥)
  some_writes_or no_items u = inr (λ h. h)
  some_writes_or (item d ds) u = either_or (writes_this d u (uid_of d)) (some_writes_or ds u)

  two_by : (d : Data) (ds : Items) (u : Uid) → IsUidOf d u → SomeWrites ds u ⊎ (SomeWrites ds u → ⊥) → ((v : Uid) → TwoWrite ds v → ⊥) → ((v : Uid) × TwoWrite (item d ds) v) ⊎ ((v : Uid) → TwoWrite (item d ds) v → ⊥)
  two_by d ds u h (inl m) rest = inl (u, inl (h, m))
  two_by d ds u h (inr n) rest = inr (λ v t. ⊎_elim (λ p. n (subst (SomeWrites ds) (one_of d v u p.0 h) p.1)) (rest v) t)

  two_first : (d : Data) (ds : Items) → ((u : Uid) × IsUidOf d u) ⊎ ((u : Uid) → IsUidOf d u → ⊥) → ((v : Uid) × TwoWrite ds v) ⊎ ((v : Uid) → TwoWrite ds v → ⊥) → ((v : Uid) × TwoWrite (item d ds) v) ⊎ ((v : Uid) → TwoWrite (item d ds) v → ⊥)
  two_first d ds u (inl t) = inl (t.0, inr t.1)
  two_first d ds (inl u) (inr rest) = two_by d ds u.0 u.1 (some_writes_or ds u.0) rest
  two_first d ds (inr n) (inr rest) = inr (λ v t. ⊎_elim (λ p. n v p.0) (rest v) t)

  two_or : (ds : Items) → ((u : Uid) × TwoWrite ds u) ⊎ ((u : Uid) → TwoWrite ds u → ⊥)
  two_or no_items = inr (λ u h. h)
  two_or (item d ds) = two_first d ds (uid_of d) (two_or ds)

  -- ---- one entry

  module _ (actions : ActionsAreDecided) (action_descents : ActionDescentsAreDecided) (type_descents : TypeDescentsAreDecided) (belong : ReadValuesBelong) (s : SchemaTree) (shapes : AreShapesOrdered s) where
    HasOther : Data → Type 0
    HasOther d = (f : ConformFault) × (f ≢ OutOfMemory) × HasEntryFault s d f

    module _ (d : Data) (u : Uid) (parents : List Uid) (w : Writes d u parents) where
      repeats_by : IsActionName u.ty → IsAction s u ⊎ (IsAction s u → ⊥) → (attributes_in d ≡ object no_members) ⊎ (attributes_in d ≡ object no_members → ⊥)
          → ((p : Uid) → Contains parents p → ActionDescends s u p) ⊎ ((p : Uid) × Contains parents p × (ActionDescends s u p → ⊥)) → IsAccepted s d ⊎ HasOther d
      unfolding HasOther
      repeats_by name (inr n) e a = inr (ActionDiffers, λ x. cc, fault.no_repetition w name (λ r. n r.declared))
      repeats_by name (inl is) (inr n) a = inr (ActionDiffers, λ x. cc, fault.no_repetition w name (λ r. n r.empty))
      repeats_by name (inl is) (inl e) (inr p) = inr (ActionDiffers, λ x. cc, fault.no_repetition w name (λ r. p.2 (r.ancestors p.0 p.1)))
      repeats_by name (inl is) (inl e) (inl a) = inl (inr (u, (parents, record { written = w; named = name; declared = is; empty = e; ancestors = a })))

      repeats : IsActionName u.ty → IsAccepted s d ⊎ HasOther d
      repeats name =
          repeats_by name (decided (is_action s u) (actions s u)) (empty_or (attributes_in d))
          (all_or (λ p. ActionDescends s u p) (λ p. decided (action_below s u p) (action_descents s u p)) parents)

      module _ (other : IsActionName u.ty → ⊥) where
        abbrev we : WritesEntity d u parents
        we = record { written = w; no_action = other }

        listed_by : (e : EntityTree) → ReadsEntity s d e → (b : Bool) → entity_listed s e ≡ b → IsAccepted s d ⊎ HasOther d
        unfolding HasOther
        listed_by e read true is = inl (inl (e, record { read = read; listed = is }))
        listed_by e read false is = inr (UnknownType, λ x. cc, fault.unlisted read is)

        parents_by : (t : TypeTree) → shape_of s u.ty ≡ Some t → (value_read t (attributes_in d)).faults ≡ [] → ((p : Uid) → Contains parents p → IsEntityType s p.ty) ⊎ ((p : Uid) × Contains parents p × (IsEntityType s p.ty → ⊥))
            → ((p : Uid) → Contains parents p → TypeDescends s u.ty p.ty) ⊎ ((p : Uid) × Contains parents p × (TypeDescends s u.ty p.ty → ⊥)) → IsAccepted s d ⊎ HasOther d
        unfolding HasOther
        parents_by t is fine (inr p) below = inr (UnknownType, λ x. cc, fault.undeclared_parent we p.1 p.2)
        parents_by t is fine (inl types) (inr p) = inr (BadAncestor, λ x. cc, fault.no_descent we p.1 p.2)
        parents_by t is fine (inl types) (inl below) =
            let found = record_in t (value_read t (attributes_in d)).value (shape_ordered s u.ty t shapes (sym is)).0 (belong t (attributes_in d) fine) in
            let e : EntityTree = record { uid = u; attributes = pairs_of found.0; parents = parents } in
            listed_by e (record {
              written = we;
              shape = t;
              declared = is;
              fine = fine;
              attributes = ap (λ (x : Fields). record_of x) (fields_back found.0) ∙ sym found.1;
              parents = λ p m. (types p m, below p m);
            }) (entity_listed s e) refl

        attributes_by : (t : TypeTree) → shape_of s u.ty ≡ Some t → (fs : List ConformFault) → (value_read t (attributes_in d)).faults ≡ fs → Others fs → IsAccepted s d ⊎ HasOther d
        unfolding HasOther
        attributes_by t is (f ∷ fs) e o = inr (f, o.0, fault.attributes we is (subst (λ (xs : List ConformFault). Contains xs f) (sym e) (here f fs)))
        attributes_by t is [] e o =
            parents_by t is e (all_or (λ (p : Uid). IsEntityType s p.ty) (λ p. some_or (shape_of s p.ty)) parents)
            (all_or (λ (p : Uid). TypeDescends s u.ty p.ty) (λ p. decided (type_below s u.ty p.ty) (type_descents s u.ty p.ty)) parents)

        shape_by : (o : Option TypeTree) → shape_of s u.ty ≡ o → IsAccepted s d ⊎ HasOther d
        unfolding HasOther
        shape_by None e = inr (UnknownType, λ x. cc, fault.undeclared we (λ is. let no : false ≡ true = sym (ap is_some e) ∙ is in cc))
        shape_by (Some t) e = attributes_by t e (value_read t (attributes_in d)).faults refl (of_value t (attributes_in d))

      written : IsActionName u.ty ⊎ (IsActionName u.ty → ⊥) → IsAccepted s d ⊎ HasOther d
      written (inl name) = repeats name
      written (inr other) = shape_by other (shape_of s u.ty) refl

    entry_by : (d : Data) → WritesOne d ⊎ WritesNone d → IsAccepted s d ⊎ HasOther d
    unfolding WritesOne WritesNone HasOther
    entry_by d (inl h) = written d h.0 h.1 h.2 (action_name_or h.0.ty)
    entry_by d (inr n) = inr (Shape, λ x. cc, fault.no_entry n)

    -- ---- all entries

    HasOtherAt : Items → Type 0
    HasOtherAt ds = (d : Data) × ((k : ℕ) × (get_item k ds ≡ Some d)) × HasOther d

    entries_by : (d : Data) (ds : Items) → IsAccepted s d ⊎ HasOther d → ((es : World) × DenoteEntities s ds es) ⊎ HasOtherAt ds → ((es : World) × DenoteEntities s (item d ds) es) ⊎ HasOtherAt (item d ds)
    unfolding HasOtherAt
    entries_by d ds (inr f) rest = inr (d, (0, refl), f)
    entries_by d ds (inl h) (inr x) = inr (x.0, (suc x.1.0, x.1.1), x.2)
    entries_by d ds (inl (inl e)) (inl es) = inl (e.0 ∷ es.0, an_entity e.1 es.1)
    entries_by d ds (inl (inr a)) (inl es) = inl (es.0, an_action a.1.1 es.1)

    entries_or : (ds : Items) → ((es : World) × DenoteEntities s ds es) ⊎ HasOtherAt ds
    entries_or no_items = inl ([], no_entries)
    entries_or (item d ds) = entries_by d ds (entry_by d (writes_or d)) (entries_or ds)

    -- ---- the world after them

    module _ (chains : (w : World) (u v : Uid) → Decides (below w u v) (Below w u v)) where
      above_listed : (w : World) (u v : Uid) → Below w u v → Contains (uids_of w) u
      above_listed w u v (one_link {v = p} m) = parents-listed w u p m
      above_listed w u v (more_links {p = p} m r) = parents-listed w u p m

      not_or : {P : Type 0} → P ⊎ (P → ⊥) → (P → ⊥) ⊎ ((P → ⊥) → ⊥)
      not_or (inl p) = inr (λ n. n p)
      not_or (inr n) = inl n

      cycle_by : (w : World) → ((u : Uid) → Contains (uids_of w) u → Below w u u → ⊥) ⊎ ((u : Uid) × Contains (uids_of w) u × ((Below w u u → ⊥) → ⊥)) → ((u : Uid) × Below w u u) ⊎ IsAcyclic w
      cycle_by w (inl h) = inr (λ u b. h u (above_listed w u u b) b)
      cycle_by w (inr x) = ⊎_elim (λ b. inl (x.0, b)) (λ n. absurd (x.2 n)) (decided (below w x.0 x.0) (chains w x.0 x.0))

      cycle_or : (w : World) → ((u : Uid) × Below w u u) ⊎ IsAcyclic w
      cycle_or w = cycle_by w (all_or (λ (u : Uid). Below w u u → ⊥) (λ u. not_or (decided (below w u u) (chains w u u))) (uids_of w))

      -- the world with the first entity of each uid
      first_ones : World → World
      first_ones [] = []
      first_ones (e ∷ w) = e ∷ filter (λ x. not (same_uid e.uid x.uid)) (first_ones w)

      stays_by : (e : EntityTree) (w rest : World) (u : Uid) (b : Bool) → same_uid e.uid u ≡ b → entry_of rest u ≡ entry_of w u → cond b (Some e) (entry_of (filter (λ x. not (same_uid e.uid x.uid)) rest) u) ≡ cond b (Some e) (entry_of w u)
      stays_by e w rest u true is later = refl
      stays_by e w rest u false is later = entry_stays (λ x. not (same_uid e.uid x.uid)) u (λ x same. ap (λ (v : Uid). not (same_uid e.uid v)) same ∙ ap not is) rest ∙ later

      first_same : (w : World) → HaveSameEntities (first_ones w) w
      unfolding first_ones
      first_same [] u = refl
      first_same (e ∷ w) u = stays_by e w (first_ones w) u (same_uid e.uid u) refl (first_same w u)

      -- no entity that comes later has the uid of an earlier one
      Once : World → Type 0
      Once [] = Unit {0}
      Once (e ∷ w) = (entry_of w e.uid ≡ None) × Once w

      none_by : (b t : Bool) (e : EntityTree) (w : World) (f : EntityTree → Bool) (u : Uid) → same_uid e.uid u ≡ t → (entry_of w u ≡ None → entry_of (filter f w) u ≡ None) → cond t (Some e) (entry_of w u) ≡ None → entry_of (cond b (e ∷ filter f w) (filter f w)) u ≡ None
      none_by true true e w f u same later none = cc
      none_by true false e w f u same later none = rw same (later none)
      none_by false true e w f u same later none = cc
      none_by false false e w f u same later none = later none

      none_filtered : (f : EntityTree → Bool) (w : World) (u : Uid) → entry_of w u ≡ None → entry_of (filter f w) u ≡ None
      none_filtered f [] u none = refl
      none_filtered f (e ∷ w) u none = none_by (f e) (same_uid e.uid u) e w f u refl (none_filtered f w u) none

      once_filtered : (f : EntityTree → Bool) (w : World) → Once w → Once (filter f w)
      unfolding Once
      once_filtered f [] once = tt
      once_filtered f (e ∷ w) once = by (f e) (once_filtered f w once.1)
        where
          by : (b : Bool) → Once (filter f w) → Once (cond b (e ∷ filter f w) (filter f w))
          by true rest = (none_filtered f w e.uid once.0, rest)
          by false rest = rest

      first_once : (w : World) → Once (first_ones w)
      unfolding Once first_ones
      first_once [] = tt
      first_once (e ∷ w) = (
        entry_gone (λ x. not (same_uid e.uid x.uid)) e.uid (λ x same. ap (λ (v : Uid). not (same_uid e.uid v)) same ∙ ap not ((same_uid-Decides e.uid e.uid).1 refl)) (first_ones w),
        once_filtered (λ x. not (same_uid e.uid x.uid)) (first_ones w) (first_once w),
      )

      later_none : (e : EntityTree) (w : World) (u : Uid) (b : Bool) → same_uid e.uid u ≡ b → cond b (Some e) (entry_of w u) ≡ None → (e.uid ≡ u → ⊥) × (entry_of w u ≡ None)
      later_none e w u true is none = cc
      later_none e w u false is none = (λ same. absurd (let t = (same_uid-Decides e.uid u).1 same in let both : true ≡ false = sym t ∙ is in cc), none)

      absent_at : (w : World) (u : Uid) (k : ℕ) → entry_of w u ≡ None → slice_get (uids_of w) k ≡ Some u → ⊥
      absent_at [] u k none at = cc
      absent_at (e ∷ w) u zero none at = (later_none e w u (same_uid e.uid u) refl none).0 (same_Some _ _ at)
      absent_at (e ∷ w) u (suc k) none at = absent_at w u k (later_none e w u (same_uid e.uid u) refl none).1 at

      apart_places : (w : World) → Once w → (u : Uid) (i j : ℕ) → i < j → slice_get (uids_of w) i ≡ Some u → slice_get (uids_of w) j ≡ Some u → ⊥
      unfolding Once
      apart_places [] once u i j less one two = cc
      apart_places (e ∷ w) once u zero zero less one two = absurd (omega arith)
      apart_places (e ∷ w) once u zero (suc j) less one two = absent_at w u j (subst (λ x. entry_of w x ≡ None) (same_Some _ _ one) once.0) two
      apart_places (e ∷ w) once u (suc i) zero less one two = absurd (omega arith)
      apart_places (e ∷ w) once u (suc i) (suc j) less one two = apart_places w once.1 u i j (omega arith) one two

      first_distinct : (w : World) → AreUidsDistinct (first_ones w)
      first_distinct w u twice = apart_places (first_ones w) (first_once w) u twice.0 twice.1 twice.2 twice.3 twice.4

      -- ---- the entries of a JSON

      HasOtherFault : World → Data → Type 0
      HasOtherFault old d = (f : ConformFault) × (f ≢ OutOfMemory) × HasChangesFault s old (upserts_only d) f

      only_keys : (d : Data) → has_only is_change_key (upserts_only d) ≡ true
      unfolding is_change_key
      only_keys d = refl

      denotes : (d : Data) (ds : Items) (es : World) → as_array d ≡ Some ds → DenoteEntities s ds es → ((u : Uid) → TwoWrite ds u → ⊥) → DenotesChanges s (upserts_only d) [] es
      denotes d ds es list h distinct = record {
        entries = ds;
        written = record { keys = only_keys d; upserts = list; removals = no_uids };
        denoted = h;
        distinct = distinct;
        once = λ u h. let no : None ≡ Some u = h.3 in cc;
        no_actions = λ u m a. nowhere u m;
      }

      world_by : (old : World) (d : Data) (es : World) → DenotesChanges s (upserts_only d) [] es → ((u : Uid) × Below (changed old [] es) u u) ⊎ IsAcyclic (changed old [] es) → ((new : World) × DenotesChangedWorld s (upserts_only d) old new) ⊎ HasOtherFault old d
      unfolding HasOtherFault
      world_by old d es h (inl c) = inr (Cycle c.0, λ x. cc, changes.below_itself h c.1)
      world_by old d es h (inr acyclic) =
          let new = first_ones (changed old [] es) in
          let same = first_same (changed old [] es) in
          inl (
            new,
            record {
              removed = [];
              upserted = es;
              changes = h;
              entities = same;
              once = first_distinct (changed old [] es);
              acyclic = same_acyclic new (changed old [] es) same acyclic;
            },
          )

      upserted_by : (old : World) (d : Data) (ds : Items) → as_array d ≡ Some ds → ((u : Uid) → TwoWrite ds u → ⊥) → ((es : World) × DenoteEntities s ds es) ⊎ HasOtherAt ds → ((new : World) × DenotesChangedWorld s (upserts_only d) old new) ⊎ HasOtherFault old d
      unfolding HasOtherFault HasOtherAt HasOther
      upserted_by old d ds list distinct (inl es) = world_by old d es.0 (denotes d ds es.0 list es.1 distinct) (cycle_or (changed old [] es.0))
      upserted_by old d ds list distinct (inr x) = inr (x.2.0, x.2.1, changes.of_entry list x.1 x.2.2)

      twice_by : (old : World) (d : Data) (ds : Items) → as_array d ≡ Some ds → ((u : Uid) × TwoWrite ds u) ⊎ ((u : Uid) → TwoWrite ds u → ⊥) → ((new : World) × DenotesChangedWorld s (upserts_only d) old new) ⊎ HasOtherFault old d
      unfolding HasOtherFault
      twice_by old d ds list (inl t) = inr (DuplicateEntity t.0, λ x. cc, changes.written_twice list t.1)
      twice_by old d ds list (inr distinct) = upserted_by old d ds list distinct (entries_or ds)

      list_by : (old : World) (d : Data) (o : Option Items) → as_array d ≡ o → ((new : World) × DenotesChangedWorld s (upserts_only d) old new) ⊎ HasOtherFault old d
      unfolding HasOtherFault
      list_by old d None e = inr (Shape, λ x. cc, changes.no_changes (λ entries removed h. let no : None ≡ Some entries = sym e ∙ h.upserts in cc))
      list_by old d (Some ds) e = twice_by old d ds e (two_or ds)

      pub entries_answerable : (old : World) (d : Data) → ((new : World) × DenotesChangedWorld s (upserts_only d) old new) ⊎ ((f : ConformFault) × (f ≢ OutOfMemory) × HasChangesFault s old (upserts_only d) f)
      unfolding HasOtherFault
      entries_answerable old d = list_by old d (as_array d) refl
