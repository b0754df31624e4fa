-- A world that conforms still does after changes.
use Rattle.std.proofs.Common.{◌≡◌, ℕ, Bool, true, false, inl, inr, ⊎_elim, List, [], Contains, Option, Some, None, IfSome, unwrap_or, refl, sym, ap, subst, ◌∙◌}
use Rattle.std.specs.BTreeMap.{is_at}
use Rattle.std.specs.Map.{keys_of, lookup}
use Rattle.std.specs.Option.{option_map}
use Rattle.std.specs.Prelude.{All, is_some}
use Rattle.std.proofs.lemmas.List.Elements.{All-contains}
use Rattle.std.proofs.lemmas.Map.Views.{IfSome-lookup_from_All}
use Rattle.base_reach.proofs.Chains.{chain_on}
use Rattle.base_reach.proofs.Listed.{nowhere}
use Rattle.base_reach.specs.Closure.{one_link, more_links}
use Rattle.cedar_conform_entities.specs.Changes.{ChangedWorldsConform}
use Rattle.cedar_conform_entities.specs.Worlds.{IsSound}
use Rattle.cedar_conform_entities.proofs.SameConforming.{same_conforms}
use Rattle.cedar_conform_entities.proofs.Conforming.{apart_type, pars, entity_descends, sound_parent}
use Rattle.cedar_conform_entities.proofs.Denoted.{all_sound}
use Rattle.cedar_conform_values.specs.Belonging.{ReadValuesBelong}
use Rattle.cedar_schema_spec.specs.Conformance.{IsOfSchema, of_type, of_action, Conforms}
use Rattle.cedar_schema_spec.specs.Declarations.{IsAction}
use Rattle.cedar_schema_spec.specs.Descents.{ActionDescends, EntityTypeDescends, TypeDescends}
use Rattle.cedar_schema_spec.specs.SchemaTree.{SchemaTree, EntityTypeTree, parents_of_type, shape_of}
use Rattle.cedar_schema_spec.specs.WellFormed.{AreParentsDeclared, AreTypesApart, IsHierarchy}
use Rattle.cedar_store.specs.Changes.{is_changed, changed}
use Rattle.cedar_store.proofs.ChangedLemmas.{entry_in, entry_unnamed, is_changed-not, parents_unnamed, parents_named, changed_entity}
use Rattle.cedar_value.specs.Order.{text_cmp}
use Rattle.cedar_value.specs.World.{World, EntityTree, entry_of, parents_of, Below}
use Rattle.cedar_value.specs.Private.Parents.{IsParent}
use Rattle.cedar_value.specs.declared.uid.Uid.{Uid}

-- ---- declared types

abbrev IsTypeName : SchemaTree → List ℕ → Type 0
IsTypeName s n = Contains (keys_of s.entities) n

-- each direct parent of an entity type is declared
type_parent : (s : SchemaTree) → AreParentsDeclared s → (n m : List ℕ) → Contains (parents_of_type s.entities n) m → IsTypeName s m
type_parent s all n m h = by (lookup (is_at (text_cmp n)) s.entities) (IfSome-lookup_from_All (λ (x : EntityTypeTree). All (IsTypeName s) x.parents) (is_at (text_cmp n)) s.entities all) h
  where
    by : (o : Option EntityTypeTree) → IfSome o (λ x. All (IsTypeName s) x.parents) → Contains (unwrap_or (option_map (λ x. x.parents) o) []) m → IsTypeName s m
    by None is k = absurd (nowhere m k)
    by (Some x) is k = All-contains (IsTypeName s) x.parents m is k

-- and so is all that one descends from
type_above : (s : SchemaTree) → AreParentsDeclared s → {n m : List ℕ} → EntityTypeDescends s n m → IsTypeName s m
type_above s all (one_link {u = n} {v = m} l) = type_parent s all n m l
type_above s all (more_links l rest) = type_above s all rest

-- no action is of a declared type
no_action : (s : SchemaTree) → AreTypesApart s → (u : Uid) → IsTypeName s u.ty → ¬ IsAction s u
no_action s apart u is a = All-contains (λ (x : Uid). ¬ IsTypeName s x.ty) (keys_of s.actions) u apart a is

-- ---- the world

module _ (s : SchemaTree) (old : World) (removed : List Uid) (upserted : World) (declared : AreParentsDeclared s) (apart : AreTypesApart s) (hierarchy : IsHierarchy s) (conforms : Conforms s old) (sound : (e : EntityTree) → Contains upserted e → IsSound s e) (stay : (u : Uid) → Contains removed u → ¬ IsAction s u) where
  abbrev new : World
  new = changed old removed upserted

  -- no action is upserted, since each has a declared type
  none_upserted : (u : Uid) → IsAction s u → (o : Option EntityTree) → entry_of upserted u ≡ o → o ≡ None
  none_upserted u a None h = refl
  none_upserted u a (Some e) h =
      let found = entry_in upserted u e h in
      let is = sound e found.0 in
      absurd (apart_type s apart u is.shape (subst (λ (x : Uid). shape_of s x.ty ≡ Some is.shape) found.1 is.declared) a)

  -- so changes name no action
  unnamed : (u : Uid) → IsAction s u → is_changed removed upserted u ≡ false
  unnamed u a = is_changed-not removed upserted u (λ m. stay u m a) (none_upserted u a (entry_of upserted u) refl)

  action_parents : (u : Uid) → IsAction s u → parents_of new u ≡ parents_of old u
  action_parents u a = parents_unnamed old removed upserted u (unnamed u a)

  -- what the schema says of an entity that was there before
  listed_parent : (e : EntityTree) (u v : Uid) → e.uid ≡ u → ¬ IsAction s u → TypeDescends s u.ty v.ty → IsOfSchema s e → EntityTypeDescends s u.ty v.ty
  listed_parent e u v same n d (of_type {t = t} shape attributes) = entity_descends s apart hierarchy u v.ty t (subst (λ (x : Uid). shape_of s x.ty ≡ Some t) same shape) d
  listed_parent e u v same n d (of_action a empty) = absurd (n (subst (IsAction s) same a))

  old_parent : (u v : Uid) → ¬ IsAction s u → (o : Option EntityTree) → entry_of old u ≡ o → Contains (pars o) v → EntityTypeDescends s u.ty v.ty
  old_parent u v n None h m = absurd (nowhere v m)
  old_parent u v n (Some e) h m =
      let found = entry_in old u e h in
      let is : IsParent old u v = subst (λ (o : Option EntityTree). Contains (pars o) v) (sym h) m in
      listed_parent e u v found.1 n (conforms.above u v n (one_link is)) (conforms.entities e found.0)

  -- each parent of what is no action is of a type from which its own descends
  parent_sound : (u v : Uid) (b : Bool) → is_changed removed upserted u ≡ b → ¬ IsAction s u → IsParent new u v → EntityTypeDescends s u.ty v.ty
  parent_sound u v true named n m = (sound_parent s apart hierarchy upserted sound u v (entry_of upserted u) refl (subst (λ ps. Contains ps v) (parents_named old removed upserted u named) m)).0
  parent_sound u v false named n m = old_parent u v n (entry_of old u) refl (subst (λ ps. Contains ps v) (parents_unnamed old removed upserted u named) m)

  chain_above : (u v : Uid) → ¬ IsAction s u → Below new u v → EntityTypeDescends s u.ty v.ty
  chain_above u v n (one_link m) = parent_sound u v (is_changed removed upserted u) refl n m
  chain_above u v n (more_links {p = q} m r) =
      let d = parent_sound u q (is_changed removed upserted u) refl n m in
      chain_on d (chain_above q v (no_action s apart q (type_above s declared d)) r)

  -- all that is above an action is an action, and as before
  action_up : (u v : Uid) → IsAction s u → Below new u v → ActionDescends s u v
  action_up u v a (one_link m) = (conforms.actions u v a).0 (one_link (subst (λ ps. Contains ps v) (action_parents u a) m))
  action_up u v a (more_links {p = q} m r) =
      let d = (conforms.actions u q a).0 (one_link (subst (λ ps. Contains ps q) (action_parents u a) m)) in
      chain_on d (action_up q v (hierarchy.0 u q d).1 r)

  action_down : (u v : Uid) → IsAction s u → Below old u v → Below new u v
  action_down u v a (one_link m) = one_link (subst (λ ps. Contains ps v) (sym (action_parents u a)) m)
  action_down u v a (more_links {p = q} m r) =
      more_links (subst (λ ps. Contains ps q) (sym (action_parents u a)) m) (action_down q v (hierarchy.0 u q ((conforms.actions u q a).0 (one_link m))).1 r)

  pub new_conforms : Conforms s new
  new_conforms = record {
    entities = λ e m. ⊎_elim (λ l. conforms.entities e l.0) (λ r. of_type {t = (sound e r).shape} (sound e r).declared (sound e r).attributes) (changed_entity old removed upserted e m);
    listed = λ e m n. ⊎_elim (λ l. conforms.listed e l.0 n) (λ r. (sound e r).listed) (changed_entity old removed upserted e m);
    above = λ u v n b. inl (chain_above u v n b);
    present = λ u a. ap is_some (entry_unnamed old removed upserted u (unnamed u a)) ∙ conforms.present u a;
    actions = λ u v a. ((λ b. action_up u v a b), (λ d. action_down u v a ((conforms.actions u v a).1 d)));
  }

pub changed_worlds_conform : ReadValuesBelong → ChangedWorldsConform
changed_worlds_conform belong s d old after declared apart hierarchy conforms h =
    same_conforms s after (changed old h.removed h.upserted) h.entities h.once (new_conforms s old h.removed h.upserted declared apart hierarchy conforms (all_sound belong s h.changes.denoted) (λ u m a. h.changes.no_actions u m (inr a)))
