-- Sound entities with the schema's actions conform.
use Rattle.std.proofs.Common.{◌≡◌, ℕ, true, inl, inr, ⊎_elim, List, [], Contains, Option, Some, None, unwrap_or, refl, sym, ap, subst, ◌∙◌}
use Rattle.std.specs.Prelude.{is_some}
use Rattle.std.specs.BTreeMap.{is_at}
use Rattle.std.specs.Map.{keys_of, lookup}
use Rattle.std.specs.Option.{option_map}
use Rattle.std.proofs.lemmas.List.Elements.{All-contains}
use Rattle.std.proofs.lemmas.Map.Views.{Contains-keys_from_lookup, tells_apart}
use Rattle.base_reach.proofs.Chains.{chain_on}
use Rattle.base_reach.proofs.Listed.{nowhere, mapped, from_mapped}
use Rattle.base_reach.specs.Closure.{one_link, more_links}
use Rattle.cedar_conform_entities.specs.Worlds.{IsSound, world_of, SoundEntitiesConform}
use Rattle.cedar_conform_entities.proofs.TwiceLemmas.{either_of}
use Rattle.cedar_store.proofs.ChangedLemmas.{entry_in, entry_first, entry_second}
use Rattle.cedar_schema_spec.specs.Conformance.{IsOfSchema, of_type, Conforms, ActionsConform}
use Rattle.cedar_schema_spec.specs.Declarations.{IsAction, IsEntityType, action_entity, action_entities, ChainsOfActions}
use Rattle.cedar_schema_spec.specs.Descents.{EntityTypeDescends, TypeDescends}
use Rattle.cedar_schema_spec.specs.SchemaTree.{SchemaTree, EntityTypeTree, ActionTree, shape_of}
use Rattle.cedar_schema_spec.specs.WellFormed.{AreTypesApart, IsHierarchy}
use Rattle.cedar_schema_types.specs.Types.{TypeTree}
use Rattle.cedar_value.specs.Order.{text_cmp}
use Rattle.cedar_value.specs.Private.Same.{text_same}
use Rattle.cedar_value.specs.World.{World, EntityTree, entry_of, parents_of, Below}
use Rattle.cedar_value.specs.Private.Parents.{IsParent}
use Rattle.cedar_value.specs.declared.uid.Uid.{Uid}

-- ---- declared types

some_of : {A : Type 0} (o : Option A) → is_some o ≡ true → (x : A) × (o ≡ Some x)
some_of None h = cc
some_of (Some x) h = (x, refl)

some_behind : {A B : Type 0} (f : A → B) (o : Option A) (y : B) → option_map f o ≡ Some y → is_some o ≡ true
some_behind f None y h = cc
some_behind f (Some x) y h = refl

-- a type with a shape is declared
pub shape_declared : (s : SchemaTree) (n : List ℕ) (t : TypeTree) → shape_of s n ≡ Some t → Contains (keys_of s.entities) n
shape_declared s n t h = Contains-keys_from_lookup (tells_apart {R = text_cmp} text_same) n s.entities (some_behind (λ (e : EntityTypeTree). e.shape) (lookup (is_at (text_cmp n)) s.entities) t h)

-- so no action is of it
pub apart_type : (s : SchemaTree) → AreTypesApart s → (u : Uid) (t : TypeTree) → shape_of s u.ty ≡ Some t → IsAction s u → ⊥
apart_type s apart u t e a = All-contains (λ (x : Uid). ¬ Contains (keys_of s.entities) x.ty) (keys_of s.actions) u apart a (shape_declared s u.ty t e)

-- ---- parents

abbrev pub pars : Option EntityTree → List Uid
pars o = unwrap_or (option_map (λ e. e.parents) o) []

module _ (s : SchemaTree) (apart : AreTypesApart s) (hierarchy : IsHierarchy s) where
  -- a type with a shape descends as an entity type
  pub entity_descends : (u : Uid) (m : List ℕ) (t : TypeTree) → shape_of s u.ty ≡ Some t → TypeDescends s u.ty m → EntityTypeDescends s u.ty m
  entity_descends u m t e (inl d) = d
  entity_descends u m t e (inr d) = absurd (apart_type s apart d.0 t (ap (shape_of s) d.2 ∙ e) (hierarchy.0 d.0 d.1 d.4).0)

  -- each parent of a sound entity is of a type from which its own descends
  pub sound_parent : (es : World) → ((e : EntityTree) → Contains es e → IsSound s e) → (u v : Uid) (o : Option EntityTree) → entry_of es u ≡ o → Contains (pars o) v → EntityTypeDescends s u.ty v.ty × IsEntityType s v.ty
  sound_parent es sound u v None h m = absurd (nowhere v m)
  sound_parent es sound u v (Some e) h m =
      let found = entry_in es u e h in
      let is = sound e found.0 in
      let p = is.parents v m in
      (subst (λ (x : Uid). EntityTypeDescends s x.ty v.ty) found.1 (entity_descends e.uid v.ty is.shape is.declared p.1), p.0)

-- ---- the world

module _ (chains : ChainsOfActions) (actions : ActionsConform) (s : SchemaTree) (es : World) (apart : AreTypesApart s) (hierarchy : IsHierarchy s) (sound : (e : EntityTree) → Contains es e → IsSound s e) where
  sound_listed : (e : EntityTree) → IsSound s e → IsOfSchema s e
  sound_listed e h = of_type {t = h.shape} h.declared h.attributes

  -- an entity of the schema's actions has the uid of one
  action_in : (e : EntityTree) → Contains (action_entities s) e → IsAction s e.uid
  action_in e m =
      let (a, there_is, same) = from_mapped action_entity s.actions e m in
      let uid : a.0 ≡ e.uid = ap (λ (x : EntityTree). x.uid) same in
      subst (Contains (keys_of s.actions)) uid (mapped (λ (x : Uid × ActionTree). x.0) s.actions a there_is)

  no_action : (u : Uid) (o : Option EntityTree) → entry_of (action_entities s) u ≡ o → ¬ IsAction s u → o ≡ None
  no_action u None h n = refl
  no_action u (Some e) h n =
      let found = entry_in (action_entities s) u e h in
      absurd (n (subst (IsAction s) found.1 (action_in e found.0)))

  action_parents : (u : Uid) → IsAction s u → parents_of (world_of s es) u ≡ parents_of (action_entities s) u
  action_parents u a =
      let found = some_of (entry_of (action_entities s) u) ((actions s).present u a) in
      ap pars (entry_first (action_entities s) es u found.0 found.1 ∙ sym found.1)

  other_parents : (u : Uid) → ¬ IsAction s u → parents_of (world_of s es) u ≡ parents_of es u
  other_parents u n = ap pars (entry_second (action_entities s) es u (no_action u (entry_of (action_entities s) u) refl n))

  parent_sound : (u v : Uid) → ¬ IsAction s u → IsParent (world_of s es) u v → EntityTypeDescends s u.ty v.ty × IsEntityType s v.ty
  parent_sound u v n m = sound_parent s apart hierarchy es sound u v (entry_of es u) refl (subst (λ ps. Contains ps v) (other_parents u n) m)

  chain_above : (u v : Uid) → ¬ IsAction s u → Below (world_of s es) u v → EntityTypeDescends s u.ty v.ty
  chain_above u v n (one_link m) = (parent_sound u v n m).0
  chain_above u v n (more_links {p = q} m r) =
      let p = parent_sound u q n m in
      let shape = some_of (shape_of s q.ty) p.1 in
      chain_on p.0 (chain_above q v (λ a. apart_type s apart q shape.0 shape.1 a) r)

  action_up : (u v : Uid) → IsAction s u → Below (world_of s es) u v → Below (action_entities s) u v
  action_up u v a (one_link m) = one_link (subst (λ ps. Contains ps v) (action_parents u a) m)
  action_up u v a (more_links {p = q} m r) =
      let k : IsParent (action_entities s) u q = subst (λ ps. Contains ps q) (action_parents u a) m in
      more_links k (action_up q v (hierarchy.0 u q ((chains s u q).0 (one_link k))).1 r)

  action_down : (u v : Uid) → IsAction s u → Below (action_entities s) u v → Below (world_of s es) u v
  action_down u v a (one_link m) = one_link (subst (λ ps. Contains ps v) (sym (action_parents u a)) m)
  action_down u v a (more_links {p = q} m r) =
      more_links (subst (λ ps. Contains ps q) (sym (action_parents u a)) m) (action_down q v (hierarchy.0 u q ((chains s u q).0 (one_link m))).1 r)

  pub conforms : Conforms s (world_of s es)
  conforms = record {
    entities = λ e m. ⊎_elim ((actions s).entities e) (λ r. sound_listed e (sound e r)) (either_of (action_entities s) es e m);
    listed = λ e m n. ⊎_elim (λ a. absurd (n (action_in e a))) (λ r. (sound e r).listed) (either_of (action_entities s) es e m);
    above = λ u v n b. inl (chain_above u v n b);
    present = λ u a. let found = some_of (entry_of (action_entities s) u) ((actions s).present u a) in ap is_some (entry_first (action_entities s) es u found.0 found.1);
    actions = λ u v a. ((λ b. (chains s u v).0 (action_up u v a b)), (λ d. action_down u v a ((chains s u v).1 d)));
  }

pub sound_entities_conform : ChainsOfActions → ActionsConform → SoundEntitiesConform
sound_entities_conform chains actions s es apart hierarchy sound = conforms chains actions s es apart hierarchy sound
