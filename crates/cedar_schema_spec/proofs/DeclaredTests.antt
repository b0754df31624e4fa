-- The tests of what a schema declares, and of its descents, decide what they are of.
use Rattle.std.proofs.Common.{◌≡◌, ◌↔◌, ℕ, IsTrue, Bool, true, false, cond, ◌&&◌, ◌⊎◌, inl, inr, List, [], ◌∷◌, ◌++◌, map, Contains, Option, Some, unwrap_or, refl, sym, ap, subst, ◌∙◌}
use Rattle.std.specs.Prelude.{is_some}
use Rattle.std.specs.Bool.{Decides, one_answer}
use Rattle.std.specs.Option.{option_map}
use Rattle.std.specs.Map.{keys_of, lookup}
use Rattle.std.specs.BTreeMap.{is_at}
use Rattle.std.specs.List.{list_any}
use Rattle.std.specs.Ordering.{is_eq}
use Rattle.std.specs.Str.{bytes_eq}
use Rattle.std.proofs.lemmas.Cmp.{eq_by_cmp_equiv}
use Rattle.std.proofs.lemmas.Map.Views.{Contains-keys_from_lookup, IsSome-lookup_from_Contains, tells_apart}
use Rattle.std.proofs.lemmas.Slice.Eq.{bytes_eq-Decides}
use Rattle.base_reach.specs.Closure.{one_link, more_links}
use Rattle.base_reach.proofs.Chains.{leads-Decides, chain_among}
use Rattle.base_reach.proofs.Listed.{here, there, first_or_later, nowhere, mapped, from_mapped, both_decide, either_decides, decides_as, any_found, any_at}
use Rattle.cedar_value.specs.Datum.{same_uid}
use Rattle.cedar_value.specs.Order.{uid_cmp}
use Rattle.cedar_value.specs.Private.Equality.{same_uid-Decides}
use Rattle.cedar_value.specs.Private.Laws.{uid_ties, uid_total}
use Rattle.cedar_value.specs.Private.Same.{uid_same}
use Rattle.cedar_value.specs.World.{EntityTree, entry_of, has_entity, parents_of, Below}
use Rattle.cedar_value.specs.declared.uid.Uid.{Uid}
use Rattle.cedar_schema_spec.specs.SchemaTree.{SchemaTree, ActionTree, parents_of_type, parents_of_action}
use Rattle.cedar_schema_spec.specs.Descents.{ActionDescends, EntityTypeDescends, ActionTypeDescends}
use Rattle.cedar_schema_spec.specs.Declarations.{IsAction, is_action, action_below, entity_type_below, all_parents, is_below_of, action_type_below, action_entity, action_entities, ActionsAreDecided, ActionTypesAreDecided, ActionDescentsAreDecided, TypeDescentsAreDecided, ChainsOfActions}
use Rattle.cedar_schema_spec.specs.Conformance.{IsOfSchema, of_action, ActionsConform}
use Rattle.cedar_schema_spec.specs.Private.Linked.{types_listed, actions_listed}

any_decides : {A : Type 0} (f : A → Bool) (P : A → Type 0) (xs : List A) → ((x : A) → Decides (f x) (P x)) → Decides (list_any f xs) ((x : A) × Contains xs x × P x)
any_decides f P xs d = (
  λ e. let p = any_found f xs e in (p.0, p.1, (d p.0).0 p.2),
  λ h. any_at f xs h.0 h.1 ((d h.0).1 h.2),
)

uid_tie : (u v : Uid) → Decides (is_eq (uid_cmp u v)) (u ≡ v)
uid_tie u v = subst (λ b. Decides b (u ≡ v)) (uid_ties u v) (same_uid-Decides u v)

turned : {A : Type 0} (b : Bool) (x y : A) → Decides b (x ≡ y) → Decides b (y ≡ x)
turned b x y d = (λ e. sym (d.0 e), λ h. d.1 (sym h))

left_of : {A : Type 0} (xs ys : List A) (y : A) → Contains xs y → Contains (xs ++ ys) y
left_of [] ys y m = absurd (nowhere y m)
left_of (x ∷ xs) ys y m = elim (first_or_later x xs y m) [ inl e ↦ subst (λ z. Contains (x ∷ (xs ++ ys)) z) e (here x (xs ++ ys)) | inr r ↦ there x (xs ++ ys) y (left_of xs ys y r) ]

right_of : {A : Type 0} (xs ys : List A) (y : A) → Contains ys y → Contains (xs ++ ys) y
right_of [] ys y m = m
right_of (x ∷ xs) ys y m = there x (xs ++ ys) y (right_of xs ys y m)

-- ---- what is declared

pub actions_decided : ActionsAreDecided
actions_decided s u =
    decides_as (is_action s u) ((v : Uid) × Contains (keys_of s.actions) v × (v ≡ u)) (IsAction s u)
    (any_decides (λ v. same_uid v u) (λ v. v ≡ u) (keys_of s.actions) (λ v. same_uid-Decides v u))
    (λ h. subst (λ x. Contains (keys_of s.actions) x) h.2 h.1)
    (λ m. (u, m, refl))

pub has_entry : (r : Bool) (s : SchemaTree) (u : Uid) → r ≡ is_some (lookup (is_at (uid_cmp u)) s.actions) → IsTrue r ↔ IsAction s u
has_entry r s u is = (
  λ h. Contains-keys_from_lookup (tells_apart {R = uid_cmp} uid_same) u s.actions (sym is ∙ h),
  λ m. is ∙ IsSome-lookup_from_Contains (eq_by_cmp_equiv uid_total) u s.actions m,
)

pub action_types_decided : ActionTypesAreDecided
action_types_decided s n = any_decides (λ (v : Uid). bytes_eq v.ty n) (λ v. v.ty ≡ n) (keys_of s.actions) (λ v. bytes_eq-Decides v.ty n)

-- ---- descents

pub action_descents_decided : ActionDescentsAreDecided
action_descents_decided s u v = leads-Decides same_uid same_uid-Decides (parents_of_action s.actions) (keys_of s.actions) (actions_listed s.actions) u v

entity_types_decided : (s : SchemaTree) (m n : List ℕ) → Decides (entity_type_below s m n) (EntityTypeDescends s m n)
entity_types_decided s m n = leads-Decides bytes_eq bytes_eq-Decides (parents_of_type s.entities) (keys_of s.entities) (types_listed s.entities) m n

-- a link's two ends are in the list of actions and in that of their parents
listed_step : (b : Bool) (u p : Uid) (a : Uid × ActionTree) (as' : List (Uid × ActionTree)) → is_eq (uid_cmp u a.0) ≡ b → Contains (unwrap_or (option_map (λ x. x.parents) (cond b (Some a.1) (lookup (is_at (uid_cmp u)) as'))) []) p
    → (Contains (parents_of_action as' u) p → Contains (keys_of as') u × Contains (all_parents as') p) → Contains (keys_of (a ∷ as')) u × Contains (all_parents (a ∷ as')) p
listed_step true u p a as' e l rest = (subst (λ k. Contains (a.0 ∷ keys_of as') k) (sym ((uid_tie u a.0).0 e)) (here a.0 (keys_of as')), left_of a.1.parents (all_parents as') p l)
listed_step false u p a as' e l rest = let r = rest l in (there a.0 (keys_of as') u r.0, right_of a.1.parents (all_parents as') p r.1)

link_listed : (as' : List (Uid × ActionTree)) (u p : Uid) → Contains (parents_of_action as' u) p → Contains (keys_of as') u × Contains (all_parents as') p
link_listed [] u p l = absurd (nowhere p l)
link_listed (a ∷ as') u p l = listed_step (is_eq (uid_cmp u a.0)) u p a as' refl l (link_listed as' u p)

module _ (s : SchemaTree) where
  first_listed : {u v : Uid} → ActionDescends s u v → IsAction s u
  first_listed (one_link {u = u} {v = v} l) = (link_listed s.actions u v l).0
  first_listed (more_links {u = u} {p = p} l rest) = (link_listed s.actions u p l).0

  last_listed : {u v : Uid} → ActionDescends s u v → Contains (all_parents s.actions) v
  last_listed (one_link {u = u} {v = v} l) = (link_listed s.actions u v l).1
  last_listed (more_links l rest) = last_listed rest

  below_of_decided : (u : Uid) (n : List ℕ) → Decides (is_below_of s u n) ((v : Uid) × Contains (all_parents s.actions) v × ((v.ty ≡ n) × ActionDescends s u v))
  below_of_decided u n = any_decides (λ v. bytes_eq v.ty n && action_below s u v) (λ v. (v.ty ≡ n) × ActionDescends s u v) (all_parents s.actions) (λ v. both_decide (bytes_eq v.ty n) (action_below s u v) (v.ty ≡ n) (ActionDescends s u v) (bytes_eq-Decides v.ty n) (action_descents_decided s u v))

  action_type_descents_decided : (m n : List ℕ) → Decides (action_type_below s m n) (ActionTypeDescends s m n)
  action_type_descents_decided m n =
      decides_as (action_type_below s m n) ((u : Uid) × Contains (keys_of s.actions) u × ((u.ty ≡ m) × ((v : Uid) × Contains (all_parents s.actions) v × ((v.ty ≡ n) × ActionDescends s u v)))) (ActionTypeDescends s m n)
      (any_decides (λ u. bytes_eq u.ty m && is_below_of s u n) (λ u. (u.ty ≡ m) × ((v : Uid) × Contains (all_parents s.actions) v × ((v.ty ≡ n) × ActionDescends s u v))) (keys_of s.actions)
      (λ u. both_decide (bytes_eq u.ty m) (is_below_of s u n) (u.ty ≡ m) ((v : Uid) × Contains (all_parents s.actions) v × ((v.ty ≡ n) × ActionDescends s u v)) (bytes_eq-Decides u.ty m) (below_of_decided u n)))
      (λ h. (h.0, h.2.1.0, h.2.0, h.2.1.2.0, h.2.1.2.1))
      (λ h. (h.0, first_listed h.4, (h.2, (h.1, last_listed h.4, (h.3, h.4)))))

pub type_descents_decided : TypeDescentsAreDecided
type_descents_decided s m n = either_decides (entity_type_below s m n) (action_type_below s m n) (EntityTypeDescends s m n) (ActionTypeDescends s m n) (entity_types_decided s m n) (action_type_descents_decided s m n)

-- ---- the world of the actions

parents_step : (b c : Bool) → b ≡ c → (x : EntityTree) (y : ActionTree) → x.parents ≡ y.parents → (o : Option EntityTree) (p : Option ActionTree) → unwrap_or (option_map (λ e. e.parents) o) [] ≡ unwrap_or (option_map (λ a. a.parents) p) []
    → unwrap_or (option_map (λ e. e.parents) (cond b (Some x) o)) [] ≡ unwrap_or (option_map (λ a. a.parents) (cond c (Some y) p)) []
parents_step true true e x y h o p r = h
parents_step true false e x y h o p r = cc
parents_step false true e x y h o p r = cc
parents_step false false e x y h o p r = r

action_links : (as' : List (Uid × ActionTree)) (u : Uid) → parents_of (map action_entity as') u ≡ parents_of_action as' u
action_links [] u = refl
action_links (a ∷ as') u =
    parents_step (same_uid a.0 u) (is_eq (uid_cmp u a.0)) (one_answer _ _ (same_uid-Decides a.0 u) (turned _ u a.0 (uid_tie u a.0)))
    (action_entity a) a.1 refl (entry_of (map action_entity as') u) (lookup (is_at (uid_cmp u)) as') (action_links as' u)

chain_up : (s : SchemaTree) {u v : Uid} → Below (action_entities s) u v → ActionDescends s u v
chain_up s = chain_among (λ u v l. subst (λ ps. Contains ps v) (action_links s.actions u) l)

chain_down : (s : SchemaTree) {u v : Uid} → ActionDescends s u v → Below (action_entities s) u v
chain_down s = chain_among (λ u v l. subst (λ ps. Contains ps v) (sym (action_links s.actions u)) l)

pub chains_of_actions : ChainsOfActions
chains_of_actions s u v = (chain_up s, chain_down s)

module _ (s : SchemaTree) where
  action_declared : (e : EntityTree) → Contains (action_entities s) e → IsAction s e.uid
  action_declared e m =
      let (a, there_is, same) = from_mapped action_entity s.actions e m in
      subst (λ (x : EntityTree). Contains (keys_of s.actions) x.uid) same (mapped (λ (x : Uid × ActionTree). x.0) s.actions a there_is)

  action_listed : (e : EntityTree) → Contains (action_entities s) e → IsOfSchema s e
  action_listed e m =
      let (a, there_is, same) = from_mapped action_entity s.actions e m in
      of_action (action_declared e m) (ap (λ (x : EntityTree). x.attributes) (sym same))

  action_present : (as' : List (Uid × ActionTree)) (u : Uid) → Contains (keys_of as') u → has_entity (map action_entity as') u ≡ true
  action_present [] u m = absurd (nowhere u m)
  action_present (a ∷ as') u m = by (same_uid a.0 u) refl (first_or_later a.0 (keys_of as') u m) (action_present as' u)
    where
      by : (b : Bool) → same_uid a.0 u ≡ b → (a.0 ≡ u) ⊎ Contains (keys_of as') u → (Contains (keys_of as') u → has_entity (map action_entity as') u ≡ true) → is_some (cond b (Some (action_entity a)) (entry_of (map action_entity as') u)) ≡ true
      by true e m rest = refl
      by false e (inl p) rest = let t = (same_uid-Decides a.0 u).1 p in let c : true ≡ false = sym t ∙ e in cc
      by false e (inr p) rest = rest p

pub actions_conform : ActionsConform
actions_conform s = record {
  entities = action_listed s;
  listed = λ e m n. absurd (n (action_declared s e m));
  above = λ u v n b. absurd (n (first_listed s (chain_up s b)));
  present = λ u m. action_present s s.actions u m;
  actions = λ u v m. (chain_up s, chain_down s);
}
