-- What an environment comes from: its action, which has its context, and applies to its types.
use Rattle.std.proofs.Common.{◌≡◌, ℕ, inl, inr, List, [], ◌∷◌, Contains, true, Option, Some, None, is_some, option_map, sym, ap, subst, ◌∙◌}
use Rattle.std.proofs.lemmas.Cmp.{eq_by_cmp_equiv, nat_list_cmp_total}
use Rattle.std.proofs.lemmas.List.Elements.{All-contains, Contains-append_cases}
use Rattle.std.proofs.lemmas.Map.Keys.{IsDistinct-from_sorted}
use Rattle.std.proofs.lemmas.Map.Made.{is_some-lookup}
use Rattle.std.proofs.lemmas.Map.Views.{list_any-from_Contains, lookup-from_Contains}
use Rattle.std.specs.BTreeMap.{is_at}
use Rattle.std.specs.List.Sorted.{IsStrictlySortedBy}
use Rattle.std.specs.Map.{keys_of, values_of, lookup}
use Rattle.base_reach.proofs.Listed.{here, there, nowhere, mapped, from_mapped}
use Rattle.cedar_value.specs.Order.{text_cmp, uid_cmp}
use Rattle.cedar_value.specs.Private.Laws.{uid_total}
use Rattle.cedar_value.specs.declared.uid.Uid.{Uid}
use Rattle.cedar_schema_types.specs.Types.{TypeTree}
use Rattle.cedar_schema_spec.specs.declared.environment.Environment.{Environment}
use Rattle.cedar_schema_spec.specs.Declarations.{IsAction}
use Rattle.cedar_schema_spec.specs.SchemaTree.{SchemaTree, EntityTypeTree, ActionTree, environments_of, shape_of}
use Rattle.cedar_schema_spec.specs.Private.Environments.{with_principals, with_resources}
use Rattle.cedar_schema_spec.specs.WellFormed.{AreListsDeclared, AreDeclaredTypes}

-- the action of an environment
record ComesFrom (actions : List (Uid × ActionTree)) (e : Environment) : Type 0 where
  action : ActionTree
  listed : Contains actions (e.action, action)
  principal : Contains action.principals e.principal
  resource : Contains action.resources e.resource
  context : e.context ≡ action.context

from_resources : (u : Uid) (t : TypeTree) (p : List ℕ) (rs : List (List ℕ)) (e : Environment) → Contains (with_resources u p t rs) e → (e.action ≡ u) × (e.principal ≡ p) × Contains rs e.resource × (e.context ≡ t)
from_resources u t p rs e m =
    let (r, there_is, same) = from_mapped (λ (x : List ℕ). record { action = u; principal = p; resource = x; context = t }) rs e m in
    (ap (λ (x : Environment). x.action) (sym same), ap (λ (x : Environment). x.principal) (sym same), subst (λ (x : Environment). Contains rs x.resource) same there_is, ap (λ (x : Environment). x.context) (sym same))

from_principals : (u : Uid) (a : ActionTree) (ps : List (List ℕ)) (e : Environment) → Contains (with_principals u a ps) e → (e.action ≡ u) × Contains ps e.principal × Contains a.resources e.resource × (e.context ≡ a.context)
from_principals u a [] e m = absurd (nowhere e m)
from_principals u a (p ∷ ps) e m = elim (Contains-append_cases (with_resources u p a.context a.resources) (with_principals u a ps) e m) [
  | inl first ↦ (let f = from_resources u a.context p a.resources e first in (f.0, subst (λ (x : List ℕ). Contains (p ∷ ps) x) (sym f.1) (here p ps), f.2, f.3))
  | inr later ↦ (let f = from_principals u a ps e later in (f.0, there p ps e.principal f.1, f.2, f.3))
]

comes_from : (actions : List (Uid × ActionTree)) (e : Environment) → Contains (environments_of actions) e → ComesFrom actions e
comes_from [] e m = absurd (nowhere e m)
comes_from (x ∷ xs) e m = elim (Contains-append_cases (with_principals x.0 x.1 (x.1).principals) (environments_of xs) e m) [
  | inl first ↦ (let f = from_principals x.0 x.1 (x.1).principals e first in
      record { action = x.1; listed = subst (λ (u : Uid). Contains (x ∷ xs) (u, x.1)) (sym f.0) (here x xs); principal = f.1; resource = f.2; context = f.3 })
  | inr later ↦ (let f = comes_from xs e later in record { action = f.action; listed = there x xs (e.action, f.action) f.listed; principal = f.principal; resource = f.resource; context = f.context })
]

-- ---- one context an action

module _ (actions : List (Uid × ActionTree)) (up : IsStrictlySortedBy uid_cmp (keys_of actions)) where
  looked_up : (u : Uid) (a : ActionTree) → Contains actions (u, a) → lookup (is_at (uid_cmp u)) actions ≡ Some a
  looked_up u a m = lookup-from_Contains (eq_by_cmp_equiv uid_total) u a actions (IsDistinct-from_sorted uid_cmp (keys_of actions) up) m

  pub one_context : (e f : Environment) → Contains (environments_of actions) e → Contains (environments_of actions) f → e.action ≡ f.action → e.context ≡ f.context
  one_context e f m n same =
      let x = comes_from actions e m in
      let y = comes_from actions f n in
      let found : Some x.action ≡ Some y.action = sym (looked_up e.action x.action x.listed) ∙ ap (λ (u : Uid). lookup (is_at (uid_cmp u)) actions) same ∙ looked_up f.action y.action y.listed in
      let one : x.action ≡ y.action = cc in
      x.context ∙ ap (λ (a : ActionTree). a.context) one ∙ sym y.context

-- ---- what an environment names is declared

pub action_declared : (s : SchemaTree) (e : Environment) → Contains (environments_of s.actions) e → IsAction s e.action
action_declared s e m = let x = comes_from s.actions e m in mapped (λ (a : Uid × ActionTree). a.0) s.actions (e.action, x.action) x.listed

shape_there : (s : SchemaTree) (n : List ℕ) → Contains (keys_of s.entities) n → shape_of s n ≡ None → ⊥
shape_there s n m none = unfound (lookup (is_at (text_cmp n)) s.entities) (is_some-lookup (is_at (text_cmp n)) s.entities ∙ list_any-from_Contains (eq_by_cmp_equiv nat_list_cmp_total) n (keys_of s.entities) m) none
  where
    unfound : (o : Option EntityTypeTree) → is_some o ≡ true → option_map (λ e. e.shape) o ≡ None → ⊥
    unfound None h e = cc
    unfound (Some x) h e = cc

lists_of : (s : SchemaTree) → AreListsDeclared s → (u : Uid) (a : ActionTree) → Contains s.actions (u, a) → AreDeclaredTypes s a.principals × AreDeclaredTypes s a.resources
lists_of s h u a m = All-contains (λ (x : ActionTree). AreDeclaredTypes s x.principals × AreDeclaredTypes s x.resources) (values_of s.actions) a h (mapped (λ (x : Uid × ActionTree). x.1) s.actions (u, a) m)

pub principal_declared : (s : SchemaTree) → AreListsDeclared s → (e : Environment) → Contains (environments_of s.actions) e → shape_of s e.principal ≡ None → ⊥
principal_declared s h e m =
    let x = comes_from s.actions e m in
    shape_there s e.principal (All-contains (Contains (keys_of s.entities)) x.action.principals e.principal ((lists_of s h e.action x.action x.listed).0).1 x.principal)

pub resource_declared : (s : SchemaTree) → AreListsDeclared s → (e : Environment) → Contains (environments_of s.actions) e → shape_of s e.resource ≡ None → ⊥
resource_declared s h e m =
    let x = comes_from s.actions e m in
    shape_there s e.resource (All-contains (Contains (keys_of s.entities)) x.action.resources e.resource ((lists_of s h e.action x.action x.listed).1).1 x.resource)
