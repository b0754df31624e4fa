-- What an environment comes from: its action, which applies to its types.
use Rattle.std.proofs.Common.{◌≡◌, ℕ, inl, inr, List, [], ◌∷◌, Contains, Some, sym, ap, subst}
use Rattle.std.proofs.lemmas.Cmp.{eq_by_cmp_equiv}
use Rattle.std.proofs.lemmas.List.Elements.{Contains-append_cases}
use Rattle.std.proofs.lemmas.Map.Keys.{IsDistinct-from_sorted}
use Rattle.std.proofs.lemmas.Map.Views.{lookup-from_Contains}
use Rattle.std.specs.BTreeMap.{is_at}
use Rattle.std.specs.List.Sorted.{IsStrictlySortedBy}
use Rattle.std.specs.Map.{keys_of, lookup}
use Rattle.cedar_value.specs.Order.{uid_cmp}
use Rattle.cedar_value.specs.Private.Laws.{uid_total}
use Rattle.cedar_value.specs.declared.uid.Uid.{Uid}
use Rattle.cedar_schema_types.specs.Types.{TypeTree}
use Rattle.cedar_schema_spec.specs.declared.environment.Environment.{Environment}
use Rattle.cedar_schema_spec.specs.SchemaTree.{ActionTree, environments_of}
use Rattle.cedar_schema_spec.specs.Private.Environments.{with_principals, with_resources}
use Rattle.base_reach.proofs.Listed.{here, there, nowhere, from_mapped}

record ComesFrom (actions : List (Uid × ActionTree)) (e : Environment) : Type 0 where
  action : ActionTree
  listed : Contains actions (e.action, action)
  principal : Contains action.principals e.principal
  resource : Contains action.resources e.resource

from_resources : (u : Uid) (t : TypeTree) (p : List ℕ) (rs : List (List ℕ)) (e : Environment) → Contains (with_resources u p t rs) e → (e.action ≡ u) × (e.principal ≡ p) × Contains rs e.resource
from_resources u t p rs e m =
    let (r, there_is, same) = from_mapped (λ (x : List ℕ). record { action = u; principal = p; resource = x; context = t }) rs e m in
    (ap (λ (x : Environment). x.action) (sym same), ap (λ (x : Environment). x.principal) (sym same), subst (λ (x : Environment). Contains rs x.resource) same there_is)

from_principals : (u : Uid) (a : ActionTree) (ps : List (List ℕ)) (e : Environment) → Contains (with_principals u a ps) e → (e.action ≡ u) × Contains ps e.principal × Contains a.resources e.resource
from_principals u a [] e m = absurd (nowhere e m)
from_principals u a (p ∷ ps) e m = elim (Contains-append_cases (with_resources u p a.context a.resources) (with_principals u a ps) e m) [
  | inl first ↦ (let f = from_resources u a.context p a.resources e first in (f.0, subst (λ (x : List ℕ). Contains (p ∷ ps) x) (sym f.1) (here p ps), f.2))
  | inr later ↦ (let f = from_principals u a ps e later in (f.0, there p ps e.principal f.1, f.2))
]

comes_from : (actions : List (Uid × ActionTree)) (e : Environment) → Contains (environments_of actions) e → ComesFrom actions e
comes_from [] e m = absurd (nowhere e m)
comes_from (x ∷ xs) e m = elim (Contains-append_cases (with_principals x.0 x.1 (x.1).principals) (environments_of xs) e m) [
  | inl first ↦ (let f = from_principals x.0 x.1 (x.1).principals e first in
      record { action = x.1; listed = subst (λ (u : Uid). Contains (x ∷ xs) (u, x.1)) (sym f.0) (here x xs); principal = f.1; resource = f.2 })
  | inr later ↦ (let f = comes_from xs e later in record { action = f.action; listed = there x xs (e.action, f.action) f.listed; principal = f.principal; resource = f.resource })
]

-- an action that is listed is the one that is found
pub looked_up : (actions : List (Uid × ActionTree)) → IsStrictlySortedBy uid_cmp (keys_of actions) → (u : Uid) (a : ActionTree) → Contains actions (u, a) → lookup (is_at (uid_cmp u)) actions ≡ Some a
looked_up actions up u a m = lookup-from_Contains (eq_by_cmp_equiv uid_total) u a actions (IsDistinct-from_sorted uid_cmp (keys_of actions) up) m

-- the action of an environment is found, and applies to its types
pub found_at : (actions : List (Uid × ActionTree)) → IsStrictlySortedBy uid_cmp (keys_of actions) → (e : Environment) → Contains (environments_of actions) e
    → (a : ActionTree) × (lookup (is_at (uid_cmp e.action)) actions ≡ Some a) × Contains a.principals e.principal × Contains a.resources e.resource
found_at actions up e m = let f = comes_from actions e m in (f.action, looked_up actions up e.action f.action f.listed, f.principal, f.resource)
