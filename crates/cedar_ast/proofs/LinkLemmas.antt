-- What is at an id, and which templates have no link.
use Rattle.std.proofs.Common.{◌≡◌, ℕ, Bool, true, false, List, [], ◌∷◌, map, Option, Some, None, cond, refl, sym, ap, ◌∙◌, arith, String, string_bytes, inl, inr}
use Rattle.std.specs.Prelude.{Contains, is_some, ok_or, IfOk, IfErr}
use Rattle.std.specs.Map.{lookup}
use Rattle.std.specs.Str.{bytes_eq}
use Rattle.std.specs.declared.alloc.Global.{Global}
use Rattle.std.proofs.lemmas.List.{get_or-map, length-map}
use Rattle.std.proofs.lemmas.List.Elements.{Contains-append_right}
use Rattle.std.proofs.lemmas.Slice.Eq.{bytes_eq-Decides}
use Rattle.cedar_value.specs.declared.uid.Uid.{Uid}
use Rattle.cedar_ast.specs.declared.scope.EntityScope.{EntityScope}
use Rattle.cedar_ast.specs.declared.scope.EntityScope.TheVariants as entity
use Rattle.cedar_ast.specs.declared.scope.Scope.{Scope}
use Rattle.cedar_ast.specs.declared.slots.Slots.{Slots}
use Rattle.cedar_ast.specs.declared.entity_reference.EntityReference.{EntityReference}
use Rattle.cedar_ast.specs.declared.entity_reference.EntityReference.TheVariants.{Entity, Slot}
use Rattle.cedar_ast.specs.PolicySetTree.{PolicySetTree}
use Rattle.cedar_ast.specs.PolicyTree.{PolicyTree, TemplateTree}
use Rattle.cedar_ast.specs.LinkFault.{number_of}
use Rattle.cedar_ast.specs.declared.link_fault.LinkFault.TheVariants.{MissingSlot}
use Rattle.cedar_ast.specs.Linking.{entity_scope_linked, scope_linked, link_of, IsTemplate, IsMissing, HasMissingSlot, HasExtraSlot, IsLinkIn}
use Rattle.cedar_ast.specs.Private.PolicyIds.{keys_of, values_in, StandAtTheirIds}
use Rattle.cedar_ast.proofs.PolicyIdLemmas.{found-Contains}

-- what is found at an id is one of the values, and has that id
pub found-value : {A : Type 0} (id : A → List ℕ) (es : List (String Global × A)) (k : List ℕ) (a : A) → StandAtTheirIds id es
    → lookup (λ key. bytes_eq k (string_bytes key)) es ≡ Some a → Contains (values_in es) a × (id a ≡ k)
found-value id [] k a stand found = cc
found-value {A} id (e ∷ es) k a stand found =
    by (bytes_eq k (string_bytes e.0)) refl found (let rest : keys_of es ≡ map id (values_in es) = cc in found-value id es k a rest)
  where
    by : (b : Bool) → bytes_eq k (string_bytes e.0) ≡ b → cond b (Some e.1) (lookup (λ key. bytes_eq k (string_bytes key)) es) ≡ Some a
        → (lookup (λ key. bytes_eq k (string_bytes key)) es ≡ Some a → Contains (values_in es) a × (id a ≡ k))
        → Contains (values_in (e ∷ es)) a × (id a ≡ k)
    by true same here rest =
        let first : string_bytes e.0 ≡ id e.1 = cc in
        let value : e.1 ≡ a = cc in
        let key : k ≡ string_bytes e.0 = (bytes_eq-Decides k (string_bytes e.0)).0 same in
        ((0, omega arith, value), (cc))
    by false same here rest = (Contains-append_right (e.1 ∷ []) (values_in es) a (rest here).0, (rest here).1)

Contains-map : {A B : Type 0} (f : A → B) (xs : List A) (x : A) → Contains xs x → Contains (map f xs) (f x)
Contains-map f xs x here =
    (here.0, omega (arith, length-map xs f), get_or-map f xs here.0 x (f x) here.1 ∙ ap f here.2)

-- where nothing is found at an id, none of the values has it
pub absent-value : {A : Type 0} (id : A → List ℕ) (es : List (String Global × A)) (k : List ℕ) (a : A) → StandAtTheirIds id es
    → lookup (λ key. bytes_eq k (string_bytes key)) es ≡ None → Contains (values_in es) a → id a ≡ k → ⊥
absent-value id es k a stand none here same =
    let key : Contains (keys_of es) k = rw (stand, ← same) (Contains-map id (values_in es) a here) in
    let found = found-Contains k es key in
    cc (ap is_some none)

no_scope : (s : EntityScope EntityReference) (given : Option Uid) → entity_scope_linked s given ≡ None → IsMissing s given
no_scope entity.Any given none = cc
no_scope (entity.Equal (Entity u)) given none = cc
no_scope (entity.Equal Slot) (Some u) none = cc
no_scope (entity.In (Entity u)) given none = cc
no_scope (entity.In Slot) (Some u) none = cc
no_scope (entity.Is ty) given none = cc
no_scope (entity.IsIn ty (Entity u)) given none = cc
no_scope (entity.IsIn ty Slot) (Some u) none = cc
no_scope _ None none = (refl, refl)

-- a template without a link lacks a uid for one of its slots
pub no_link : (t : TemplateTree) (id : List ℕ) (slots : Slots) → link_of t id slots ≡ None → HasMissingSlot t slots
no_link t id slots none = by (entity_scope_linked t.scope.principal slots.principal) (entity_scope_linked t.scope.resource slots.resource) refl refl
  where
    by : (p r : Option (EntityScope Uid)) → entity_scope_linked t.scope.principal slots.principal ≡ p → entity_scope_linked t.scope.resource slots.resource ≡ r → HasMissingSlot t slots
    by None r is_p is_r = inl (no_scope t.scope.principal slots.principal is_p)
    by (Some p) None is_p is_r = inr (no_scope t.scope.resource slots.resource is_r)
    by (Some p) (Some r) is_p is_r = let there = rw (is_p, is_r) at none in cc

-- what is answered for a link, or where there is none
pub linked-ok : (set : PolicySetTree) (template id : List ℕ) (slots : Slots) (t : TemplateTree) (o : Option PolicyTree) → IsTemplate set template t
    → (HasExtraSlot t slots → ⊥) → o ≡ link_of t id slots → IfOk (ok_or o MissingSlot) (IsLinkIn set template id slots)
linked-ok set template id slots t None there exact is = tt
linked-ok set template id slots t (Some p) there exact is = record { source = t; found = there; linked = sym is; exact = exact }

pub linked-missing : (set : PolicySetTree) (template id : List ℕ) (slots : Slots) (t : TemplateTree) (o : Option PolicyTree) → IsTemplate set template t
    → o ≡ link_of t id slots → IfErr (ok_or o MissingSlot) (λ fault. number_of fault ≡ 211 → (x : TemplateTree) × IsTemplate set template x × HasMissingSlot x slots)
linked-missing set template id slots t None there is = λ _. (t, there, no_link t id slots (sym is))
linked-missing set template id slots t (Some p) there is = tt

-- a link has its own id
pub link-id : (t : TemplateTree) (id : List ℕ) (slots : Slots) (p : PolicyTree) → link_of t id slots ≡ Some p → p.id ≡ id
link-id t id slots p is = by (scope_linked t.scope slots) refl
  where
    by : (s : Option (Scope Uid Uid)) → scope_linked t.scope slots ≡ s → p.id ≡ id
    by None none = let there = rw none at is in cc
    by (Some s) some = let there = rw some at is in cc
