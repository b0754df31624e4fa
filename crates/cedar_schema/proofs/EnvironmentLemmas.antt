-- Which environments there are, and which types actions have.
use Rattle.std.proofs.Common.{◌≡◌, ◌↔◌, ℕ, Bool, true, false, cond, ◌&&◌, ◌⊎◌, inl, inr, List, [], ◌∷◌, ◌++◌, All, Contains, IsTrue, Some, None, refl, sym, ap, subst, ◌∙◌}
use Rattle.std.proofs.lemmas.Cmp.{eq_by_cmp_equiv, nat_list_cmp_total}
use Rattle.std.proofs.lemmas.List.Elements.{All-nil, All-contains}
use Rattle.std.proofs.lemmas.Map.Keys.{IsDistinct-from_sorted}
use Rattle.std.proofs.lemmas.Map.Views.{Contains-from_any, list_any-from_Contains, lookup-from_Contains, tells_apart}
use Rattle.std.specs.BTreeMap.{is_at}
use Rattle.std.specs.BTreeSet.{BTreeSet, contains, insert_key}
use Rattle.std.specs.List.{list_any}
use Rattle.std.specs.List.Sorted.{IsStrictlySortedBy}
use Rattle.std.specs.Map.{keys_of, lookup}
use Rattle.base_reach.proofs.Listed.{here, there, first_or_later, nowhere, mapped, from_mapped, both_true}
use Rattle.cedar_value.specs.Order.{text_cmp, uid_cmp}
use Rattle.cedar_value.specs.Private.Laws.{uid_total}
use Rattle.cedar_value.specs.Private.Same.{text_same, uid_same}
use Rattle.cedar_value.specs.declared.uid.Uid.{Uid}
use Rattle.cedar_schema_types.specs.Types.{TypeTree}
use Rattle.cedar_schema_spec.specs.declared.environment.Environment.{Environment}
use Rattle.cedar_schema_spec.specs.SchemaTree.{ActionTree, environments_of, HasEnvironment, HasNoEnvironment}
use Rattle.cedar_schema_spec.specs.Private.Environments.{with_principals, with_resources}
use Rattle.cedar_schema.specs.Private.Kept.{types_onto, HasTypes}
use Rattle.cedar_schema.proofs.InsertedKeys.{all_keys, kept_key, new_key}

-- ---- a list of names

pub name_in : (r : Bool) (ns : List (List ℕ)) (n : List ℕ) → r ≡ list_any (is_at (text_cmp n)) ns → IsTrue r ↔ Contains ns n
name_in r ns n is = (
  λ h. Contains-from_any (tells_apart {R = text_cmp} text_same) n ns (sym is ∙ h),
  λ m. is ∙ list_any-from_Contains (eq_by_cmp_equiv nat_list_cmp_total) n ns m,
)

both : (b c : Bool) → b ≡ true → c ≡ true → (b && c) ≡ true
both b c p q = ap (λ x. x && c) p ∙ q

pub names_in : (r a b : Bool) (ps rs : List (List ℕ)) (p q : List ℕ) → r ≡ (a && b) → a ≡ list_any (is_at (text_cmp p)) ps → b ≡ list_any (is_at (text_cmp q)) rs → IsTrue r ↔ (Contains ps p × Contains rs q)
names_in r a b ps rs p q is pa qb = (
  λ h. let t = both_true a b (sym is ∙ h) in ((name_in a ps p pa).0 t.0, (name_in b rs q qb).0 t.1),
  λ m. is ∙ both a b ((name_in a ps p pa).1 m.0) ((name_in b rs q qb).1 m.1),
)

pub first_holds : (a b : Bool) → a ≡ true → b ≡ (a && b)
first_holds a b e = ap (λ x. x && b) (sym e)

pub first_fails : (a b : Bool) → a ≡ false → a ≡ (a && b)
first_fails a b e = e ∙ ap (λ x. x && b) (sym e)

-- ---- the types of actions

kept_type : {B : Type 0} (es : List (Uid × B)) (before : List (List ℕ)) (n : List ℕ) → Contains before n → Contains (types_onto before es) n
kept_type [] before n h = h
kept_type (e ∷ es) before n h = kept_type es (insert_key text_cmp before (e.0).ty) n (kept_key text_cmp (e.0).ty n before h)

type_there : {B : Type 0} (es : List (Uid × B)) (before : List (List ℕ)) (u : Uid) → Contains (keys_of es) u → Contains (types_onto before es) u.ty
type_there [] before u h = absurd (nowhere u h)
type_there (e ∷ es) before u h = elim (first_or_later e.0 (keys_of es) u h) [
  | inl same ↦ subst (λ (x : Uid). Contains (types_onto (insert_key text_cmp before (e.0).ty) es) x.ty) same (kept_type es (insert_key text_cmp before (e.0).ty) (e.0).ty (new_key text_cmp text_same (e.0).ty before))
  | inr later ↦ type_there es (insert_key text_cmp before (e.0).ty) u later
]

abbrev HasType : List Uid → List ℕ → Type 0
HasType uids n = (u : Uid) × Contains uids u × (u.ty ≡ n)

all_types : {B : Type 0} (uids : List Uid) (es : List (Uid × B)) (before : List (List ℕ)) → ((u : Uid) → Contains (keys_of es) u → Contains uids u) → All (HasType uids) before → All (HasType uids) (types_onto before es)
all_types uids [] before among h = h
all_types uids (e ∷ es) before among h =
    all_types uids es (insert_key text_cmp before (e.0).ty) (λ u m. among u (there e.0 (keys_of es) u m))
    (all_keys text_cmp (HasType uids) (e.0).ty before (e.0, among e.0 (here e.0 (keys_of es)), refl) h)

pub has_types : {B : Type 0} (es : List (Uid × B)) (s : BTreeSet (List ℕ)) → s.keys ≡ types_onto [] es → HasTypes (keys_of es) s
has_types es s is n =
    let in_keys = name_in (contains text_cmp s n) s.keys n refl in (
      λ h. All-contains (HasType (keys_of es)) s.keys n (subst (λ (ks : List (List ℕ)). All (HasType (keys_of es)) ks) (sym is) (all_types (keys_of es) es [] (λ u m. m) (All-nil (HasType (keys_of es))))) (in_keys.0 h),
      λ t. in_keys.1 (subst (λ (ks : List (List ℕ)). Contains ks n) (sym is) (subst (λ (m : List ℕ). Contains (types_onto [] es) m) t.2 (type_there es [] t.0 t.1))),
    )

-- ---- environments

left_of : {A : Type 0} (xs ys : List A) (y : A) → Contains xs y → Contains (xs ++ ys) y
left_of [] ys y m = absurd (nowhere y m)
left_of (x ∷ xs) ys y m = elim (first_or_later x xs y m) [ inl e ↦ subst (λ z. Contains (x ∷ (xs ++ ys)) z) e (here x (xs ++ ys)) | inr r ↦ there x (xs ++ ys) y (left_of xs ys y r) ]

right_of : {A : Type 0} (xs ys : List A) (y : A) → Contains ys y → Contains (xs ++ ys) y
right_of [] ys y m = m
right_of (x ∷ xs) ys y m = there x (xs ++ ys) y (right_of xs ys y m)

one_side : {A : Type 0} (xs ys : List A) (y : A) → Contains (xs ++ ys) y → Contains xs y ⊎ Contains ys y
one_side [] ys y m = inr m
one_side (x ∷ xs) ys y m = elim (first_or_later x (xs ++ ys) y m) [
  | inl e ↦ inl (subst (λ z. Contains (x ∷ xs) z) e (here x xs))
  | inr r ↦ elim (one_side xs ys y r) [ inl a ↦ inl (there x xs y a) | inr b ↦ inr b ]
]

resource_there : (u : Uid) (t : TypeTree) (p : List ℕ) (rs : List (List ℕ)) (r : List ℕ) → Contains rs r → Contains (with_resources u p t rs) (record { action = u; principal = p; resource = r; context = t })
resource_there u t p rs r m = mapped (λ (x : List ℕ). record { action = u; principal = p; resource = x; context = t }) rs r m

principal_there : (u : Uid) (a : ActionTree) (ps : List (List ℕ)) (p r : List ℕ) → Contains ps p → Contains a.resources r → Contains (with_principals u a ps) (record { action = u; principal = p; resource = r; context = a.context })
principal_there u a [] p r m n = absurd (nowhere p m)
principal_there u a (q ∷ ps) p r m n = elim (first_or_later q ps p m) [
  | inl same ↦ subst (λ (x : List ℕ). Contains (with_principals u a (q ∷ ps)) (record { action = u; principal = x; resource = r; context = a.context })) same
      (left_of (with_resources u q a.context a.resources) (with_principals u a ps) _ (resource_there u a.context q a.resources r n))
  | inr later ↦ right_of (with_resources u q a.context a.resources) (with_principals u a ps) _ (principal_there u a ps p r later n)
]

-- the environment of an action that applies to the types
pub environment_there : (actions : List (Uid × ActionTree)) (u : Uid) (a : ActionTree) (p r : List ℕ) → lookup (is_at (uid_cmp u)) actions ≡ Some a → Contains a.principals p → Contains a.resources r → HasEnvironment actions u p r a.context
environment_there [] u a p r h m n = cc
environment_there (x ∷ xs) u a p r h m n = at (is_at (uid_cmp u) x.0) refl (λ g. environment_there xs u a p r g m n) h
  where
    at : (b : Bool) → is_at (uid_cmp u) x.0 ≡ b → (lookup (is_at (uid_cmp u)) xs ≡ Some a → HasEnvironment xs u p r a.context) → cond b (Some x.1) (lookup (is_at (uid_cmp u)) xs) ≡ Some a → HasEnvironment (x ∷ xs) u p r a.context
    at true e rest g =
        let same : u ≡ x.0 = tells_apart {R = uid_cmp} uid_same u x.0 e in
        let tree : x.1 ≡ a = cc in
        subst (λ (v : Uid). HasEnvironment (x ∷ xs) v p r a.context) (sym same)
        (subst (λ (b : ActionTree). HasEnvironment (x ∷ xs) x.0 p r b.context) tree
        (left_of (with_principals x.0 x.1 (x.1).principals) (environments_of xs) _
        (principal_there x.0 x.1 (x.1).principals p r (subst (λ (b : ActionTree). Contains b.principals p) (sym tree) m) (subst (λ (b : ActionTree). Contains b.resources r) (sym tree) n))))
    at false e rest g = right_of (with_principals x.0 x.1 (x.1).principals) (environments_of xs) _ (rest g)

-- what an environment comes from
record ComesFrom (actions : List (Uid × ActionTree)) (e : Environment) : Type 0 where
  action : ActionTree
  listed : Contains actions (e.action, action)
  principal : Contains action.principals e.principal
  resource : Contains action.resources e.resource

from_resources : (u : Uid) (t : TypeTree) (p : List ℕ) (rs : List (List ℕ)) (e : Environment) → Contains (with_resources u p t rs) e → (e.action ≡ u) × (e.principal ≡ p) × Contains rs e.resource
from_resources u t p rs e m =
    let (r, there_is, same) = from_mapped (λ (x : List ℕ). record { action = u; principal = p; resource = x; context = t }) rs e m in
    (ap (λ (x : Environment). x.action) (sym same), ap (λ (x : Environment). x.principal) (sym same), subst (λ (x : Environment). Contains rs x.resource) same there_is)

from_principals : (u : Uid) (a : ActionTree) (ps : List (List ℕ)) (e : Environment) → Contains (with_principals u a ps) e → (e.action ≡ u) × Contains ps e.principal × Contains a.resources e.resource
from_principals u a [] e m = absurd (nowhere e m)
from_principals u a (p ∷ ps) e m = elim (one_side (with_resources u p a.context a.resources) (with_principals u a ps) e m) [
  | inl first ↦ (let f = from_resources u a.context p a.resources e first in (f.0, subst (λ (x : List ℕ). Contains (p ∷ ps) x) (sym f.1) (here p ps), f.2))
  | inr later ↦ (let f = from_principals u a ps e later in (f.0, there p ps e.principal f.1, f.2))
]

comes_from : (actions : List (Uid × ActionTree)) (e : Environment) → Contains (environments_of actions) e → ComesFrom actions e
comes_from [] e m = absurd (nowhere e m)
comes_from (x ∷ xs) e m = elim (one_side (with_principals x.0 x.1 (x.1).principals) (environments_of xs) e m) [
  | inl first ↦ (let f = from_principals x.0 x.1 (x.1).principals e first in
      record { action = x.1; listed = subst (λ (u : Uid). Contains (x ∷ xs) (u, x.1)) (sym f.0) (here x xs); principal = f.1; resource = f.2 })
  | inr later ↦ (let f = comes_from xs e later in record { action = f.action; listed = there x xs (e.action, f.action) f.listed; principal = f.principal; resource = f.resource })
]

module _ (actions : List (Uid × ActionTree)) (up : IsStrictlySortedBy uid_cmp (keys_of actions)) where
  found_at : (e : Environment) → Contains (environments_of actions) e → (a : ActionTree) × (lookup (is_at (uid_cmp e.action)) actions ≡ Some a) × Contains a.principals e.principal × Contains a.resources e.resource
  found_at e m =
      let f = comes_from actions e m in
      (f.action, lookup-from_Contains (eq_by_cmp_equiv uid_total) e.action f.action actions (IsDistinct-from_sorted uid_cmp (keys_of actions) up) f.listed, f.principal, f.resource)

  pub none_declared : (u : Uid) (p r : List ℕ) → lookup (is_at (uid_cmp u)) actions ≡ None → HasNoEnvironment actions u p r
  none_declared u p r none t m =
      let f = found_at (record { action = u; principal = p; resource = r; context = t }) m in
      let some : lookup (is_at (uid_cmp u)) actions ≡ Some f.0 = f.1 in cc

  pub not_applied : (u : Uid) (a : ActionTree) (p r : List ℕ) → lookup (is_at (uid_cmp u)) actions ≡ Some a → (Contains a.principals p × Contains a.resources r → ⊥) → HasNoEnvironment actions u p r
  not_applied u a p r h never t m =
      let f = found_at (record { action = u; principal = p; resource = r; context = t }) m in
      let some : Some f.0 ≡ Some a = sym f.1 ∙ h in
      let same : f.0 ≡ a = cc in
      never (subst (λ (x : ActionTree). Contains x.principals p) same f.2, subst (λ (x : ActionTree). Contains x.resources r) same f.3)
