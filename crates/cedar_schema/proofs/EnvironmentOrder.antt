-- Environments ascend strictly by action, principal and resource.
use Rattle.std.proofs.Common.{◌≡◌, ℕ, List, [], ◌∷◌, ◌++◌, All, ap, ◌∙◌, Ordering, Less, Equal}
use Rattle.std.proofs.lemmas.Cmp.{nat_list_cmp_total, tied_itself}
use Rattle.std.proofs.lemmas.List.Elements.{All-head, All-tail}
use Rattle.std.specs.List.{AllByRecursion}
use Rattle.std.specs.List.Sorted.{IsStrictlySortedBy}
use Rattle.std.specs.Map.{keys_of, values_of}
use Rattle.std.specs.Ordering.{ordering_then}
use Rattle.cedar_value.specs.Order.{text_cmp, uid_cmp}
use Rattle.cedar_value.specs.Private.Laws.{uid_total}
use Rattle.cedar_value.specs.declared.uid.Uid.{Uid}
use Rattle.cedar_schema_types.specs.Types.{TypeTree}
use Rattle.cedar_schema_spec.specs.declared.environment.Environment.{Environment}
use Rattle.cedar_schema_spec.specs.SchemaTree.{SchemaTree, ActionTree, environments_of}
use Rattle.cedar_schema_spec.specs.Private.Environments.{with_principals, with_resources}
use Rattle.cedar_schema_spec.specs.WellFormed.{environment_cmp, AreEnvironmentsInOrder, AreListsDeclared, AreDeclaredTypes, IsListedInOrder}

-- ---- lists one after another

below_append : {A : Type 0} (P : A → Type 0) (xs ys : List A) → AllByRecursion P xs → AllByRecursion P ys → AllByRecursion P (xs ++ ys)
below_append P [] ys h g = g
below_append P (x ∷ xs) ys h g = (h.0, below_append P xs ys h.1 g)

-- each of the first is below all of the second
abbrev AllBelow : {A : Type 0} → (A → A → Ordering) → List A → List A → Type 0
AllBelow R xs ys = AllByRecursion (λ x. AllByRecursion (λ y. R x y ≡ Less) ys) xs

sorted_append : {A : Type 0} (R : A → A → Ordering) (xs ys : List A) → IsStrictlySortedBy R xs → IsStrictlySortedBy R ys → AllBelow R xs ys → IsStrictlySortedBy R (xs ++ ys)
unfolding IsStrictlySortedBy
sorted_append R [] ys up vp h = vp
sorted_append R (x ∷ xs) ys up vp h = (below_append (λ y. R x y ≡ Less) xs ys up.0 h.0, sorted_append R xs ys up.1 vp h.1)

-- ---- one comparison

then_less : (o p : Ordering) → o ≡ Equal → p ≡ Less → ordering_then o p ≡ Less
then_less o p e l = ap (λ (x : Ordering). ordering_then x p) e ∙ l

then_first : (o p : Ordering) → o ≡ Less → ordering_then o p ≡ Less
then_first o p l = ap (λ (x : Ordering). ordering_then x p) l

abbrev environment : Uid → TypeTree → List ℕ → List ℕ → Environment
environment u context p r = record { action = u; principal = p; resource = r; context = context }

module _ (u : Uid) (context : TypeTree) where
  same_action : uid_cmp u u ≡ Equal
  same_action = tied_itself uid_total u

  resource_less : (p r s : List ℕ) → text_cmp r s ≡ Less → environment_cmp (environment u context p r) (environment u context p s) ≡ Less
  resource_less p r s l = then_less (uid_cmp u u) (ordering_then (text_cmp p p) (text_cmp r s)) same_action (then_less (text_cmp p p) (text_cmp r s) (tied_itself nat_list_cmp_total p) l)

  principal_less : (p q r s : List ℕ) → text_cmp p q ≡ Less → environment_cmp (environment u context p r) (environment u context q s) ≡ Less
  principal_less p q r s l = then_less (uid_cmp u u) (ordering_then (text_cmp p q) (text_cmp r s)) same_action (then_first (text_cmp p q) (text_cmp r s) l)

  -- ---- the resources of one type of principals

  below_resources : (p r : List ℕ) (rs : List (List ℕ)) → AllByRecursion (λ s. text_cmp r s ≡ Less) rs → AllByRecursion (λ y. environment_cmp (environment u context p r) y ≡ Less) (with_resources u p context rs)
  below_resources p r [] h = tt
  below_resources p r (s ∷ rs) h = (resource_less p r s h.0, below_resources p r rs h.1)

  resources_sorted : (p : List ℕ) (rs : List (List ℕ)) → IsStrictlySortedBy text_cmp rs → IsStrictlySortedBy environment_cmp (with_resources u p context rs)
  unfolding IsStrictlySortedBy
  resources_sorted p [] up = tt
  resources_sorted p (r ∷ rs) up = (below_resources p r rs up.0, resources_sorted p rs up.1)

  below_principal : (p q r : List ℕ) (rs : List (List ℕ)) → text_cmp p q ≡ Less → AllByRecursion (λ y. environment_cmp (environment u context p r) y ≡ Less) (with_resources u q context rs)
  below_principal p q r [] l = tt
  below_principal p q r (s ∷ rs) l = (principal_less p q r s l, below_principal p q r rs l)

module _ (u : Uid) (a : ActionTree) where
  -- ---- the types of principals of one action

  below_principals : (p r : List ℕ) (ps : List (List ℕ)) → AllByRecursion (λ q. text_cmp p q ≡ Less) ps → AllByRecursion (λ y. environment_cmp (environment u a.context p r) y ≡ Less) (with_principals u a ps)
  below_principals p r [] h = tt
  below_principals p r (q ∷ ps) h =
      below_append (λ y. environment_cmp (environment u a.context p r) y ≡ Less) (with_resources u q a.context a.resources) (with_principals u a ps)
      (below_principal u a.context p q r a.resources h.0) (below_principals p r ps h.1)

  each_below : (p : List ℕ) (rs : List (List ℕ)) (ps : List (List ℕ)) → AllByRecursion (λ q. text_cmp p q ≡ Less) ps → AllBelow environment_cmp (with_resources u p a.context rs) (with_principals u a ps)
  each_below p [] ps h = tt
  each_below p (r ∷ rs) ps h = (below_principals p r ps h, each_below p rs ps h)

  principals_sorted : (ps : List (List ℕ)) → IsStrictlySortedBy text_cmp ps → IsStrictlySortedBy text_cmp a.resources → IsStrictlySortedBy environment_cmp (with_principals u a ps)
  unfolding IsStrictlySortedBy
  principals_sorted [] up rs = tt
  principals_sorted (p ∷ ps) up rs =
      sorted_append environment_cmp (with_resources u p a.context a.resources) (with_principals u a ps) (resources_sorted u a.context p a.resources rs) (principals_sorted ps up.1 rs) (each_below p a.resources ps up.0)

-- ---- the actions

action_less : (u v : Uid) (c d : TypeTree) (p q r s : List ℕ) → uid_cmp u v ≡ Less → environment_cmp (environment u c p r) (environment v d q s) ≡ Less
action_less u v c d p q r s l = then_first (uid_cmp u v) (ordering_then (text_cmp p q) (text_cmp r s)) l

module _ (u : Uid) (c : TypeTree) (p r : List ℕ) where
  abbrev IsAbove : Environment → Type 0
  IsAbove y = environment_cmp (environment u c p r) y ≡ Less

  above_resources : (v : Uid) (d : TypeTree) (q : List ℕ) (rs : List (List ℕ)) → uid_cmp u v ≡ Less → AllByRecursion IsAbove (with_resources v q d rs)
  above_resources v d q [] l = tt
  above_resources v d q (s ∷ rs) l = (action_less u v c d p q r s l, above_resources v d q rs l)

  above_principals : (v : Uid) (b : ActionTree) (ps : List (List ℕ)) → uid_cmp u v ≡ Less → AllByRecursion IsAbove (with_principals v b ps)
  above_principals v b [] l = tt
  above_principals v b (q ∷ ps) l =
      below_append IsAbove (with_resources v q b.context b.resources) (with_principals v b ps) (above_resources v b.context q b.resources l) (above_principals v b ps l)

  above_actions : (xs : List (Uid × ActionTree)) → AllByRecursion (λ v. uid_cmp u v ≡ Less) (keys_of xs) → AllByRecursion IsAbove (environments_of xs)
  above_actions [] h = tt
  above_actions (x ∷ xs) h = below_append IsAbove (with_principals x.0 x.1 (x.1).principals) (environments_of xs) (above_principals x.0 x.1 (x.1).principals h.0) (above_actions xs h.1)

module _ (u : Uid) (a : ActionTree) (xs : List (Uid × ActionTree)) (h : AllByRecursion (λ v. uid_cmp u v ≡ Less) (keys_of xs)) where
  resources_below : (p : List ℕ) (rs : List (List ℕ)) → AllBelow environment_cmp (with_resources u p a.context rs) (environments_of xs)
  resources_below p [] = tt
  resources_below p (r ∷ rs) = (above_actions u a.context p r xs h, resources_below p rs)

  principals_below : (ps : List (List ℕ)) → AllBelow environment_cmp (with_principals u a ps) (environments_of xs)
  principals_below [] = tt
  principals_below (p ∷ ps) =
      below_append (λ x. AllByRecursion (λ y. environment_cmp x y ≡ Less) (environments_of xs)) (with_resources u p a.context a.resources) (with_principals u a ps)
      (resources_below p a.resources) (principals_below ps)

environments_sorted : (s : SchemaTree) (xs : List (Uid × ActionTree)) → IsStrictlySortedBy uid_cmp (keys_of xs) → All (λ a. AreDeclaredTypes s a.principals × AreDeclaredTypes s a.resources) (values_of xs) → IsStrictlySortedBy environment_cmp (environments_of xs)
unfolding IsStrictlySortedBy
environments_sorted s [] up lists = tt
environments_sorted s (x ∷ xs) up lists =
    let here = All-head (λ (a : ActionTree). AreDeclaredTypes s a.principals × AreDeclaredTypes s a.resources) x.1 (values_of xs) lists in
    sorted_append environment_cmp (with_principals x.0 x.1 (x.1).principals) (environments_of xs) (principals_sorted x.0 x.1 (x.1).principals (here.0).0 (here.1).0)
    (environments_sorted s xs up.1 (All-tail (λ (a : ActionTree). AreDeclaredTypes s a.principals × AreDeclaredTypes s a.resources) x.1 (values_of xs) lists)) (principals_below x.0 x.1 xs up.0 (x.1).principals)

pub environments_in_order : (s : SchemaTree) → IsListedInOrder s → AreListsDeclared s → AreEnvironmentsInOrder s
environments_in_order s order lists = environments_sorted s s.actions order.1 lists
