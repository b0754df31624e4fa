-- Whether something is at an id.
use Rattle.std.proofs.Common.{◌≡◌, ℕ, Bool, true, false, ◌||◌, List, [], ◌∷◌, ◌++◌, Option, Some, cond, map, refl, sym, ap, subst, append_assoc, ◌∙◌, String, string_bytes}
use Rattle.std.specs.Prelude.{is_some, Contains}
use Rattle.std.specs.List.{list_any}
use Rattle.std.specs.List.Sorted.{IsPermutation}
use Rattle.std.specs.Map.{lookup}
use Rattle.std.specs.Str.{bytes_eq}
use Rattle.std.specs.declared.alloc.Global.{Global}
use Rattle.std.proofs.Math.Logic.{⊎_elim}
use Rattle.std.proofs.lemmas.Bool.{false_from_ne_true}
use Rattle.std.proofs.lemmas.List.{append-nil, map-append}
use Rattle.std.proofs.lemmas.List.Elements.{Contains-append_cases}
use Rattle.std.proofs.lemmas.List.Sorted.{IsPermutation-middle, IsPermutation-sym, IsPermutation-trans}
use Rattle.std.proofs.lemmas.Map.Keys.{IsDistinct-push, IsDistinct-IsPermutation}
use Rattle.std.proofs.lemmas.Map.Made.{AllPairs-from_IsDistinct, IsDistinct-from_AllPairs}
use Rattle.std.proofs.lemmas.Slice.Eq.{bytes_eq-Decides}
use Rattle.std.proofs.lemmas.Map.Views.{list_any-from_Contains, Contains-from_any}
use Rattle.cedar_value.specs.Private.Equality.{text_equivalence}
use Rattle.cedar_ast_expressions.specs.Keys.{AreDistinct}
use Rattle.cedar_ast.specs.Private.PolicyIds.{keys_of, values_in, StandAtTheirIds, AreById}
use Rattle.cedar_ast.specs.PolicyTree.{PolicyTree}
use Rattle.cedar_ast.specs.PolicyTree.{TemplateTree}

is_some-cond : {X : Type 0} (t : Bool) (x : X) (o : Option X) (b : Bool) → is_some o ≡ b → is_some (cond t (Some x) o) ≡ (t || b)
is_some-cond true x o b e = refl
is_some-cond false x o b e = e

found-list_any : {A : Type 0} (id : List ℕ) (es : List (String Global × A))
    → is_some (lookup (λ k. bytes_eq id (string_bytes k)) es) ≡ list_any (bytes_eq id) (keys_of es)
found-list_any id [] = refl
found-list_any id (e ∷ es) =
    is_some-cond (bytes_eq id (string_bytes e.0)) e.1 (lookup (λ k. bytes_eq id (string_bytes k)) es) _ (found-list_any id es)

-- an id at which something stands is one of the keys
pub Contains-found : {A : Type 0} (id : List ℕ) (es : List (String Global × A))
    → is_some (lookup (λ k. bytes_eq id (string_bytes k)) es) ≡ true → Contains (keys_of es) id
Contains-found id es found =
    Contains-from_any (λ x y. (bytes_eq-Decides x y).0) id (keys_of es) (sym (found-list_any id es) ∙ found)

-- and the other way round
pub found-Contains : {A : Type 0} (id : List ℕ) (es : List (String Global × A))
    → Contains (keys_of es) id → is_some (lookup (λ k. bytes_eq id (string_bytes k)) es) ≡ true
found-Contains id es here = found-list_any id es ∙ list_any-from_Contains text_equivalence id (keys_of es) here

-- what is in neither of two lists is not in the two together
pub in_neither : (xs ys : List (List ℕ)) (k : List ℕ) → (Contains xs k → ⊥) → (Contains ys k → ⊥) → Contains (xs ++ ys) k → ⊥
in_neither xs ys k no_left no_right here = ⊎_elim no_left no_right (Contains-append_cases xs ys k here)

-- ids of which none is repeated, with one more
pub distinct-push : (ks : List (List ℕ)) (k : List ℕ) → AreDistinct ks → (Contains ks k → ⊥) → AreDistinct (ks ++ k ∷ [])
distinct-push ks k apart absent =
    AllPairs-from_IsDistinct bytes_eq-Decides (ks ++ k ∷ []) (IsDistinct-push text_equivalence ks k (IsDistinct-from_AllPairs bytes_eq-Decides ks apart) free)
  where
    free : list_any (bytes_eq k) ks ≡ false
    free = false_from_ne_true _ (λ found. absent (Contains-from_any (λ x y. (bytes_eq-Decides x y).0) k ks found))

-- and with that one after the first of them
pub distinct-between : (xs ys : List (List ℕ)) (k : List ℕ) → AreDistinct (xs ++ ys) → (Contains (xs ++ ys) k → ⊥) → AreDistinct ((xs ++ k ∷ []) ++ ys)
distinct-between xs ys k apart absent =
    AllPairs-from_IsDistinct bytes_eq-Decides _ (IsDistinct-IsPermutation bytes_eq text_equivalence.symm _ _ moved
    (IsDistinct-from_AllPairs bytes_eq-Decides _ (distinct-push (xs ++ ys) k apart absent)))
  where
    first : IsPermutation ((xs ++ ys) ++ k ∷ []) (k ∷ (xs ++ ys))
    first = subst (λ zs. IsPermutation ((xs ++ ys) ++ k ∷ []) (k ∷ zs)) (append-nil (xs ++ ys)) (IsPermutation-middle (xs ++ ys) k [])

    moved : IsPermutation ((xs ++ ys) ++ k ∷ []) ((xs ++ k ∷ []) ++ ys)
    moved = IsPermutation-trans _ _ _ first (subst (λ zs. IsPermutation (k ∷ (xs ++ ys)) zs) (sym (append_assoc xs (k ∷ []) ys)) (IsPermutation-sym _ _ (IsPermutation-middle xs k ys)))

stand-push : {A : Type 0} (id : A → List ℕ) (es : List (String Global × A)) (key : String Global) (a : A) → StandAtTheirIds id es → string_bytes key ≡ id a
    → StandAtTheirIds id (es ++ (key, a) ∷ [])
stand-push id es key a stand same =
    let keys : keys_of (es ++ (key, a) ∷ []) ≡ keys_of es ++ string_bytes key ∷ [] = map-append (λ e. string_bytes e.0) es ((key, a) ∷ []) in
    let values : map id (values_in (es ++ (key, a) ∷ [])) ≡ map id (values_in es) ++ id a ∷ [] = ap (map id) (map-append (λ e. e.1) es ((key, a) ∷ [])) ∙ map-append id (values_in es) (a ∷ []) in
    rw (keys, values, stand, same) refl

-- one more policy, with an id that is free
pub AreById-policy : (ps : List (String Global × PolicyTree)) (ts : List (String Global × TemplateTree)) (key : String Global) (p : PolicyTree) → AreById ps ts
    → string_bytes key ≡ p.id → (Contains (keys_of ps) p.id → ⊥) → (Contains (keys_of ts) p.id → ⊥) → AreById (ps ++ (key, p) ∷ []) ts
AreById-policy ps ts key p all same no_policy no_template = record {
  policies = stand-push (λ q. q.id) ps key p all.policies same;
  templates = all.templates;
  distinct = subst (λ ks. AreDistinct (ks ++ map (λ t. t.id) (values_in ts))) (sym ids)
      (distinct-between _ _ p.id all.distinct (in_neither _ _ p.id (rw all.policies at no_policy) (rw all.templates at no_template)));
}
  where
    ids : map (λ (q : PolicyTree). q.id) (values_in (ps ++ (key, p) ∷ [])) ≡ map (λ (q : PolicyTree). q.id) (values_in ps) ++ p.id ∷ []
    ids = ap (map (λ (q : PolicyTree). q.id)) (map-append (λ e. e.1) ps ((key, p) ∷ [])) ∙ map-append (λ (q : PolicyTree). q.id) (values_in ps) (p ∷ [])

-- one more template
pub AreById-template : (ps : List (String Global × PolicyTree)) (ts : List (String Global × TemplateTree)) (key : String Global) (t : TemplateTree) → AreById ps ts
    → string_bytes key ≡ t.id → (Contains (keys_of ps) t.id → ⊥) → (Contains (keys_of ts) t.id → ⊥) → AreById ps (ts ++ (key, t) ∷ [])
AreById-template ps ts key t all same no_policy no_template = record {
  policies = all.policies;
  templates = stand-push (λ u. u.id) ts key t all.templates same;
  distinct = subst AreDistinct (append_assoc (map (λ (q : PolicyTree). q.id) (values_in ps)) (map (λ (u : TemplateTree). u.id) (values_in ts)) (t.id ∷ []) ∙ ap (λ ks. map (λ (q : PolicyTree). q.id) (values_in ps) ++ ks) (sym ids))
      (distinct-push _ t.id all.distinct (in_neither _ _ t.id (rw all.policies at no_policy) (rw all.templates at no_template)));
}
  where
    ids : map (λ (u : TemplateTree). u.id) (values_in (ts ++ (key, t) ∷ [])) ≡ map (λ (u : TemplateTree). u.id) (values_in ts) ++ t.id ∷ []
    ids = ap (map (λ (u : TemplateTree). u.id)) (map-append (λ e. e.1) ts ((key, t) ∷ [])) ∙ map-append (λ (u : TemplateTree). u.id) (values_in ts) (t ∷ [])
