-- The type of a record from attributes in any order: it is the one that putting each in its place makes.
use Rattle.std.proofs.Common.{◌≡◌, ◌↔◌, ℕ, suc, ◌+◌, ◌<◌, List, [], ◌∷◌, ◌++◌, length, get_or, take, drop, drop-cons, map, Contains, ⊎_elim, refl, sym, ap, ap₂, subst, ◌∙◌, arith}
use Rattle.std.proofs.Math.ListN.{length-map, get_or-map}
use Rattle.std.proofs.lemmas.Cmp.{nat_list_cmp_total}
use Rattle.std.proofs.lemmas.List.{get_or-take, length-take, map-append, take-append-drop, take_more}
use Rattle.std.proofs.lemmas.List.Elements.{Contains-append_left, Contains-push, Contains-push_cases}
use Rattle.std.proofs.lemmas.List.Sorted.{Contains-permutation, IsPermutation-middle, IsPermutation-sym}
use Rattle.std.specs.declared.cmp.Ordering.TheVariants.{Less, Greater}
use Rattle.std.specs.Ordering.{ordering_reverse}
use Rattle.std.specs.List.{AllByRecursion}
use Rattle.std.specs.List.Sorted.{IsStrictlySortedBy, IsPermutation}
use Rattle.base_reach.proofs.Listed.{first_or_later, mapped, nowhere, there, here}
use Rattle.cedar_ast_expressions.specs.Expression.{Expression}
use Rattle.cedar_ast_expressions.specs.Keys.{AreDistinct, keys_of}
use Rattle.cedar_check_spec.proofs.Made.{distinct_head}
use Rattle.cedar_value.specs.Order.{text_cmp}
use Rattle.cedar_value.proofs.ByKeys.{distinct-ascending}
use Rattle.cedar_schema_types.specs.Types.{Attributes, attribute, no_attributes}
use Rattle.cedar_schema_types.specs.TypeKind.{attributes_of}
use Rattle.cedar_schema_types.specs.Ordered.{AreNamesAscending, IsRecordOf, with_attribute}
use Rattle.cedar_schema_types.specs.declared.attribute.Attribute.{Attribute}
use Rattle.cedar_schema_types.proofs.Names.{name_of}

-- the same attributes are in both lists
abbrev Same : List Attribute → List Attribute → Type 0
Same as' bs = (x : Attribute) → Contains as' x ↔ Contains bs x

-- it has the attributes of the list, in the order of their names
abbrev pub IsMade : Attributes → List Attribute → Type 0
IsMade at as' = (sorted : List Attribute) → Same as' sorted → AreNamesAscending sorted → at ≡ attributes_of sorted

module _ (P : List ℕ → Type 0) where
  at_one : (p q : List Attribute) (a : Attribute) → AllByRecursion P (map name_of (p ++ a ∷ q)) → P a.name
  at_one [] q a all = all.0
  at_one (b ∷ p) q a all = at_one p q a all.1

  at_others : (p q : List Attribute) (a : Attribute) → AllByRecursion P (map name_of (p ++ a ∷ q)) → AllByRecursion P (map name_of (p ++ q))
  at_others [] q a all = all.1
  at_others (b ∷ p) q a all = (all.0, at_others p q a all.1)

others_up : (p q : List Attribute) (a : Attribute) → AreNamesAscending (p ++ a ∷ q) → AreNamesAscending (p ++ q)
unfolding IsStrictlySortedBy
others_up [] q a up = up.1
others_up (b ∷ p) q a up = (at_others (λ k. text_cmp b.name k ≡ Less) p q a up.0, others_up p q a up.1)

-- it goes to its place among the others
placed : (p q : List Attribute) (a : Attribute) → AreNamesAscending (p ++ a ∷ q) → with_attribute a.name a.required a.ty (attributes_of (p ++ q)) ≡ attributes_of (p ++ a ∷ q)
unfolding IsStrictlySortedBy
placed [] [] a up = refl
placed [] (b ∷ q) a up = rw up.0.0 refl
placed (b ∷ p) q a up =
    let greater : text_cmp a.name b.name ≡ Greater = nat_list_cmp_total.antisymm a.name b.name ∙ ap ordering_reverse (at_one (λ k. text_cmp b.name k ≡ Less) p q a up.0) in
    rw greater (ap (attribute b.name b.required b.ty) (placed p q a up.1))

-- among the others none has its name
apart : (p q : List Attribute) (a x : Attribute) → AreNamesAscending (p ++ a ∷ q) → Contains (p ++ q) x → a.name ≡ x.name → ⊥
apart p q a x up m =
    let moved : IsPermutation (a ∷ (p ++ q)) (p ++ a ∷ q) = IsPermutation-sym (p ++ a ∷ q) (a ∷ (p ++ q)) (IsPermutation-middle p a q) in
    distinct_head a.name x.name (map name_of (p ++ q)) (distinct-ascending name_of (a ∷ (p ++ q)) (p ++ a ∷ q) moved up) (mapped name_of (p ++ q) x m)

between : (at : Attributes) (as' p q : List Attribute) (a : Attribute) → (Contains (map name_of as') a.name → ⊥) → IsMade at as' → Same (as' ++ a ∷ []) (p ++ a ∷ q) → AreNamesAscending (p ++ a ∷ q)
    → with_attribute a.name a.required a.ty at ≡ attributes_of (p ++ a ∷ q)
between at as' p q a fresh made same up = ap (with_attribute a.name a.required a.ty) (made (p ++ q) (λ x. (to x, from x)) (others_up p q a up)) ∙ placed p q a up
  where
    middle : IsPermutation (p ++ a ∷ q) (a ∷ (p ++ q))
    middle = IsPermutation-middle p a q

    to : (x : Attribute) → Contains as' x → Contains (p ++ q) x
    to x m =
        ⊎_elim
        (λ e. absurd (fresh (subst (λ (y : Attribute). Contains (map name_of as') y.name) (sym e) (mapped name_of as' x m))))
        (λ later. later)
        (first_or_later a (p ++ q) x (Contains-permutation (p ++ a ∷ q) (a ∷ (p ++ q)) x middle ((same x).0 (Contains-append_left as' (a ∷ []) x m))))

    from : (x : Attribute) → Contains (p ++ q) x → Contains as' x
    from x m =
        ⊎_elim
        (λ before. before)
        (λ e. absurd (apart p q a x up m (ap name_of e)))
        (Contains-push_cases as' a x ((same x).1 (Contains-permutation (a ∷ (p ++ q)) (p ++ a ∷ q) x (IsPermutation-sym (p ++ a ∷ q) (a ∷ (p ++ q)) middle) (there a (p ++ q) x m))))

pub none_made : IsMade no_attributes []
none_made [] same up = refl
none_made (a ∷ as') same up = absurd (nowhere a ((same a).1 (here a as')))

-- one more, whose name is new
pub one_more_made : (at : Attributes) (as' : List Attribute) (a : Attribute) → (Contains (map name_of as') a.name → ⊥) → IsMade at as' → IsMade (with_attribute a.name a.required a.ty at) (as' ++ a ∷ [])
one_more_made at as' a fresh made sorted same up =
    let m : Contains sorted a = (same a).0 (Contains-push as' a) in
    let p = take m.0 sorted in
    let q = drop (suc m.0) sorted in
    let e : sorted ≡ p ++ a ∷ q = sym (take-append-drop m.0 sorted) ∙ ap (λ (xs : List Attribute). p ++ xs) (drop-cons sorted m.0 a m.1 ∙ ap (λ (x : Attribute). x ∷ q) m.2) in
    between at as' p q a fresh made (subst (Same (as' ++ a ∷ [])) e same) (subst AreNamesAscending e up) ∙ ap attributes_of (sym e)

-- the record type of a list is what is made of it
pub record_made : (at : Attributes) (as' : List Attribute) (r : Attributes) → IsMade at as' → IsRecordOf as' r → r ≡ at
record_made at as' r made (sorted, moved, up, is) =
    is ∙ sym (made sorted (λ x. (Contains-permutation as' sorted x moved, Contains-permutation sorted as' x (IsPermutation-sym as' sorted moved))) up)

-- ---- their names are the keys of the entries that were passed

pub one_more_name : (ps : List (List ℕ × Expression)) (as' : List Attribute) (a : Attribute) (i : ℕ) (p : List ℕ × Expression) → i < length ps → p ≡ get_or ps i p → a.name ≡ p.0
    → map name_of as' ≡ take i (keys_of ps) → map name_of (as' ++ a ∷ []) ≡ take (i + 1) (keys_of ps)
one_more_name ps as' a i p lt is name names =
    map-append name_of as' (a ∷ [])
    ∙ ap₂ (λ (ks : List (List ℕ)) (k : List ℕ). ks ++ k ∷ []) names (name ∙ ap (λ (q : List ℕ × Expression). q.0) is ∙ sym (get_or-map (λ q. q.0) ps i p))
    ∙ sym (take_more (keys_of ps) i p.0 (rw length-map lt))

pub key_new : (ps : List (List ℕ × Expression)) (i : ℕ) (p : List ℕ × Expression) → AreDistinct (keys_of ps) → i < length ps → p ≡ get_or ps i p → Contains (take i (keys_of ps)) p.0 → ⊥
key_new ps i p distinct lt is (j, within, same) =
    let below : j < i = omega (arith, length-take i (keys_of ps)) in
    distinct j i p.0 below (rw length-map lt) (sym (get_or-take i (keys_of ps) j p.0 below) ∙ same ∙ ap (λ (q : List ℕ × Expression). q.0) is ∙ sym (get_or-map (λ q. q.0) ps i p))
