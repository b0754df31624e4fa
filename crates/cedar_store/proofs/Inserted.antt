-- Lists of changes in the order of their hashes and uids, and a change more in such a list.
--     inserted      the list with a change more
--     told      what a list says at a hash and a uid
--     inserted-placed, told-placed      both, at a list with a known change in its middle
--     AreAscending-inserted, EachKeyed-inserted      what is so after one change more
use Rattle.std.proofs.Common.{◌≡◌, List, [], ◌∷◌, ◌++◌, Option, Some, None, refl, sym, ap, ◌∙◌}
use Rattle.std.proofs.lemmas.Cmp.{on_total, then_total, nat_cmp_total, alike_right}
use Rattle.std.specs.Cmp.{IsTotalOrder}
use Rattle.std.specs.Ordering.{ordering_reverse}
use Rattle.std.specs.declared.cmp.Ordering.{Ordering}
use Rattle.std.specs.declared.cmp.Ordering.TheVariants.{Less, Equal, Greater}
use Rattle.cedar_value.specs.Private.Laws.{uid_total}
use Rattle.cedar_store.specs.Private.Branches.{Keyed, key_cmp, by_order, EachKeyed, AreAscending}
use Rattle.cedar_store.specs.Private.Changing.{ChangeTree}

-- ---- the order of changes

abbrev pub keyed_cmp : Keyed → Keyed → Ordering
keyed_cmp d e = key_cmp d.hash d.change.uid e

pub keyed_total : IsTotalOrder keyed_cmp
keyed_total = then_total (on_total (λ (e : Keyed). e.hash) nat_cmp_total) (on_total (λ (e : Keyed). e.change.uid) uid_total)

after : (d e : Keyed) → keyed_cmp e d ≡ Less → keyed_cmp d e ≡ Greater
after d e less = keyed_total.antisymm d e ∙ ap ordering_reverse less

before : (d e : Keyed) → keyed_cmp d e ≡ Greater → keyed_cmp e d ≡ Less
before d e more = keyed_total.antisymm e d ∙ ap ordering_reverse more

-- what is before x is before each d that is not before x
skipped_by : (d x e : Keyed) (o : Ordering) → keyed_cmp d x ≡ o → (o ≡ Less → ⊥) → keyed_cmp e x ≡ Less → keyed_cmp d e ≡ Greater
skipped_by d x e Less is not_less less = absurd (not_less refl)
skipped_by d x e Equal is not_less less = after d e (alike_right keyed_total d x e is ∙ less)
skipped_by d x e Greater is not_less less = after d e (keyed_total.trans e x d less (before d x is))

-- ---- one of three

pub each_order : {A : Type 0} (P : A → Type 0) (o : Ordering) (x y z : A) → (o ≡ Less → P x) → (o ≡ Equal → P y) → (o ≡ Greater → P z) → P (by_order o x y z)
each_order P Less x y z first second third = first refl
each_order P Equal x y z first second third = second refl
each_order P Greater x y z first second third = third refl

-- ---- each change

pub EachKeyed-map : (P Q : Keyed → Type 0) (es : List Keyed) → ((e : Keyed) → P e → Q e) → EachKeyed P es → EachKeyed Q es
EachKeyed-map P Q [] f each = tt
EachKeyed-map P Q (e ∷ es) f each = (f e each.0, EachKeyed-map P Q es f each.1)

pub EachKeyed-split : (P : Keyed → Type 0) (es fs : List Keyed) → EachKeyed P (es ++ fs) → EachKeyed P es × EachKeyed P fs
EachKeyed-split P [] fs each = (tt, each)
EachKeyed-split P (e ∷ es) fs each = let rest = EachKeyed-split P es fs each.1 in ((each.0, rest.0), rest.1)

pub ascending_left : (es fs : List Keyed) → AreAscending (es ++ fs) → AreAscending es
ascending_left [] fs ascending = tt
ascending_left (e ∷ es) fs ascending = ((EachKeyed-split _ es fs ascending.0).0, ascending_left es fs ascending.1)

pub ascending_right : (es fs : List Keyed) → AreAscending (es ++ fs) → AreAscending fs
ascending_right [] fs ascending = ascending
ascending_right (e ∷ es) fs ascending = ascending_right es fs ascending.1

-- all on the left are before what is in the middle
below_middle : (es fs : List Keyed) (x : Keyed) → AreAscending (es ++ x ∷ fs) → EachKeyed (λ e. keyed_cmp e x ≡ Less) es
below_middle [] fs x ascending = tt
below_middle (e ∷ es) fs x ascending = ((EachKeyed-split _ es (x ∷ fs) ascending.0).1.0, below_middle es fs x ascending.1)

-- ---- a change more

-- the list with a change more, which takes the place of one with its hash and uid
abbrev pub inserted : Keyed → List Keyed → List Keyed
inserted d [] = d ∷ []
inserted d (e ∷ es) = by_order (keyed_cmp d e) (d ∷ e ∷ es) (d ∷ es) (e ∷ inserted d es)

pub EachKeyed-inserted : (P : Keyed → Type 0) (d : Keyed) (es : List Keyed) → P d → EachKeyed P es → EachKeyed P (inserted d es)
EachKeyed-inserted P d [] one each = (one, tt)
EachKeyed-inserted P d (e ∷ es) one each =
    each_order (EachKeyed P) (keyed_cmp d e) (d ∷ e ∷ es) (d ∷ es) (e ∷ inserted d es) (λ _. (one, each)) (λ _. (one, each.1)) (λ _. (each.0, EachKeyed-inserted P d es one each.1))

pub AreAscending-inserted : (d : Keyed) (es : List Keyed) → AreAscending es → AreAscending (inserted d es)
AreAscending-inserted d [] ascending = (tt, tt)
AreAscending-inserted d (e ∷ es) (first, rest) =
    each_order AreAscending (keyed_cmp d e) (d ∷ e ∷ es) (d ∷ es) (e ∷ inserted d es)
    (λ less. ((less, EachKeyed-map _ _ es (λ f more. keyed_total.trans d e f less more) first), (first, rest)))
    (λ same. (EachKeyed-map _ _ es (λ f more. keyed_total.congr d e f same ∙ more) first, rest))
    (λ more. (EachKeyed-inserted _ d es (before d e more) first, AreAscending-inserted d es rest))

left_case : (d e : Keyed) (es fs now old : List Keyed) (o : Ordering) → now ≡ old ++ fs → by_order o (d ∷ e ∷ (es ++ fs)) (d ∷ (es ++ fs)) (e ∷ now) ≡ by_order o (d ∷ e ∷ es) (d ∷ es) (e ∷ old) ++ fs
left_case d e es fs now old Less is = refl
left_case d e es fs now old Equal is = refl
left_case d e es fs now old Greater is = ap (λ gs. e ∷ gs) is

inserted_left : (d x : Keyed) (es fs : List Keyed) → keyed_cmp d x ≡ Less → inserted d (es ++ x ∷ fs) ≡ inserted d es ++ x ∷ fs
inserted_left d x [] fs less = rw less refl
inserted_left d x (e ∷ es) fs less =
    left_case d e es (x ∷ fs) (inserted d (es ++ x ∷ fs)) (inserted d es) (keyed_cmp d e) (inserted_left d x es fs less)

inserted_right : (d : Keyed) (es fs : List Keyed) → EachKeyed (λ e. keyed_cmp d e ≡ Greater) es → inserted d (es ++ fs) ≡ es ++ inserted d fs
inserted_right d [] fs each = refl
inserted_right d (e ∷ es) fs each = rw each.0 (ap (λ gs. e ∷ gs) (inserted_right d es fs each.1))

all_before : (d x : Keyed) (es fs : List Keyed) → (keyed_cmp d x ≡ Less → ⊥) → AreAscending (es ++ x ∷ fs) → EachKeyed (λ e. keyed_cmp d e ≡ Greater) es
all_before d x es fs not_less ascending = EachKeyed-map _ _ es (λ e less. skipped_by d x e (keyed_cmp d x) refl not_less less) (below_middle es fs x ascending)

not_less_by : (o p : Ordering) → o ≡ p → (p ≡ Less → ⊥) → o ≡ Less → ⊥
not_less_by o p is not_less less = not_less (sym is ∙ less)

equal_not_less : Equal ≡ Less → ⊥
equal_not_less h = absurd (cc)

greater_not_less : Greater ≡ Less → ⊥
greater_not_less h = absurd (cc)

pub inserted-placed : (d x : Keyed) (es fs : List Keyed) → AreAscending (es ++ x ∷ fs) → inserted d (es ++ x ∷ fs) ≡ by_order (keyed_cmp d x) (inserted d es ++ x ∷ fs) (es ++ d ∷ fs) (es ++ x ∷ inserted d fs)
inserted-placed d x es fs ascending =
    each_order (λ gs. inserted d (es ++ x ∷ fs) ≡ gs) (keyed_cmp d x) (inserted d es ++ x ∷ fs) (es ++ d ∷ fs) (es ++ x ∷ inserted d fs)
    (λ less. inserted_left d x es fs less)
    (λ same. inserted_right d es (x ∷ fs) (all_before d x es fs (not_less_by _ _ same equal_not_less) ascending) ∙ ap (λ o. es ++ by_order o (d ∷ x ∷ fs) (d ∷ fs) (x ∷ inserted d fs)) same)
    (λ more. inserted_right d es (x ∷ fs) (all_before d x es fs (not_less_by _ _ more greater_not_less) ascending) ∙ ap (λ o. es ++ by_order o (d ∷ x ∷ fs) (d ∷ fs) (x ∷ inserted d fs)) more)

-- ---- what a list says

-- the change with the hash and the uid of d
abbrev pub told : Keyed → List Keyed → Option ChangeTree
told d [] = None
told d (e ∷ es) = by_order (keyed_cmp d e) (told d es) (Some e.change) (told d es)

told_before : (d : Keyed) (es fs : List Keyed) → told d fs ≡ None → told d (es ++ fs) ≡ told d es
told_before d [] fs none = none
told_before d (e ∷ es) fs none = ap (λ o. by_order (keyed_cmp d e) o (Some e.change) o) (told_before d es fs none)

told_after : (d : Keyed) (es fs : List Keyed) → EachKeyed (λ e. keyed_cmp d e ≡ Greater) es → told d (es ++ fs) ≡ told d fs
told_after d [] fs each = refl
told_after d (e ∷ es) fs each = rw each.0 (told_after d es fs each.1)

told_none : (d : Keyed) (es : List Keyed) → EachKeyed (λ e. keyed_cmp d e ≡ Less) es → told d es ≡ None
told_none d [] each = refl
told_none d (e ∷ es) each = rw each.0 (told_none d es each.1)

pub told-placed : (d x : Keyed) (es fs : List Keyed) → AreAscending (es ++ x ∷ fs) → told d (es ++ x ∷ fs) ≡ by_order (keyed_cmp d x) (told d es) (Some x.change) (told d fs)
told-placed d x es fs ascending =
    let above = (ascending_right es (x ∷ fs) ascending).0 in
    each_order (λ o. told d (es ++ x ∷ fs) ≡ o) (keyed_cmp d x) (told d es) (Some x.change) (told d fs)
    (λ less. told_before d es (x ∷ fs) (told_none d (x ∷ fs) (less, EachKeyed-map _ _ fs (λ f more. keyed_total.trans d x f less more) above)))
    (λ same. told_after d es (x ∷ fs) (all_before d x es fs (not_less_by _ _ same equal_not_less) ascending) ∙ ap (λ o. by_order o (told d fs) (Some x.change) (told d fs)) same)
    (λ more. told_after d es (x ∷ fs) (all_before d x es fs (not_less_by _ _ more greater_not_less) ascending) ∙ ap (λ o. by_order o (told d fs) (Some x.change) (told d fs)) more)
