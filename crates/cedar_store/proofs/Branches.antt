-- Trees of changes that are in order.
--     descent_is      what the way down finds is the change of the uid
--     put_told      the change of a uid after one change more
--     distinct-ascending      no two changes have one uid
--     named_each      the entity of each change has its uid
--     IsMap-none, IsMap-put      a map without changes, and a map after one change more
use Rattle.std.proofs.Common.{◌≡◌, ℕ, zero, suc, ◌+◌, ◌^◌, ◌≤◌, Bool, true, false, List, [], ◌∷◌, ◌++◌, map, Option, Some, None, refl, sym, ap, subst, ◌∙◌, arith, if◌then◌else◌, append_assoc, length-append}
use Rattle.std.proofs.lemmas.Cmp.{on_total, then_total, nat_cmp_total, tied_itself}
use Rattle.std.specs.Bool.{one_answer}
use Rattle.std.specs.Cmp.{IsTotalOrder}
use Rattle.std.specs.Ordering.{nat_cmp, ordering_then, is_eq, on}
use Rattle.std.specs.declared.cmp.Ordering.{Ordering}
use Rattle.std.specs.declared.cmp.Ordering.TheVariants.{Less, Equal, Greater}
use Rattle.cedar_value.specs.Datum.{same_uid}
use Rattle.cedar_value.specs.Order.{uid_cmp}
use Rattle.cedar_value.specs.Private.Equality.{same_uid-Decides, uid_equivalence}
use Rattle.cedar_value.specs.Private.Laws.{uid_ties, uid_total}
use Rattle.cedar_value.specs.declared.uid.Uid.{Uid}
use Rattle.cedar_store.specs.Private.Branches.{Branches, no_branch, two, three, Keyed, Grown, whole, split, keyed_in, changes_in, size, depth, IsEven, by_order, EachKeyed, AreAscending, descent, two_left, two_right, three_left, three_middle, three_right, grow, rooted, put, hash_of, IsKeyed, IsMap}
use Rattle.cedar_store.specs.Private.Changing.{ChangeTree, IsChangeOfUid, EachChange, change_of, AreChangesDistinct}
use Rattle.cedar_store.specs.declared.uid_hashing.UidHashing.{UidHashing}
use Rattle.cedar_store.proofs.Inserted.{keyed_cmp, each_order, ascending_left, ascending_right, inserted, EachKeyed-inserted, AreAscending-inserted, inserted-placed, told, told-placed}

-- ---- the changes of a tree with a change more

abbrev keyed_after : Grown → List Keyed
keyed_after (whole t) = keyed_in t
keyed_after (split l e r) = keyed_in l ++ e ∷ keyed_in r

two_left-keyed : (g : Grown) (e : Keyed) (r : Branches) → keyed_after (two_left g e r) ≡ keyed_after g ++ e ∷ keyed_in r
two_left-keyed (whole l) e r = refl
two_left-keyed (split a x b) e r = sym (append_assoc (keyed_in a) (x ∷ keyed_in b) (e ∷ keyed_in r))

two_right-keyed : (l : Branches) (e : Keyed) (g : Grown) → keyed_after (two_right l e g) ≡ keyed_in l ++ e ∷ keyed_after g
two_right-keyed l e (whole r) = refl
two_right-keyed l e (split a x b) = refl

three_left-keyed : (g : Grown) (e : Keyed) (m : Branches) (f : Keyed) (r : Branches) → keyed_after (three_left g e m f r) ≡ keyed_after g ++ e ∷ (keyed_in m ++ f ∷ keyed_in r)
three_left-keyed (whole l) e m f r = refl
three_left-keyed (split a x b) e m f r = refl

three_middle-keyed : (l : Branches) (e : Keyed) (g : Grown) (f : Keyed) (r : Branches) → keyed_after (three_middle l e g f r) ≡ keyed_in l ++ e ∷ (keyed_after g ++ f ∷ keyed_in r)
three_middle-keyed l e (whole m) f r = refl
three_middle-keyed l e (split a x b) f r =
    append_assoc (keyed_in l) (e ∷ keyed_in a) (x ∷ (keyed_in b ++ f ∷ keyed_in r)) ∙ ap (λ es. keyed_in l ++ e ∷ es) (sym (append_assoc (keyed_in a) (x ∷ keyed_in b) (f ∷ keyed_in r)))

three_right-keyed : (l : Branches) (e : Keyed) (m : Branches) (f : Keyed) (g : Grown) → keyed_after (three_right l e m f g) ≡ keyed_in l ++ e ∷ (keyed_in m ++ f ∷ keyed_after g)
three_right-keyed l e m f (whole r) = refl
three_right-keyed l e m f (split a x b) = append_assoc (keyed_in l) (e ∷ keyed_in m) (f ∷ (keyed_in a ++ x ∷ keyed_in b))

-- what is so of one of three, part by part
by_parts : {A B : Type 0} (F : A → B) (o : Ordering) (x y z : A) (u v w : B) → F x ≡ u → F y ≡ v → F z ≡ w → F (by_order o x y z) ≡ by_order o u v w
by_parts F Less x y z u v w first second third = first
by_parts F Equal x y z u v w first second third = second
by_parts F Greater x y z u v w first second third = third

pub grow-keyed : (d : Keyed) (t : Branches) → AreAscending (keyed_in t) → keyed_after (grow d t) ≡ inserted d (keyed_in t)
grow-keyed d no_branch ascending = refl
grow-keyed d (two l e r) ascending =
    let in_left = grow-keyed d l (ascending_left (keyed_in l) (e ∷ keyed_in r) ascending) in
    let in_right = grow-keyed d r (ascending_right (keyed_in l) (e ∷ keyed_in r) ascending).1 in
    by_parts keyed_after (keyed_cmp d e) (two_left (grow d l) e r) (whole (two l d r)) (two_right l e (grow d r)) (inserted d (keyed_in l) ++ e ∷ keyed_in r) (keyed_in l ++ d ∷ keyed_in r) (keyed_in l ++ e ∷ inserted d (keyed_in r))
    (two_left-keyed (grow d l) e r ∙ ap (λ es. es ++ e ∷ keyed_in r) in_left) refl (two_right-keyed l e (grow d r) ∙ ap (λ es. keyed_in l ++ e ∷ es) in_right)
    ∙ sym (inserted-placed d e (keyed_in l) (keyed_in r) ascending)
grow-keyed d (three l e m f r) ascending =
    let rest = (ascending_right (keyed_in l) (e ∷ (keyed_in m ++ f ∷ keyed_in r)) ascending).1 in
    let in_left = grow-keyed d l (ascending_left (keyed_in l) (e ∷ (keyed_in m ++ f ∷ keyed_in r)) ascending) in
    let in_middle = grow-keyed d m (ascending_left (keyed_in m) (f ∷ keyed_in r) rest) in
    let in_right = grow-keyed d r (ascending_right (keyed_in m) (f ∷ keyed_in r) rest).1 in
    let beyond = by_order (keyed_cmp d f) (three_middle l e (grow d m) f r) (whole (three l e m d r)) (three_right l e m f (grow d r)) in
    let lower : keyed_after beyond ≡ keyed_in l ++ e ∷ inserted d (keyed_in m ++ f ∷ keyed_in r) = by_parts keyed_after (keyed_cmp d f) (three_middle l e (grow d m) f r) (whole (three l e m d r)) (three_right l e m f (grow d r)) (keyed_in l ++ e ∷ (inserted d (keyed_in m) ++ f ∷ keyed_in r)) (keyed_in l ++ e ∷ (keyed_in m ++ d ∷ keyed_in r)) (keyed_in l ++ e ∷ (keyed_in m ++ f ∷ inserted d (keyed_in r)))
    (three_middle-keyed l e (grow d m) f r ∙ ap (λ es. keyed_in l ++ e ∷ (es ++ f ∷ keyed_in r)) in_middle) refl (three_right-keyed l e m f (grow d r) ∙ ap (λ es. keyed_in l ++ e ∷ (keyed_in m ++ f ∷ es)) in_right)
    ∙ sym (by_parts (λ es. keyed_in l ++ e ∷ es) (keyed_cmp d f) (inserted d (keyed_in m) ++ f ∷ keyed_in r) (keyed_in m ++ d ∷ keyed_in r) (keyed_in m ++ f ∷ inserted d (keyed_in r)) (keyed_in l ++ e ∷ (inserted d (keyed_in m) ++ f ∷ keyed_in r)) (keyed_in l ++ e ∷ (keyed_in m ++ d ∷ keyed_in r)) (keyed_in l ++ e ∷ (keyed_in m ++ f ∷ inserted d (keyed_in r))) refl refl refl)
    ∙ ap (λ es. keyed_in l ++ e ∷ es) (sym (inserted-placed d f (keyed_in m) (keyed_in r) rest)) in
    by_parts keyed_after (keyed_cmp d e) (three_left (grow d l) e m f r) (whole (three l d m f r)) beyond (inserted d (keyed_in l) ++ e ∷ (keyed_in m ++ f ∷ keyed_in r)) (keyed_in l ++ d ∷ (keyed_in m ++ f ∷ keyed_in r)) (keyed_in l ++ e ∷ inserted d (keyed_in m ++ f ∷ keyed_in r))
    (three_left-keyed (grow d l) e m f r ∙ ap (λ es. es ++ e ∷ (keyed_in m ++ f ∷ keyed_in r)) in_left) refl lower
    ∙ sym (inserted-placed d e (keyed_in l) (keyed_in m ++ f ∷ keyed_in r) ascending)

rooted-keyed : (g : Grown) → keyed_in (rooted g) ≡ keyed_after g
rooted-keyed (whole t) = refl
rooted-keyed (split l e r) = refl

pub put-keyed : (d : Keyed) (t : Branches) → AreAscending (keyed_in t) → keyed_in (put d t) ≡ inserted d (keyed_in t)
put-keyed d t ascending = rooted-keyed (grow d t) ∙ grow-keyed d t ascending

-- ---- the way down

pub descent-told : (d : Keyed) (t : Branches) → AreAscending (keyed_in t) → descent d.hash d.change.uid t ≡ told d (keyed_in t)
descent-told d no_branch ascending = refl
descent-told d (two l e r) ascending =
    let in_left = descent-told d l (ascending_left (keyed_in l) (e ∷ keyed_in r) ascending) in
    let in_right = descent-told d r (ascending_right (keyed_in l) (e ∷ keyed_in r) ascending).1 in
    by_parts (λ o. o) (keyed_cmp d e) (descent d.hash d.change.uid l) (Some e.change) (descent d.hash d.change.uid r) (told d (keyed_in l)) (Some e.change) (told d (keyed_in r)) in_left refl in_right
    ∙ sym (told-placed d e (keyed_in l) (keyed_in r) ascending)
descent-told d (three l e m f r) ascending =
    let rest = (ascending_right (keyed_in l) (e ∷ (keyed_in m ++ f ∷ keyed_in r)) ascending).1 in
    let in_left = descent-told d l (ascending_left (keyed_in l) (e ∷ (keyed_in m ++ f ∷ keyed_in r)) ascending) in
    let in_middle = descent-told d m (ascending_left (keyed_in m) (f ∷ keyed_in r) rest) in
    let in_right = descent-told d r (ascending_right (keyed_in m) (f ∷ keyed_in r) rest).1 in
    let beyond = by_order (keyed_cmp d f) (descent d.hash d.change.uid m) (Some f.change) (descent d.hash d.change.uid r) in
    let lower : beyond ≡ told d (keyed_in m ++ f ∷ keyed_in r) = by_parts (λ o. o) (keyed_cmp d f) (descent d.hash d.change.uid m) (Some f.change) (descent d.hash d.change.uid r) (told d (keyed_in m)) (Some f.change) (told d (keyed_in r)) in_middle refl in_right ∙ sym (told-placed d f (keyed_in m) (keyed_in r) rest) in
    by_parts (λ o. o) (keyed_cmp d e) (descent d.hash d.change.uid l) (Some e.change) beyond (told d (keyed_in l)) (Some e.change) (told d (keyed_in m ++ f ∷ keyed_in r)) in_left refl lower
    ∙ sym (told-placed d e (keyed_in l) (keyed_in m ++ f ∷ keyed_in r) ascending)

-- ---- uids and hashes

-- the order of uids in which the changes are
abbrev place_cmp : (Uid → ℕ) → Uid → Uid → Ordering
place_cmp h u v = ordering_then (on h nat_cmp u v) (uid_cmp u v)

place_total : (h : Uid → ℕ) → IsTotalOrder (place_cmp h)
place_total h = then_total (on_total h nat_cmp_total) uid_total

second_equal : (o p : Ordering) → is_eq (ordering_then o p) ≡ true → is_eq p ≡ true
second_equal Less p h = absurd (cc)
second_equal Equal p h = h
second_equal Greater p h = absurd (cc)

place_ties : (h : Uid → ℕ) (u v : Uid) → same_uid u v ≡ is_eq (place_cmp h u v)
place_ties h u v = one_answer _ _ (same_uid-Decides u v) (λ same. (same_uid-Decides u v).0 (uid_ties u v ∙ second_equal _ _ same), λ is. ap is_eq (ap (place_cmp h u) (sym is) ∙ tied_itself (place_total h) u))

-- the uids of two changes are one exactly where their hashes and uids are
key_ties : (h : Uid → ℕ) (d e : Keyed) → d.hash ≡ h d.change.uid → e.hash ≡ h e.change.uid → same_uid d.change.uid e.change.uid ≡ is_eq (keyed_cmp d e)
key_ties h d e first second = place_ties h d.change.uid e.change.uid ∙ sym (ap (λ n. is_eq (ordering_then (nat_cmp n e.hash) (uid_cmp d.change.uid e.change.uid))) first ∙ ap (λ n. is_eq (ordering_then (nat_cmp (h d.change.uid) n) (uid_cmp d.change.uid e.change.uid))) second)

-- ---- the change of a uid

change_case : (d e : Keyed) (o : Ordering) (x : Option ChangeTree) → same_uid d.change.uid e.change.uid ≡ is_eq o → by_order o x (Some e.change) x ≡ (if same_uid e.change.uid d.change.uid then Some e.change else x)
change_case d e o x same = rw (uid_equivalence.symm e.change.uid d.change.uid, same) (at_order o)
  where
    at_order : (o : Ordering) → by_order o x (Some e.change) x ≡ (if is_eq o then Some e.change else x)
    at_order Less = refl
    at_order Equal = refl
    at_order Greater = refl

told-change : (h : Uid → ℕ) (d : Keyed) (es : List Keyed) → d.hash ≡ h d.change.uid → EachKeyed (IsKeyed h) es → told d es ≡ change_of (map (λ e. e.change) es) d.change.uid
told-change h d [] is each = refl
told-change h d (e ∷ es) is each = ap (λ o. by_order (keyed_cmp d e) o (Some e.change) o) (told-change h d es is each.1) ∙ change_case d e (keyed_cmp d e) _ (key_ties h d e is each.0.hashed)

pub descent_is : (h : Uid → ℕ) (t : Branches) (u : Uid) → AreAscending (keyed_in t) → EachKeyed (IsKeyed h) (keyed_in t) → descent (h u) u t ≡ change_of (changes_in t) u
descent_is h t u ascending each =
    let at : Keyed = record { hash = h u; change = record { uid = u; entity = None } } in
    descent-told at t ascending ∙ told-change h at (keyed_in t) refl each

-- the change of a uid among these and one more
abbrev one_more : Keyed → List Keyed → Uid → Option ChangeTree
one_more d es u = if same_uid d.change.uid u then Some d.change else change_of (map (λ e. e.change) es) u

same_skipped : (d e : Keyed) (es : List Keyed) (u : Uid) → same_uid d.change.uid e.change.uid ≡ true → change_of (map (λ e. e.change) (d ∷ es)) u ≡ one_more d (e ∷ es) u
same_skipped d e es u same = skipped (same_uid d.change.uid u) refl
  where
    skipped : (b : Bool) → same_uid d.change.uid u ≡ b → (if b then Some d.change else change_of (map (λ e. e.change) es) u) ≡ (if b then Some d.change else change_of (map (λ e. e.change) (e ∷ es)) u)
    skipped true is = refl
    skipped false is = rw (sym (uid_equivalence.congr d.change.uid e.change.uid u same) ∙ is) refl

other_passed : (d e : Keyed) (es : List Keyed) (u : Uid) → same_uid d.change.uid e.change.uid ≡ false → (if same_uid e.change.uid u then Some e.change else one_more d es u) ≡ one_more d (e ∷ es) u
other_passed d e es u other = passed (same_uid d.change.uid u) (same_uid e.change.uid u) refl refl
  where
    passed : (a b : Bool) → same_uid d.change.uid u ≡ a → same_uid e.change.uid u ≡ b → (if b then Some e.change else if a then Some d.change else change_of (map (λ e. e.change) es) u) ≡ (if a then Some d.change else if b then Some e.change else change_of (map (λ e. e.change) es) u)
    passed true true first second = let same : same_uid d.change.uid e.change.uid ≡ true = uid_equivalence.congr d.change.uid u e.change.uid first ∙ uid_equivalence.symm u e.change.uid ∙ second in absurd (cc)
    passed true false first second = refl
    passed false true first second = refl
    passed false false first second = refl

inserted-change : (h : Uid → ℕ) (d : Keyed) (es : List Keyed) (u : Uid) → d.hash ≡ h d.change.uid → EachKeyed (IsKeyed h) es → change_of (map (λ e. e.change) (inserted d es)) u ≡ one_more d es u
inserted-change h d [] u is each = refl
inserted-change h d (e ∷ es) u is each =
    let ties = key_ties h d e is each.0.hashed in
    each_order (λ fs. change_of (map (λ e. e.change) fs) u ≡ one_more d (e ∷ es) u) (keyed_cmp d e) (d ∷ e ∷ es) (d ∷ es) (e ∷ inserted d es)
    (λ less. refl)
    (λ same. same_skipped d e es u (ties ∙ ap is_eq same))
    (λ more. ap (λ o. if same_uid e.change.uid u then Some e.change else o) (inserted-change h d es u is each.1) ∙ other_passed d e es u (ties ∙ ap is_eq more))

pub put_told : (h : Uid → ℕ) (d : Keyed) (t : Branches) (u : Uid) → AreAscending (keyed_in t) → EachKeyed (IsKeyed h) (keyed_in t) → d.hash ≡ h d.change.uid → change_of (changes_in (put d t)) u ≡ (if same_uid d.change.uid u then Some d.change else change_of (changes_in t) u)
put_told h d t u ascending each is = ap (λ es. change_of (map (λ e. e.change) es) u) (put-keyed d t ascending) ∙ inserted-change h d (keyed_in t) u is each

-- ---- each uid once

later_absent : (h : Uid → ℕ) (e : Keyed) (es : List Keyed) → e.hash ≡ h e.change.uid → EachKeyed (IsKeyed h) es → EachKeyed (λ f. keyed_cmp e f ≡ Less) es → change_of (map (λ e. e.change) es) e.change.uid ≡ None
later_absent h e [] is each later = refl
later_absent h e (f ∷ es) is each later = rw (uid_equivalence.symm f.change.uid e.change.uid ∙ key_ties h e f is each.0.hashed ∙ ap is_eq later.0) (later_absent h e es is each.1 later.1)

distinct-keyed : (h : Uid → ℕ) (es : List Keyed) → AreAscending es → EachKeyed (IsKeyed h) es → AreChangesDistinct (map (λ e. e.change) es)
distinct-keyed h [] ascending each = tt
distinct-keyed h (e ∷ es) ascending each = (later_absent h e es each.0.hashed each.1 ascending.0, distinct-keyed h es ascending.1 each.1)

pub distinct-ascending : (h : Uid → ℕ) (t : Branches) → AreAscending (keyed_in t) → EachKeyed (IsKeyed h) (keyed_in t) → AreChangesDistinct (changes_in t)
distinct-ascending h t ascending each = distinct-keyed h (keyed_in t) ascending each

pub named_each : (h : Uid → ℕ) (es : List Keyed) → EachKeyed (IsKeyed h) es → EachChange IsChangeOfUid (map (λ e. e.change) es)
named_each h [] each = tt
named_each h (e ∷ es) each = (each.0.named, named_each h es each.1)

pub is_something : (es fs : List Keyed) (e : Keyed) → map (λ e. e.change) (es ++ e ∷ fs) ≡ [] → ⊥
is_something [] fs e none = absurd (cc)
is_something (d ∷ es) fs e none = absurd (cc)

-- ---- each way down is as long as each other

abbrev IsEvenAfter : ℕ → Grown → Type 0
IsEvenAfter n (whole t) = IsEven n t
IsEvenAfter n (split l e r) = IsEven n l × IsEven n r

two_left-even : (n : ℕ) (g : Grown) (e : Keyed) (r : Branches) → IsEvenAfter n g → IsEven n r → IsEvenAfter (suc n) (two_left g e r)
two_left-even n (whole l) e r grown right = (grown, right)
two_left-even n (split a x b) e r grown right = (grown.0, grown.1, right)

two_right-even : (n : ℕ) (l : Branches) (e : Keyed) (g : Grown) → IsEven n l → IsEvenAfter n g → IsEvenAfter (suc n) (two_right l e g)
two_right-even n l e (whole r) left grown = (left, grown)
two_right-even n l e (split a x b) left grown = (left, grown.0, grown.1)

three_left-even : (n : ℕ) (g : Grown) (e : Keyed) (m : Branches) (f : Keyed) (r : Branches) → IsEvenAfter n g → IsEven n m → IsEven n r → IsEvenAfter (suc n) (three_left g e m f r)
three_left-even n (whole l) e m f r grown middle right = (grown, middle, right)
three_left-even n (split a x b) e m f r grown middle right = (grown, (middle, right))

three_middle-even : (n : ℕ) (l : Branches) (e : Keyed) (g : Grown) (f : Keyed) (r : Branches) → IsEven n l → IsEvenAfter n g → IsEven n r → IsEvenAfter (suc n) (three_middle l e g f r)
three_middle-even n l e (whole m) f r left grown right = (left, grown, right)
three_middle-even n l e (split a x b) f r left grown right = ((left, grown.0), (grown.1, right))

three_right-even : (n : ℕ) (l : Branches) (e : Keyed) (m : Branches) (f : Keyed) (g : Grown) → IsEven n l → IsEven n m → IsEvenAfter n g → IsEvenAfter (suc n) (three_right l e m f g)
three_right-even n l e m f (whole r) left middle grown = (left, middle, grown)
three_right-even n l e m f (split a x b) left middle grown = ((left, middle), grown)

pub grow-even : (n : ℕ) (d : Keyed) (t : Branches) → IsEven n t → IsEvenAfter n (grow d t)
grow-even n d no_branch even = (even, even)
grow-even zero d (two l e r) even = absurd even
grow-even (suc n) d (two l e r) (left, right) =
    each_order (IsEvenAfter (suc n)) (keyed_cmp d e) (two_left (grow d l) e r) (whole (two l d r)) (two_right l e (grow d r))
    (λ _. two_left-even n (grow d l) e r (grow-even n d l left) right) (λ _. (left, right)) (λ _. two_right-even n l e (grow d r) left (grow-even n d r right))
grow-even zero d (three l e m f r) even = absurd even
grow-even (suc n) d (three l e m f r) (left, middle, right) =
    let beyond = by_order (keyed_cmp d f) (three_middle l e (grow d m) f r) (whole (three l e m d r)) (three_right l e m f (grow d r)) in
    each_order (IsEvenAfter (suc n)) (keyed_cmp d e) (three_left (grow d l) e m f r) (whole (three l d m f r)) beyond
    (λ _. three_left-even n (grow d l) e m f r (grow-even n d l left) middle right) (λ _. (left, middle, right))
    (λ _.
    each_order (IsEvenAfter (suc n)) (keyed_cmp d f) (three_middle l e (grow d m) f r) (whole (three l e m d r)) (three_right l e m f (grow d r))
    (λ _. three_middle-even n l e (grow d m) f r left (grow-even n d m middle) right) (λ _. (left, middle, right)) (λ _. three_right-even n l e m f (grow d r) left middle (grow-even n d r right)))

-- ---- the depth

pub even_depth : (n : ℕ) (t : Branches) → IsEven n t → depth t ≡ n
even_depth n no_branch even = sym even
even_depth zero (two l e r) even = absurd even
even_depth (suc n) (two l e r) (left, right) = let first = even_depth n l left in let second = even_depth n r right in omega arith
even_depth zero (three l e m f r) even = absurd even
even_depth (suc n) (three l e m f r) (left, middle, right) = let first = even_depth n l left in let second = even_depth n m middle in let third = even_depth n r right in omega arith

rooted-even : (n : ℕ) (g : Grown) → IsEvenAfter n g → IsEven (depth (rooted g)) (rooted g)
rooted-even n (whole t) even = subst (λ k. IsEven k t) (sym (even_depth n t even)) even
rooted-even n (split l e r) even = subst (λ k. IsEven k (two l e r)) (sym (even_depth (suc n) (two l e r) even)) even

pub even_shallow : (n : ℕ) (t : Branches) → IsEven n t → 2 ^ n ≤ size t + 1
even_shallow n no_branch even = rw even (omega arith)
even_shallow zero (two l e r) even = absurd even
even_shallow (suc n) (two l e r) (left, right) =
    let first = even_shallow n l left in
    let second = even_shallow n r right in
    let long = length-append (keyed_in l) (e ∷ keyed_in r) in
    omega arith
even_shallow zero (three l e m f r) even = absurd even
even_shallow (suc n) (three l e m f r) (left, middle, right) =
    let first = even_shallow n l left in
    let second = even_shallow n m middle in
    let third = even_shallow n r right in
    let long = length-append (keyed_in l) (e ∷ (keyed_in m ++ f ∷ keyed_in r)) in
    let rest = length-append (keyed_in m) (f ∷ keyed_in r) in
    omega arith

-- ---- maps

pub IsMap-none : (h : UidHashing) → IsMap h no_branch
IsMap-none h = record { ascending = tt; keyed = tt; even = refl; shallow = omega arith }

-- the tree that a change is put into, where the change and its hash are known under other names
pub put_named : (h : UidHashing) (t new : Branches) (n : ℕ) (v : Uid) (e d : ChangeTree) → new ≡ put (record { hash = n; change = e }) t → e ≡ d → n ≡ hash_of h v → v ≡ d.uid → new ≡ put (record { hash = hash_of h d.uid; change = d }) t
put_named h t new n v e d is same hashed named = is ∙ ap (λ x. put (record { hash = n; change = x }) t) same ∙ ap (λ m. put (record { hash = m; change = d }) t) (hashed ∙ ap (hash_of h) named)

put_map : (h : UidHashing) (t : Branches) (d : Keyed) → IsKeyed (hash_of h) d → IsMap h t → IsMap h (put d t)
put_map h t d is tree =
    let list = put-keyed d t tree.ascending in
    let even = rooted-even (depth t) (grow d t) (grow-even (depth t) d t tree.even) in
    record {
      ascending = subst AreAscending (sym list) (AreAscending-inserted d (keyed_in t) tree.ascending);
      keyed = subst (EachKeyed (IsKeyed (hash_of h))) (sym list) (EachKeyed-inserted (IsKeyed (hash_of h)) d (keyed_in t) is tree.keyed);
      even = even;
      shallow = even_shallow (depth (put d t)) (put d t) even;
    }

pub IsMap-put : (h : UidHashing) (t new : Branches) (d : ChangeTree) → new ≡ put (record { hash = hash_of h d.uid; change = d }) t → IsMap h t → IsChangeOfUid d → IsMap h new
IsMap-put h t new d is tree named = subst (IsMap h) (sym is) (put_map h t (record { hash = hash_of h d.uid; change = d }) (record { hashed = refl; named = named }) tree)
