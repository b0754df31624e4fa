-- The test of membership tells it.
use Rattle.std.proofs.Common.{◌≡◌, ℕ, Bool, true, false, ◌&&◌, List, [], ◌∷◌, map, Option, Some, None, refl, sym, ap, subst, ◌∙◌, if◌then◌else◌}
use Rattle.std.specs.Bool.{Decides}
use Rattle.std.specs.List.{AllByRecursion, list_all}
use Rattle.std.specs.List.Sorted.{IsStrictlySortedBy}
use Rattle.std.specs.Ordering.{is_eq, match_ordering, ordering_reverse}
use Rattle.std.specs.Str.{bytes_eq}
use Rattle.std.specs.declared.cmp.Ordering.{Ordering}
use Rattle.std.specs.declared.cmp.Ordering.TheVariants.{Less, Equal, Greater}
use Rattle.std.proofs.lemmas.Cmp.{nat_list_cmp_total}
use Rattle.std.proofs.lemmas.Slice.Eq.{bytes_eq-Decides}
use Rattle.cedar_ext.specs.Extensions.{type_of}
use Rattle.cedar_ext.specs.Private.ExtensionLemmas.{same_type-Decides}
use Rattle.cedar_value.specs.Datum.{Datum, boolean, long, text, uid, set, record_of, extension, Members, no_members, member, list_of, Fields, no_fields, field, pairs_of, fields_of}
use Rattle.cedar_value.specs.Order.{AreKeysAscending, text_cmp}
use Rattle.cedar_value.specs.Private.Laws.{text_ties}
use Rattle.cedar_value.specs.Private.Same.{text_same}
use Rattle.cedar_value.specs.Records.{value_at}
use Rattle.cedar_value.specs.Values.{IsValue, AreValues, HoldValues}
use Rattle.cedar_schema_types.specs.declared.truth.Truth.{Truth}
use Rattle.cedar_schema_types.specs.declared.truth.Truth.TheVariants.{True, False, Any}
use Rattle.cedar_schema_types.specs.Membership.{Member, At, MayStand, Choose, IsAbsent, HasTruth}
use Rattle.cedar_schema_types.specs.Ordered.{Ascends, AllAscend}
use Rattle.cedar_schema_types.specs.Types.{TypeTree, Attributes, no_attributes, attribute, names_of}
use Rattle.cedar_schema_types.specs.Types as kind
use Rattle.cedar_conform_values.proofs.Belongs.{pairs_of-fields_of}
use Rattle.cedar_conform_values.specs.Private.MemberTest.{none_left, unless_required, behind, holds, is_member, are_fields}
use Rattle.cedar_conform_values.specs.Values.{allows}

abbrev Pair : Type 0
Pair = List ℕ × Datum

truth_told : (f : Truth) (b : Bool) → Decides (allows f b) (HasTruth f b)
truth_told True b = (λ e. e, λ h. h)
truth_told False true = (λ e. cc, λ h. cc)
truth_told False false = (λ e. refl, λ h. refl)
truth_told Any b = (λ e. tt, λ h. refl)

-- ---- sets

both_true : (a b : Bool) → (a && b) ≡ true → (a ≡ true) × (b ≡ true)
both_true true b e = (refl, e)
both_true false b e = cc

true_both : (a b : Bool) → a ≡ true → b ≡ true → (a && b) ≡ true
true_both true b p q = q
true_both false b p q = cc

all_told : (test : Datum → Bool) (P : Datum → Type 0) → ((v : Datum) → IsValue v → Decides (test v) (P v)) → (vs : List Datum) → AllByRecursion IsValue vs → Decides (list_all test vs) (AllByRecursion P vs)
all_told test P each [] are = (λ e. tt, λ h. refl)
all_told test P each (v ∷ vs) are =
    let rest = all_told test P each vs are.1 in
    (λ e. let both = both_true (test v) (list_all test vs) e in ((each v are.0).0 both.0, rest.0 both.1), λ h. true_both (test v) (list_all test vs) ((each v are.0).1 h.0) (rest.1 h.1))

values_of : (ms : Members) → AreValues ms → AllByRecursion IsValue (list_of ms)
values_of no_members h = tt
values_of (member d ms) h = (h.0, values_of ms h.1)

-- ---- records: what is not there

pub unlike : (k l : List ℕ) → text_cmp k l ≡ Less → bytes_eq l k ≡ false
unlike k l h = text_ties l k ∙ ap is_eq (nat_list_cmp_total.antisymm l k ∙ ap ordering_reverse h)

lower : (k l : List ℕ) (ls : List (List ℕ)) → text_cmp k l ≡ Less → AllByRecursion (λ x. text_cmp l x ≡ Less) ls → AllByRecursion (λ x. text_cmp k x ≡ Less) ls
lower k l [] h all = tt
lower k l (m ∷ ls) h all = (nat_list_cmp_total.trans k l m h all.0, lower k l ls h all.1)

-- a key that is below all names may have nothing
at_below : (k : List ℕ) (a : Attributes) (o : Option Datum) → AllByRecursion (λ x. text_cmp k x ≡ Less) (names_of a) → At a k o ≡ IsAbsent o
at_below k no_attributes o all = refl
at_below k (attribute l r t a) o all = ap (λ b. Choose b (MayStand r (Member t) o) (At a k o)) (unlike k l all.0) ∙ at_below k a o all.1

-- and a key that is below all keys has nothing
value_below : (k : List ℕ) (ps : List Pair) → AllByRecursion (λ x. text_cmp k x ≡ Less) (map (λ (p : Pair). p.0) ps) → value_at k ps ≡ None
value_below k [] all = refl
value_below k (p ∷ ps) all = rw (unlike k p.0 all.0) (value_below k ps all.1)

-- ---- records: one attribute, and those after it

abbrev Up : List (List ℕ) → Type 0
Up ks = IsStrictlySortedBy text_cmp ks

pub up_first : (k : List ℕ) (ks : List (List ℕ)) → Up (k ∷ ks) → AllByRecursion (λ x. text_cmp k x ≡ Less) ks
unfolding IsStrictlySortedBy
up_first k ks up = up.0

pub up_rest : (k : List ℕ) (ks : List (List ℕ)) → Up (k ∷ ks) → Up ks
unfolding IsStrictlySortedBy
up_rest k ks up = up.1

-- each key has what it may have
abbrev Fit : Attributes → List Pair → Type 0
Fit a ps = (k : List ℕ) → At a k (value_at k ps)

same_key : (l k : List ℕ) → bytes_eq l k ≡ true → l ≡ k
same_key l k e = (bytes_eq-Decides l k).0 e

itself : (k : List ℕ) → bytes_eq k k ≡ true
itself k = (bytes_eq-Decides k k).1 refl

-- nothing is at the attribute's name
module _ (l : List ℕ) (r : Bool) (t : TypeTree) (a : Attributes) (low : AllByRecursion (λ x. text_cmp l x ≡ Less) (names_of a)) where
  absent_fits : (ps : List Pair) → value_at l ps ≡ None → r ≡ false → Fit a ps → Fit (attribute l r t a) ps
  absent_fits ps none e fit k = at (bytes_eq l k) refl
    where
      at : (b : Bool) → bytes_eq l k ≡ b → Choose b (MayStand r (Member t) (value_at k ps)) (At a k (value_at k ps))
      at true same = subst (λ (o : Option Datum). MayStand r (Member t) o) (sym (subst (λ x. value_at x ps ≡ None) (same_key l k same) none)) e
      at false other = fit k

  -- what is required of the other keys
  rest_fits : (ps qs : List Pair) → ((k : List ℕ) → bytes_eq l k ≡ false → value_at k ps ≡ value_at k qs) → value_at l qs ≡ None → Fit (attribute l r t a) ps → Fit a qs
  rest_fits ps qs others none fit k = at (bytes_eq l k) refl (fit k)
    where
      at : (b : Bool) → bytes_eq l k ≡ b → Choose b (MayStand r (Member t) (value_at k ps)) (At a k (value_at k ps)) → At a k (value_at k qs)
      at true same h =
          let gone : value_at k qs ≡ None = subst (λ x. value_at x qs ≡ None) (same_key l k same) none in
          subst (λ x. At a x (value_at x qs)) (same_key l k same) (subst (λ (o : Option Datum). At a l o) (sym none) (subst (λ X. X) (sym (at_below l a None low)) tt))
      at false other h = subst (λ (o : Option Datum). At a k o) (others k other) h

  at_name : (ps : List Pair) → Fit (attribute l r t a) ps → MayStand r (Member t) (value_at l ps)
  at_name ps fit = at (bytes_eq l l) (itself l) (fit l)
    where
      at : (b : Bool) → b ≡ true → Choose b (MayStand r (Member t) (value_at l ps)) (At a l (value_at l ps)) → MayStand r (Member t) (value_at l ps)
      at true e h = h
      at false e h = cc

  not_required : (q : Bool) (o : Option Datum) → o ≡ None → MayStand q (Member t) o → q ≡ false
  not_required q None e h = h
  not_required q (Some v) e h = cc

  skip_told : (ps : List Pair) → value_at l ps ≡ None → Decides (are_fields a ps) (Fit a ps) → Decides (holds (are_fields a) (unless_required r ps)) (Fit (attribute l r t a) ps)
  skip_told ps none rest = at r refl
    where
      at : (q : Bool) → r ≡ q → Decides (holds (are_fields a) (unless_required q ps)) (Fit (attribute l r t a) ps)
      at true e = (λ h. cc, λ fit. let no = not_required r (value_at l ps) none (at_name ps fit) in let wrong : true ≡ false = sym e ∙ no in cc)
      at false e = (λ h. absent_fits ps none e (rest.0 h), λ fit. rest.1 (rest_fits ps ps (λ k other. refl) none fit))

  taken : (p : Pair) (qs : List Pair) → l ≡ p.0 → value_at l (p ∷ qs) ≡ Some p.1
  taken p qs e = rw (subst (λ x. bytes_eq x l ≡ true) e (itself l)) refl

  passed : (p : Pair) (qs : List Pair) → l ≡ p.0 → (k : List ℕ) → bytes_eq l k ≡ false → value_at k (p ∷ qs) ≡ value_at k qs
  passed p qs e k other = rw (subst (λ x. bytes_eq x k ≡ false) e other) refl

  present_fits : (p : Pair) (qs : List Pair) → l ≡ p.0 → Member t p.1 → Fit a qs → Fit (attribute l r t a) (p ∷ qs)
  present_fits p qs e is fit k = at (bytes_eq l k) refl
    where
      at : (b : Bool) → bytes_eq l k ≡ b → Choose b (MayStand r (Member t) (value_at k (p ∷ qs))) (At a k (value_at k (p ∷ qs)))
      at true same = subst (λ (o : Option Datum). MayStand r (Member t) o) (sym (subst (λ x. value_at x (p ∷ qs) ≡ Some p.1) (same_key l k same) (taken p qs e))) is
      at false other = subst (λ (o : Option Datum). At a k o) (sym (passed p qs e k other)) (fit k)

  take_told : (test : Bool) (p : Pair) (qs : List Pair) → l ≡ p.0 → value_at l qs ≡ None → Decides test (Member t p.1) → Decides (are_fields a qs) (Fit a qs)
      → Decides (holds (are_fields a) (if test then Some qs else None)) (Fit (attribute l r t a) (p ∷ qs))
  take_told true p qs e none is rest = (
    λ h. present_fits p qs e (is.0 refl) (rest.0 h),
    λ fit. rest.1 (rest_fits (p ∷ qs) qs (passed p qs e) none fit),
  )
  take_told false p qs e none is rest = (
    λ h. cc,
    λ fit. is.1 (subst (λ (o : Option Datum). MayStand r (Member t) o) (taken p qs e) (at_name (p ∷ qs) fit)),
  )

  -- a key that is below the name
  stray : (p : Pair) (qs : List Pair) → text_cmp p.0 l ≡ Less → Fit (attribute l r t a) (p ∷ qs) → ⊥
  stray p qs less fit =
      let there : value_at p.0 (p ∷ qs) ≡ Some p.1 = rw (itself p.0) refl in
      let none = at_below p.0 (attribute l r t a) (value_at p.0 (p ∷ qs)) (less, lower p.0 l (names_of a) less low) in
      let gone : IsAbsent (value_at p.0 (p ∷ qs)) = subst (λ X. X) none (fit p.0) in
      subst IsAbsent there gone

  fields_told : (test : Datum → Bool) (ps : List Pair) → Up (map (λ (p : Pair). p.0) ps) → AllByRecursion (λ (p : Pair). IsValue p.1) ps → ((v : Datum) → IsValue v → Decides (test v) (Member t v))
      → ((qs : List Pair) → Up (map (λ (p : Pair). p.0) qs) → AllByRecursion (λ (p : Pair). IsValue p.1) qs → Decides (are_fields a qs) (Fit a qs))
      → Decides (holds (are_fields a) (behind l r test ps)) (Fit (attribute l r t a) ps)
  fields_told test [] up are each rest = skip_told [] refl (rest [] up are)
  fields_told test (p ∷ qs) up are each rest = at (text_cmp l p.0) refl
    where
      at : (o : Ordering) → text_cmp l p.0 ≡ o → Decides (holds (are_fields a) (match_ordering o (unless_required r (p ∷ qs)) (if test p.1 then Some qs else None) None)) (Fit (attribute l r t a) (p ∷ qs))
      at Less e = skip_told (p ∷ qs) (value_below l (p ∷ qs) (e, lower l p.0 _ e (up_first p.0 _ up))) (rest (p ∷ qs) up are)
      at Equal e =
          let same = text_same l p.0 e in
          take_told (test p.1) p qs same (subst (λ x. value_at x qs ≡ None) (sym same) (value_below p.0 qs (up_first p.0 _ up))) (each p.1 are.0) (rest qs (up_rest p.0 _ up) are.1)
      at Greater e = (λ h. cc, λ fit. absurd (stray p qs (nat_list_cmp_total.antisymm p.0 l ∙ ap ordering_reverse e) fit))

none_told : (ps : List Pair) → Decides (none_left ps) (Fit no_attributes ps)
none_told [] = (λ e k. tt, λ h. refl)
none_told (p ∷ ps) = (λ e. cc, λ fit. let there : value_at p.0 (p ∷ ps) ≡ Some p.1 = rw (itself p.0) refl in absurd (subst IsAbsent there (fit p.0)))

held : (fs : Fields) → HoldValues fs → AllByRecursion (λ (p : Pair). IsValue p.1) (pairs_of fs)
held no_fields h = tt
held (field k d fs) h = (h.0, held fs h.1)

-- ---- all levels

up_names : (a : Attributes) → Ascends (kind.record_of a) → Up (names_of a) × AllAscend a
unfolding Ascends
up_names a up = up

up_member : (t : TypeTree) → Ascends (kind.set t) → Ascends t
unfolding Ascends
up_member t up = up

up_all : (l : List ℕ) (r : Bool) (t : TypeTree) (a : Attributes) → AllAscend (attribute l r t a) → Ascends t × AllAscend a
unfolding AllAscend
up_all l r t a up = up

mutual
  unfolding is_member are_fields

  pub member_told : (t : TypeTree) (v : Datum) → Ascends t → IsValue v → Decides (is_member t v) (Member t v)
  member_told (kind.boolean f) (boolean b) up is = truth_told f b
  member_told (kind.boolean f) _ up is = (λ e. cc, λ h. absurd h)
  member_told kind.long (long n) up is = (λ e. tt, λ h. refl)
  member_told kind.long _ up is = (λ e. cc, λ h. absurd h)
  member_told kind.string (text s) up is = (λ e. tt, λ h. refl)
  member_told kind.string _ up is = (λ e. cc, λ h. absurd h)
  member_told (kind.entity n) (uid u) up is = bytes_eq-Decides u.ty n
  member_told (kind.entity n) _ up is = (λ e. cc, λ h. absurd h)
  member_told (kind.set t) (set ms) up is = all_told (is_member t) (Member t) (λ v i. member_told t v (up_member t up) i) (list_of ms) (values_of ms is.1)
  member_told (kind.set t) _ up is = (λ e. cc, λ h. absurd h)
  member_told (kind.record_of a) (record_of fs) up is = let names = up_names a up in are_told a (pairs_of fs) names.0 names.1 is.0 (held fs is.1)
  member_told (kind.record_of a) _ up is = (λ e. cc, λ h. absurd h)
  member_told (kind.extension t) (extension e) up is = same_type-Decides (type_of e) t
  member_told (kind.extension t) _ up is = (λ e. cc, λ h. absurd h)

  are_told : (a : Attributes) (ps : List Pair) → Up (names_of a) → AllAscend a → Up (map (λ (p : Pair). p.0) ps) → AllByRecursion (λ (p : Pair). IsValue p.1) ps → Decides (are_fields a ps) (Fit a ps)
  are_told no_attributes ps names all up are = none_told ps
  are_told (attribute l r t a) ps names all up are =
      let ups = up_all l r t a all in
      fields_told l r t a (up_first l (names_of a) names) (is_member t) ps up are (λ v i. member_told t v ups.0 i) (λ qs u i. are_told a qs (up_rest l (names_of a) names) ups.1 u i)

-- a record, as the list of its pairs
pub record_told : (a : Attributes) (ps : List Pair) → Ascends (kind.record_of a) → AreKeysAscending ps → HoldValues (fields_of ps) → Decides (are_fields a ps) (Member (kind.record_of a) (record_of (fields_of ps)))
record_told a ps up ascend values =
    let names = up_names a up in
    let back = pairs_of-fields_of ps in
    subst (λ (xs : List Pair). Decides (are_fields a ps) (Fit a xs)) (sym back)
    (are_told a ps names.0 names.1 ascend (subst (λ (xs : List Pair). AllByRecursion (λ (p : Pair). IsValue p.1) xs) back (held (fields_of ps) values)))
