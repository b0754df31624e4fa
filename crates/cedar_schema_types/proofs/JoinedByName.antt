-- Record types join name by name.
use Rattle.std.proofs.Common.{◌≡◌, ◌≢◌, ℕ, Bool, true, false, List, [], ◌∷◌, Option, Some, None, refl, sym, ap, subst, ◌∙◌, if◌then◌else◌}
use Rattle.std.specs.List.{AllByRecursion}
use Rattle.std.specs.List.Sorted.{IsStrictlySortedBy}
use Rattle.std.specs.Str.{bytes_eq}
use Rattle.std.specs.Ordering.{is_eq, ordering_reverse}
use Rattle.std.specs.declared.cmp.Ordering.{Ordering}
use Rattle.std.specs.declared.cmp.Ordering.TheVariants.{Less, Equal, Greater}
use Rattle.std.proofs.lemmas.Cmp.{nat_list_cmp_total}
use Rattle.std.proofs.lemmas.Slice.Eq.{bytes_eq-Decides}
use Rattle.cedar_value.specs.Private.Laws.{text_ties}
use Rattle.cedar_value.specs.Order.{text_cmp}
use Rattle.cedar_value.specs.Private.Same.{text_same}
use Rattle.cedar_schema_types.specs.declared.attribute.Attribute.{Attribute}
use Rattle.cedar_schema_types.specs.Types.{TypeTree, Attributes, no_attributes, attribute, names_of, record_of}
use Rattle.cedar_schema_types.specs.Lookup.{attribute_at}
use Rattle.cedar_schema_types.specs.Joins.{Join, JoinAttributes, join_none, join_attribute, join_record, JoinsAt, JoinIsByName}

-- ---- from the relation

abbrev made : List ℕ → Bool → TypeTree → Attribute
made k r t = record { name = k; ty = t; required = r }

here_or_on : (b : Bool) (k : List ℕ) (r : Bool) (t u v : TypeTree) (o p q : Option Attribute) → Join t u v → JoinsAt o p q
    → JoinsAt (if b then Some (made k r t) else o) (if b then Some (made k r u) else p) (if b then Some (made k r v) else q)
here_or_on true k r t u v o p q j h = (refl, refl, j)
here_or_on false k r t u v o p q j h = h

at_each : {a b d : Attributes} → JoinAttributes a b d → (i : List ℕ) → JoinsAt (attribute_at i a) (attribute_at i b) (attribute_at i d)
at_each join_none i = tt
at_each (join_attribute {k = k} {r = r} {t = t} {u = u} {v = v} {a = a} {b = b} {d = d} j js) i =
    here_or_on (bytes_eq k i) k r t u v (attribute_at i a) (attribute_at i b) (attribute_at i d) j (at_each js i)

-- ---- to the relation

abbrev IsUp : List (List ℕ) → Type 0
IsUp ks = IsStrictlySortedBy text_cmp ks

-- at its first name a record type declares its first attribute
first : (k : List ℕ) (r : Bool) (t : TypeTree) (a : Attributes) → attribute_at k (attribute k r t a) ≡ Some (made k r t)
first k r t a = rw ((bytes_eq-Decides k k).1 refl) refl

unlike : (k l : List ℕ) → text_cmp k l ≡ Less → bytes_eq l k ≡ false
unlike k l h = text_ties l k ∙ ap is_eq (nat_list_cmp_total.antisymm l k ∙ ap ordering_reverse h)

-- what is below all names is not among them
absent : (k : List ℕ) (a : Attributes) → AllByRecursion (λ x. text_cmp k x ≡ Less) (names_of a) → attribute_at k a ≡ None
absent k no_attributes all = refl
absent k (attribute l q u b) all = rw (unlike k l all.0) (absent k b all.1)

lower : (k l : List ℕ) (ls : List (List ℕ)) → text_cmp k l ≡ Less → AllByRecursion (λ x. text_cmp l x ≡ Less) ls → AllByRecursion (λ x. text_cmp k x ≡ Less) ls
lower k l [] h all = tt
lower k l (m ∷ ls) h all = (nat_list_cmp_total.trans k l m h all.0, lower k l ls h all.1)

below_first : (k l : List ℕ) (q : Bool) (u : TypeTree) (b : Attributes) → text_cmp k l ≡ Less → IsUp (l ∷ names_of b) → attribute_at k (attribute l q u b) ≡ None
unfolding IsStrictlySortedBy
below_first k l q u b h up = absent k (attribute l q u b) (h, lower k l (names_of b) h up.0)

after_first : (k : List ℕ) (a : Attributes) → IsUp (k ∷ names_of a) → attribute_at k a ≡ None
unfolding IsStrictlySortedBy
after_first k a up = absent k a up.0

up_on : (k : List ℕ) (a : Attributes) → IsUp (k ∷ names_of a) → IsUp (names_of a)
unfolding IsStrictlySortedBy
up_on k a up = up.1

-- two record types that each declare the other's first name have one first name
one_first : (k l : List ℕ) (r q : Bool) (t u : TypeTree) (a b : Attributes) → IsUp (k ∷ names_of a) → IsUp (l ∷ names_of b)
    → attribute_at k (attribute l q u b) ≢ None → attribute_at l (attribute k r t a) ≢ None → k ≡ l
one_first k l r q t u a b ups upl there here = at (text_cmp k l) refl
  where
    at : (o : Ordering) → text_cmp k l ≡ o → k ≡ l
    at Less h = absurd (there (below_first k l q u b h upl))
    at Equal h = text_same k l h
    at Greater h = absurd (here (below_first l k r t a (nat_list_cmp_total.antisymm l k ∙ ap ordering_reverse h) ups))

second_there : (x : Attribute) (p q : Option Attribute) → JoinsAt (Some x) p q → p ≢ None
second_there x None None h = absurd h
second_there x None (Some z) h = absurd h
second_there x (Some y) q h = λ e. cc

third_there : (x : Attribute) (p q : Option Attribute) → JoinsAt (Some x) p q → q ≢ None
third_there x None None h = absurd h
third_there x (Some y) None h = absurd h
third_there x p (Some z) h = λ e. cc

first_by_second : (o : Option Attribute) (y : Attribute) (q : Option Attribute) → JoinsAt o (Some y) q → o ≢ None
first_by_second None y None h = absurd h
first_by_second None y (Some z) h = absurd h
first_by_second (Some x) y q h = λ e. cc

first_by_third : (o p : Option Attribute) (z : Attribute) → JoinsAt o p (Some z) → o ≢ None
first_by_third None None z h = absurd h
first_by_third None (Some y) z h = absurd h
first_by_third (Some x) p z h = λ e. cc

abbrev ByName : Attributes → Attributes → Attributes → Type 0
ByName a b d = (k : List ℕ) → JoinsAt (attribute_at k a) (attribute_at k b) (attribute_at k d)

-- the later attributes join by name too
later : (k : List ℕ) (r q w : Bool) (t u v : TypeTree) (a b d : Attributes) → IsUp (k ∷ names_of a) → IsUp (k ∷ names_of b) → IsUp (k ∷ names_of d)
    → ByName (attribute k r t a) (attribute k q u b) (attribute k w v d) → ByName a b d
later k r q w t u v a b d ups upt upv h i = at (bytes_eq k i) refl (h i)
  where
    at : (c : Bool) → bytes_eq k i ≡ c → JoinsAt (if c then Some (made k r t) else attribute_at i a) (if c then Some (made k q u) else attribute_at i b) (if c then Some (made k w v) else attribute_at i d)
        → JoinsAt (attribute_at i a) (attribute_at i b) (attribute_at i d)
    at true e g =
        let same : k ≡ i = (bytes_eq-Decides k i).0 e in
        subst (λ (x : List ℕ). JoinsAt (attribute_at x a) (attribute_at x b) (attribute_at x d)) same
        (rw (after_first k a ups, after_first k b upt, after_first k d upv) tt)
    at false e g = g

heads : (k : List ℕ) (r q w : Bool) (t u v : TypeTree) (a b d : Attributes) → ByName (attribute k r t a) (attribute k q u b) (attribute k w v d) → JoinsAt (Some (made k r t)) (Some (made k q u)) (Some (made k w v))
heads k r q w t u v a b d h = rw (first k r t a, first k q u b, first k w v d) at (h k)

abbrev Goal : Attributes → Attributes → Attributes → Type 0
Goal a b d = IsUp (names_of a) → IsUp (names_of b) → IsUp (names_of d) → ByName a b d → JoinAttributes a b d

step : (k : List ℕ) (r q w : Bool) (t u v : TypeTree) (a b d : Attributes) → Goal a b d → Goal (attribute k r t a) (attribute k q u b) (attribute k w v d)
step k r q w t u v a b d rest upa upb upd h =
    let both = heads k r q w t u v a b d h in
    let js = rest (up_on k a upa) (up_on k b upb) (up_on k d upd) (later k r q w t u v a b d upa upb upd h) in
    subst (λ (x : Bool). JoinAttributes (attribute k r t a) (attribute k x u b) (attribute k w v d)) (sym both.0)
    (subst (λ (x : Bool). JoinAttributes (attribute k r t a) (attribute k r u b) (attribute k x v d)) (sym both.1) (join_attribute both.2 js))

from_names : (a b d : Attributes) → Goal a b d
from_names no_attributes no_attributes no_attributes upa upb upd h = join_none
from_names no_attributes no_attributes (attribute m w v d) upa upb upd h = absurd (first_by_third None None (made m w v) (rw (first m w v d) at (h m)) refl)
from_names no_attributes (attribute l q u b) d upa upb upd h = absurd (first_by_second None (made l q u) (attribute_at l d) (rw (first l q u b) at (h l)) refl)
from_names (attribute k r t a) no_attributes d upa upb upd h = absurd (second_there (made k r t) None (attribute_at k d) (rw (first k r t a) at (h k)) refl)
from_names (attribute k r t a) (attribute l q u b) no_attributes upa upb upd h = absurd (third_there (made k r t) (attribute_at k (attribute l q u b)) None (rw (first k r t a) at (h k)) refl)
from_names (attribute k r t a) (attribute l q u b) (attribute m w v d) upa upb upd h =
    let A = attribute k r t a in
    let B = attribute l q u b in
    let D = attribute m w v d in
    let at_k : JoinsAt (Some (made k r t)) (attribute_at k B) (attribute_at k D) = rw (first k r t a) at (h k) in
    let at_l : JoinsAt (attribute_at l A) (Some (made l q u)) (attribute_at l D) = rw (first l q u b) at (h l) in
    let at_m : JoinsAt (attribute_at m A) (attribute_at m B) (Some (made m w v)) = rw (first m w v d) at (h m) in
    let l_is : k ≡ l = one_first k l r q t u a b upa upb (second_there (made k r t) (attribute_at k B) (attribute_at k D) at_k) (first_by_second (attribute_at l A) (made l q u) (attribute_at l D) at_l) in
    let m_is : k ≡ m = one_first k m r w t v a d upa upd (third_there (made k r t) (attribute_at k B) (attribute_at k D) at_k) (first_by_third (attribute_at m A) (attribute_at m B) (made m w v) at_m) in
    subst (λ (x : List ℕ). Goal (attribute k r t a) (attribute x q u b) (attribute m w v d)) l_is
    (subst (λ (x : List ℕ). Goal (attribute k r t a) (attribute k q u b) (attribute x w v d)) m_is (step k r q w t u v a b d (from_names a b d)))
    upa upb upd h

attributes_in : {a b d : Attributes} → Join (record_of a) (record_of b) (record_of d) → JoinAttributes a b d
attributes_in (join_record js) = js

pub join_is_by_name : JoinIsByName
join_is_by_name a b d upa upb upd = (λ j. at_each (attributes_in j), λ h. join_record (from_names a b d upa upb upd h))
