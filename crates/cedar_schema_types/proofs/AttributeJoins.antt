-- Lists of attributes join one by one.
use Rattle.std.proofs.Common.{◌≡◌, ◌≢◌, ℕ, suc, zero, ◌+◌, ◌<◌, ◌≤◌, arith, Bool, true, false, ◌&&◌, bytes_eq, List, [], ◌∷◌, ◌++◌, length, drop, get_or, Option, Some, None, option_map, refl, sym, ap, ap₂, ◌∙◌, drop-cons, add-one}
use Rattle.cedar_schema_types.specs.declared.attribute.Attribute.{Attribute}
use Rattle.cedar_schema_types.specs.Types.{TypeTree, Attributes, no_attributes, attribute}
use Rattle.cedar_schema_types.specs.Joining.{same_bool, only_if, join, join_attributes, joined_attribute}
use Rattle.cedar_schema_types.specs.TypeKind.{attributes_of}
use Rattle.cedar_schema_types.specs.Private.Weight.{weight, attributes_weight}
use Rattle.cedar_schema_types.specs.Private.JoinsAttribute.{joined_type}

no_rest : (k : List ℕ) (r : Bool) (o : Option TypeTree) → joined_attribute k r o None ≡ None
no_rest k r None = refl
no_rest k r (Some v) = refl

only_none : (b : Bool) (o : Option Attributes) → o ≡ None → only_if b o ≡ None
only_none true o e = e
only_none false o e = refl

pub lengths_differ : (a b : List Attribute) → length a ≢ length b → join_attributes (attributes_of a) (attributes_of b) ≡ None
lengths_differ [] [] n = absurd (n refl)
lengths_differ [] (y ∷ b) n = refl
lengths_differ (x ∷ a) [] n = refl
lengths_differ (x ∷ a) (y ∷ b) n =
    only_none _ _
    (ap (joined_attribute x.name x.required (join x.ty y.ty)) (lengths_differ a b (λ e. n (ap suc e)))
    ∙ no_rest x.name x.required (join x.ty y.ty))

-- these before those
abbrev pub before : Attributes → Attributes → Attributes
before no_attributes d = d
before (attribute k r t sh) d = attribute k r t (before sh d)

pub before_none : (sh : Attributes) → before sh no_attributes ≡ sh
before_none no_attributes = refl
before_none (attribute k r t sh) = ap (attribute k r t) (before_none sh)

pub before_more : (xs : List Attribute) (x : Attribute) (d : Attributes) → before (attributes_of (xs ++ x ∷ [])) d ≡ before (attributes_of xs) (attribute x.name x.required x.ty d)
before_more [] x d = refl
before_more (y ∷ xs) x d = ap (attribute y.name y.required y.ty) (before_more xs x d)

abbrev S : List Attribute → Attributes
S xs = attributes_of xs

pub start : (j a b : List Attribute) → j ≡ [] → option_map (before (attributes_of j)) (join_attributes (attributes_of a) (attributes_of b)) ≡ join_attributes (attributes_of a) (attributes_of b)
start j a b e = ap (λ (x : List Attribute). option_map (before (S x)) (join_attributes (S a) (S b))) e ∙ same (join_attributes (S a) (S b))
  where
    same : (o : Option Attributes) → option_map (before no_attributes) o ≡ o
    same None = refl
    same (Some d) = refl

cons_none : (t : Bool) (k : List ℕ) (r : Bool) (o : Option TypeTree) (m : Option Attributes) → only_if t o ≡ None → only_if t (joined_attribute k r o m) ≡ None
cons_none true k r o m e = ap (λ x. joined_attribute k r x m) e
cons_none false k r o m e = refl

cons_some : (t : Bool) (k : List ℕ) (r : Bool) (o : Option TypeTree) (v : TypeTree) (m : Option Attributes) → only_if t o ≡ Some v → only_if t (joined_attribute k r o m) ≡ option_map (attribute k r v) m
cons_some true k r o v m e = ap (λ x. joined_attribute k r x m) e ∙ go m
  where
    go : (n : Option Attributes) → joined_attribute k r (Some v) n ≡ option_map (attribute k r v) n
    go None = refl
    go (Some sh) = refl
cons_some false k r o v m e = cc

pub stop : (j a b c d : List Attribute) (x y : Attribute) → joined_type x y ≡ None → (u v : List Attribute) → u ≡ x ∷ c → v ≡ y ∷ d → option_map (before (attributes_of j)) (join_attributes (attributes_of u) (attributes_of v)) ≡ join_attributes (attributes_of a) (attributes_of b) → None ≡ join_attributes (attributes_of a) (attributes_of b)
stop j a b c d x y n u v p q e =
    sym (ap₂ (λ (l : List Attribute) (m : List Attribute). option_map (before (S j)) (join_attributes (S l) (S m))) p q
    ∙ ap (option_map (before (S j))) (cons_none (bytes_eq x.name y.name && same_bool x.required y.required) x.name x.required (join x.ty y.ty) (join_attributes (S c) (S d)) n))
    ∙ e

map_twice : (f g : Attributes → Attributes) (o : Option Attributes) → option_map (λ d. f (g d)) o ≡ option_map f (option_map g o)
map_twice f g None = refl
map_twice f g (Some d) = refl

map_same : (f g : Attributes → Attributes) (o : Option Attributes) → ((d : Attributes) → f d ≡ g d) → option_map f o ≡ option_map g o
map_same f g None h = refl
map_same f g (Some d) h = ap Some (h d)

pub go_on : (j a b c d : List Attribute) (x y z : Attribute) → (z.name ≡ x.name) × (z.required ≡ x.required) × (joined_type x y ≡ Some z.ty) → (u v : List Attribute) → u ≡ x ∷ c → v ≡ y ∷ d → option_map (before (attributes_of j)) (join_attributes (attributes_of u) (attributes_of v)) ≡ join_attributes (attributes_of a) (attributes_of b) → option_map (before (attributes_of (j ++ z ∷ []))) (join_attributes (attributes_of c) (attributes_of d)) ≡ join_attributes (attributes_of a) (attributes_of b)
go_on j a b c d x y z h u v p q e =
    map_same (before (S (j ++ z ∷ []))) (λ m. before (S j) (attribute z.name z.required z.ty m)) (join_attributes (S c) (S d)) (before_more j z)
    ∙ map_twice (before (S j)) (attribute z.name z.required z.ty) (join_attributes (S c) (S d))
    ∙ ap₂ (λ k r. option_map (before (S j)) (option_map (attribute k r z.ty) (join_attributes (S c) (S d)))) h.0 h.1
    ∙ ap (option_map (before (S j))) (sym (cons_some (bytes_eq x.name y.name && same_bool x.required y.required) x.name x.required (join x.ty y.ty) z.ty (join_attributes (S c) (S d)) h.2))
    ∙ sym (ap₂ (λ (l : List Attribute) (m : List Attribute). option_map (before (S j)) (join_attributes (S l) (S m))) p q)
    ∙ e

-- the end of both lists
pub ended : (j a b : List Attribute) (u v : List Attribute) → u ≡ [] → v ≡ [] → option_map (before (attributes_of j)) (join_attributes (attributes_of u) (attributes_of v)) ≡ join_attributes (attributes_of a) (attributes_of b) → Some (attributes_of j) ≡ join_attributes (attributes_of a) (attributes_of b)
ended j a b u v p q e =
    ap Some (sym (before_none (S j)))
    ∙ sym (ap₂ (λ (l : List Attribute) (m : List Attribute). option_map (before (S j)) (join_attributes (S l) (S m))) p q)
    ∙ e

-- a list from a place on: the item there, and the rest
pub here_and_on : (a : List Attribute) (i : ℕ) (x : Attribute) → i < length a → x ≡ get_or a i x → drop i a ≡ x ∷ drop (i + 1) a
here_and_on a i x h e = drop-cons a i x h ∙ ap₂ (λ (y : Attribute) (n : ℕ). y ∷ drop n a) (sym e) (sym (add-one i))

-- what is in a list nests less deep than all of it
pub weight_here : (a : List Attribute) (i : ℕ) (x : Attribute) → i < length a → x ≡ get_or a i x → weight x.ty + 2 ≤ attributes_weight (attributes_of a)
weight_here [] i x h e = absurd (omega arith)
weight_here (y ∷ a) zero x h e = let same : weight x.ty ≡ weight y.ty = ap (λ (z : Attribute). weight z.ty) e in omega arith
weight_here (y ∷ a) (suc i) x h e = let p = weight_here a i x (omega arith) e in omega arith
