-- Whether record types join, from a place on, and how deep types nest.
use Rattle.std.proofs.Common.{◌≡◌, ◌≢◌, Bool, true, false, ◌&&◌, bytes_eq, ℕ, zero, suc, max, ◌+◌, ◌<◌, ◌≤◌, List, [], ◌∷◌, Option, Some, None, option_map, length, get_or, drop, arith, refl, ap, ap₂, sym, ◌∙◌}
use Rattle.std.specs.Prelude.{is_some}
use Rattle.cedar_schema_types.specs.declared.attribute.Attribute.{Attribute}
use Rattle.cedar_schema_types.specs.Types.{TypeTree, boolean, long, string, entity, set, record_of, extension, Attributes, no_attributes, attribute}
use Rattle.cedar_schema_types.specs.Joining.{join, join_attributes, joined_attribute, only_if, same_bool}
use Rattle.cedar_schema_types.specs.TypeKind.{attributes_of}
use Rattle.cedar_check_operators.proofs.Held.{drop_here}

abbrev mutual
  pub height : TypeTree → ℕ
  height (boolean f) = 0
  height long = 0
  height string = 0
  height (entity n) = 0
  height (set t) = suc (height t)
  height (record_of a) = suc (attributes_height a)
  height (extension x) = 0

  pub attributes_height : Attributes → ℕ
  attributes_height no_attributes = 0
  attributes_height (attribute k r t rest) = max (suc (height t)) (attributes_height rest)

-- what is in a list nests less deep than all of it
pub height_here : (a : List Attribute) (i : ℕ) (x : Attribute) → i < length a → x ≡ get_or a i x → height x.ty + 1 ≤ attributes_height (attributes_of a)
height_here [] i x h e = absurd (omega arith)
height_here (y ∷ a) zero x h e = let same : height x.ty ≡ height y.ty = ap (λ (z : Attribute). height z.ty) e in omega arith
height_here (y ∷ a) (suc i) x h e = let p = height_here a i x (omega arith) e in omega arith

pub mapped : {A : Type 0} {B : Type 0} (f : A → B) (o : Option A) → is_some (option_map f o) ≡ is_some o
mapped f None = refl
mapped f (Some x) = refl

-- whether two attributes join
abbrev pub here : Attribute → Attribute → Bool
here x y = (bytes_eq x.name y.name && same_bool x.required y.required) && is_some (join x.ty y.ty)

-- whether the attributes of two lists join, one by one
abbrev pub all : List Attribute → List Attribute → Bool
all a b = is_some (join_attributes (attributes_of a) (attributes_of b))

row : (t : Bool) (k : List ℕ) (r : Bool) (o : Option TypeTree) (m : Option Attributes) → is_some (only_if t (joined_attribute k r o m)) ≡ ((t && is_some o) && is_some m)
row true k r None m = refl
row true k r (Some v) None = refl
row true k r (Some v) (Some d) = refl
row false k r o m = refl

first_row : (x y : Attribute) (a b : List Attribute) → all (x ∷ a) (y ∷ b) ≡ (here x y && all a b)
first_row x y a b = row (bytes_eq x.name y.name && same_bool x.required y.required) x.name x.required (join x.ty y.ty) (join_attributes (attributes_of a) (attributes_of b))

and_false : (b : Bool) → (b && false) ≡ false
and_false true = refl
and_false false = refl

pub lengths_apart : (a b : List Attribute) → length a ≢ length b → all a b ≡ false
lengths_apart [] [] n = absurd (n refl)
lengths_apart [] (y ∷ b) n = refl
lengths_apart (x ∷ a) [] n = refl
lengths_apart (x ∷ a) (y ∷ b) n = first_row x y a b ∙ ap (λ r. here x y && r) (lengths_apart a b (λ e. n (ap suc e))) ∙ and_false (here x y)

from_place : (a b : List Attribute) (i : ℕ) (x y : Attribute) → i < length a → i < length b → x ≡ get_or a i x → y ≡ get_or b i y → all (drop i a) (drop i b) ≡ (here x y && all (drop (i + 1) a) (drop (i + 1) b))
from_place a b i x y la lb xs ys = ap₂ all (drop_here a i x la xs) (drop_here b i y lb ys) ∙ first_row x y (drop (i + 1) a) (drop (i + 1) b)

pub stop : (a b : List Attribute) (i : ℕ) (x y : Attribute) → i < length a → i < length b → x ≡ get_or a i x → y ≡ get_or b i y → here x y ≡ false → all (drop i a) (drop i b) ≡ false
stop a b i x y la lb xs ys e = from_place a b i x y la lb xs ys ∙ ap (λ h. h && all (drop (i + 1) a) (drop (i + 1) b)) e

pub go_on : (a b : List Attribute) (i : ℕ) (x y : Attribute) → i < length a → i < length b → x ≡ get_or a i x → y ≡ get_or b i y → here x y ≡ true → all (drop (i + 1) a) (drop (i + 1) b) ≡ all (drop i a) (drop i b)
go_on a b i x y la lb xs ys e = sym (from_place a b i x y la lb xs ys ∙ ap (λ h. h && all (drop (i + 1) a) (drop (i + 1) b)) e)
