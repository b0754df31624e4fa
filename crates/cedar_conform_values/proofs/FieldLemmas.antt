-- What the readers answer of records, attribute by attribute.
use Rattle.std.proofs.Common.{◌≡◌, ℕ, Bool, true, false, length, lit<, List, [], ◌∷◌, ◌++◌, ◌||◌, Option, Some, None, is_some, option_map, map, refl, sym, ap, ◌∙◌, subst, append_assoc, append-nil, if◌then◌else◌}
use Rattle.std.specs.List.{AllByRecursion}
use Rattle.std.specs.List.Sorted.{IsStrictlySortedBy}
use Rattle.std.specs.Str.{bytes_eq}
use Rattle.std.specs.declared.cmp.Ordering.TheVariants.{Less}
use Rattle.serde_json.specs.Data.{Data, Members}
use Rattle.serde_json.specs.Find.{get, as_object}
use Rattle.cedar_value.specs.Datum.{Datum, record_of, fields_of}
use Rattle.cedar_value.specs.Order.{AreKeysAscending, text_cmp}
use Rattle.cedar_schema_types.specs.Lookup.{attribute_at}
use Rattle.cedar_schema_types.specs.Ordered.{AreNamesAscending}
use Rattle.cedar_schema_types.specs.TypeKind.{attributes_of}
use Rattle.cedar_schema_types.specs.Types.{TypeTree, Attributes, no_attributes, attribute, names_of}
use Rattle.cedar_schema_types.specs.Types as kind
use Rattle.cedar_schema_types.specs.declared.attribute.Attribute.{Attribute}
use Rattle.cedar_conform_values.specs.declared.conform_fault.ConformFault.{ConformFault}
use Rattle.cedar_conform_values.specs.declared.conform_fault.ConformFault.TheVariants.{WrongType}
use Rattle.cedar_conform_values.specs.Faults.{Told}
use Rattle.cedar_conform_values.specs.Values.{Read, FieldsRead, field_read, extra_faults, is_declared, record_read, value_read, fields_read}
use Rattle.cedar_conform_values.proofs.KindLemmas.{told_first, told_then}

abbrev pub Pair : Type 0
Pair = List ℕ × Datum

-- ---- the names

-- a name is declared exactly where an attribute is at it
declared_here : (b : Bool) (x : Attribute) (o : Option Attribute) (rest : Bool) → is_some o ≡ rest → is_some (if b then Some x else o) ≡ (b || rest)
declared_here true x o rest h = refl
declared_here false x o rest h = h

is_declared-attribute_at : (k : List ℕ) (a : Attributes) → is_some (attribute_at k a) ≡ is_declared (names_of a) k
is_declared-attribute_at k no_attributes = refl
is_declared-attribute_at k (attribute l r t a) = declared_here (bytes_eq l k) (record { name = l; ty = t; required = r }) (attribute_at k a) (is_declared (names_of a) k) (is_declared-attribute_at k a)

is_some-map : {A B : Type 0} (f : A → B) (o : Option A) → is_some o ≡ is_some (option_map f o)
is_some-map f None = refl
is_some-map f (Some x) = refl

pub is_declared-found : {A : Type 0} (f : A → Attribute) (o : Option A) (k : List ℕ) (a : Attributes) → option_map f o ≡ attribute_at k a → is_some o ≡ is_declared (names_of a) k
is_declared-found f o k a e = is_some-map f o ∙ ap is_some e ∙ is_declared-attribute_at k a

pub names_of-attributes_of : (xs : List Attribute) → map (λ (a : Attribute). a.name) xs ≡ names_of (attributes_of xs)
names_of-attributes_of [] = refl
names_of-attributes_of (x ∷ xs) = ap (λ (l : List (List ℕ)). x.name ∷ l) (names_of-attributes_of xs)

-- ---- the attributes of a record

abbrev pub at : Attribute → Data → FieldsRead
at x d = field_read x.name x.required (option_map (value_read x.ty) (get x.name d))

pub fields_more : (d : Data) (done new : List Pair) (xs : List Attribute) (x : Attribute) (rest : List Attribute) (all : FieldsRead) → xs ≡ x ∷ rest → (at x d).faults ≡ [] → new ≡ done ++ (at x d).pairs
    → done ++ (fields_read (attributes_of xs) d).pairs ≡ all.pairs → (fields_read (attributes_of xs) d).faults ≡ all.faults
    → (new ++ (fields_read (attributes_of rest) d).pairs ≡ all.pairs) × ((fields_read (attributes_of rest) d).faults ≡ all.faults)
unfolding fields_read
fields_more d done new xs x rest all e none more pairs faults =
    let left = fields_read (attributes_of rest) d in
    let ps : done ++ ((at x d).pairs ++ left.pairs) ≡ all.pairs = ap (λ (ys : List Attribute). done ++ (fields_read (attributes_of ys) d).pairs) (sym e) ∙ pairs in
    let fs : (at x d).faults ++ left.faults ≡ all.faults = ap (λ (ys : List Attribute). (fields_read (attributes_of ys) d).faults) (sym e) ∙ faults in
    (ap (λ (l : List Pair). l ++ left.pairs) more ∙ append_assoc done (at x d).pairs left.pairs ∙ ps, ap (λ (l : List ConformFault). l ++ left.faults) (sym none) ∙ fs)

pub fields_refused : (d : Data) (xs : List Attribute) (x : Attribute) (rest : List Attribute) (e : ConformFault) (all : FieldsRead) → xs ≡ x ∷ rest → Told (at x d).faults e → (fields_read (attributes_of xs) d).faults ≡ all.faults → Told all.faults e
unfolding fields_read
fields_refused d xs x rest e all is told faults =
    subst (λ fs. Told fs e) (ap (λ (ys : List Attribute). (fields_read (attributes_of ys) d).faults) (sym is) ∙ faults) (told_first (at x d).faults _ e told)

pub fields_end : (d : Data) (done : List Pair) (xs : List Attribute) (all : FieldsRead) → length xs ≡ 0 → done ++ (fields_read (attributes_of xs) d).pairs ≡ all.pairs → (fields_read (attributes_of xs) d).faults ≡ all.faults → (all.faults ≡ []) × (done ≡ all.pairs)
unfolding fields_read
fields_end d done [] all e pairs faults = (sym faults, sym (append-nil done) ∙ pairs)
fields_end d done (x ∷ xs) all e pairs faults = cc

-- ---- records

object_of : (d : Data) (a : Attributes) (ms : Members) → Some ms ≡ as_object d → value_read (kind.record_of a) d ≡ record_read (names_of a) (fields_read a d) (Some ms)
unfolding value_read
object_of d a ms e = ap (record_read (names_of a) (fields_read a d)) (sym e)

pub record_key_refused : (d : Data) (a : Attributes) (ms : Members) (e : ConformFault) → Some ms ≡ as_object d → Told (extra_faults (names_of a) ms) e → Told (value_read (kind.record_of a) d).faults e
record_key_refused d a ms e is told = subst (λ (r : Read). Told r.faults e) (sym (object_of d a ms is)) (told_first (extra_faults (names_of a) ms) _ e told)

pub record_field_refused : (d : Data) (a : Attributes) (ms : Members) (e : ConformFault) → Some ms ≡ as_object d → Told (fields_read a d).faults e → Told (value_read (kind.record_of a) d).faults e
record_field_refused d a ms e is told = subst (λ (r : Read). Told r.faults e) (sym (object_of d a ms is)) (told_then (extra_faults (names_of a) ms) _ e told)

pub record_refused : (d : Data) (a : Attributes) → None ≡ as_object d → Told (value_read (kind.record_of a) d).faults WrongType
unfolding value_read
record_refused d a e = subst (λ o. Told (record_read (names_of a) (fields_read a d) o).faults WrongType) e (λ n. (0, lit< tt, refl))

-- ---- the pairs of a record ascend

keys_below : (n : List ℕ) (a : Attributes) (d : Data) → AllByRecursion (λ k. text_cmp n k ≡ Less) (names_of a) → AllByRecursion (λ k. text_cmp n k ≡ Less) (map (λ (p : Pair). p.0) (fields_read a d).pairs)
unfolding fields_read
keys_below n no_attributes d all = tt
keys_below n (attribute l r t a) d all = below_here n l r (option_map (value_read t) (get l d)) (fields_read a d) all.0 (keys_below n a d all.1)
  where
    below_here : (n l : List ℕ) (r : Bool) (o : Option Read) (rest : FieldsRead) → text_cmp n l ≡ Less → AllByRecursion (λ k. text_cmp n k ≡ Less) (map (λ (p : Pair). p.0) rest.pairs)
        → AllByRecursion (λ k. text_cmp n k ≡ Less) (map (λ (p : Pair). p.0) ((field_read l r o).pairs ++ rest.pairs))
    below_here n l r None rest h later = later
    below_here n l r (Some x) rest h later = (h, later)

pairs_ascend : (a : Attributes) (d : Data) → IsStrictlySortedBy text_cmp (names_of a) → AreKeysAscending (fields_read a d).pairs
unfolding fields_read IsStrictlySortedBy
pairs_ascend no_attributes d up = tt
pairs_ascend (attribute l r t a) d up = ascend_here l r (option_map (value_read t) (get l d)) (fields_read a d) (keys_below l a d up.0) (pairs_ascend a d up.1)
  where
    ascend_here : (l : List ℕ) (r : Bool) (o : Option Read) (rest : FieldsRead) → AllByRecursion (λ k. text_cmp l k ≡ Less) (map (λ (p : Pair). p.0) rest.pairs) → AreKeysAscending rest.pairs
        → AreKeysAscending ((field_read l r o).pairs ++ rest.pairs)
    ascend_here l r None rest h later = later
    ascend_here l r (Some x) rest h later = (h, later)

pub read_pairs_ascend : (xs : List Attribute) (d : Data) (ps : List Pair) → AreNamesAscending xs → ps ≡ (fields_read (attributes_of xs) d).pairs → AreKeysAscending ps
read_pairs_ascend xs d ps up is = subst AreKeysAscending (sym is) (pairs_ascend (attributes_of xs) d (subst (IsStrictlySortedBy text_cmp) (names_of-attributes_of xs) up))

pub record_is : (d : Data) (a : Attributes) (ms : Members) (r : List Pair) → Some ms ≡ as_object d → extra_faults (names_of a) ms ≡ [] → (fields_read a d).faults ≡ [] → r ≡ (fields_read a d).pairs
    → ((value_read (kind.record_of a) d).faults ≡ []) × (record_of (fields_of r) ≡ (value_read (kind.record_of a) d).value)
record_is d a ms r is extra none pairs =
    let all = object_of d a ms is in
    (ap (λ (x : Read). x.faults) all ∙ ap (λ (fs : List ConformFault). fs ++ (fields_read a d).faults) extra ∙ none, ap (λ (x : List Pair). record_of (fields_of x)) pairs ∙ sym (ap (λ (x : Read). x.value) all))
