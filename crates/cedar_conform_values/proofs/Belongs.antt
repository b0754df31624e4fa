-- What is read without fault by a type belongs to the type.
use Rattle.std.proofs.Common.{◌≡◌, ℕ, ℤ, Bool, true, false, not, List, [], ◌∷◌, ◌++◌, Option, Some, None, option_map, option_and_then, refl, sym, ap, subst, Ordering, Less, Equal, Greater}
use Rattle.std.specs.List.{AllByRecursion}
use Rattle.std.specs.Ordering.{match_ordering}
use Rattle.std.specs.Str.{bytes_eq}
use Rattle.std.proofs.lemmas.Slice.Eq.{bytes_eq-Decides}
use Rattle.serde_json.specs.Data.{Num, Data, Items, no_items, item, Members}
use Rattle.serde_json.specs.Find.{get, as_bool, as_number, as_str, as_array, as_object, as_i64}
use Rattle.cedar_ext.specs.declared.extension.Extension.{Extension}
use Rattle.cedar_ext.specs.declared.extension.ExtensionType.{ExtensionType}
use Rattle.cedar_ext.specs.Extensions.{extension_of}
use Rattle.cedar_ext.specs.Private.ExtensionLemmas.{extension_of-typed}
use Rattle.cedar_value.specs.Ascending.{insert_in}
use Rattle.cedar_value.specs.Datum.{Datum, long, extension, members_of, list_of, fields_of, pairs_of}
use Rattle.cedar_value.specs.Order.{datum_cmp}
use Rattle.cedar_value.specs.Records.{value_at}
use Rattle.cedar_value.specs.Sets.{set_from}
use Rattle.cedar_value.specs.declared.uid.Uid.{Uid}
use Rattle.cedar_schema_types.specs.declared.truth.Truth.{Truth}
use Rattle.cedar_schema_types.specs.declared.truth.Truth.TheVariants.{True, False, Any}
use Rattle.cedar_schema_types.specs.Types.{TypeTree, Attributes, no_attributes, attribute, names_of}
use Rattle.cedar_schema_types.specs.Types as kind
use Rattle.cedar_conform_values.specs.declared.conform_fault.ConformFault.{ConformFault}
use Rattle.cedar_conform_values.specs.declared.conform_fault.ConformFault.TheVariants.{WrongType, MissingAttribute, NumberRange}
use Rattle.cedar_conform_values.specs.Belonging.{ReadValuesBelong}
use Rattle.cedar_conform_values.specs.Faults.{fault_if}
use Rattle.cedar_schema_types.specs.Membership.{Member, At, MayStand, Choose, IsBoolean, HasTruth, IsLong, IsText, IsEntity, HasExtensionType, IsSetOf, IsRecord}
use Rattle.cedar_conform_values.specs.Uids.{uid_object}
use Rattle.cedar_conform_values.specs.Values.{Read, fine, needed, truth_read, long_read, text_read, entity_read, extension_text, extension_read, all_read, set_read, FieldsRead, field_read, before, extra_faults, record_read, value_read, fields_read}

pub no_first : {A : Type 0} (xs ys : List A) → xs ++ ys ≡ [] → xs ≡ []
no_first [] ys h = refl
no_first (x ∷ xs) ys h = cc

pub no_second : {A : Type 0} (xs ys : List A) → xs ++ ys ≡ [] → ys ≡ []
no_second [] ys h = h
no_second (x ∷ xs) ys h = cc

pub no_fault : (b : Bool) (e : ConformFault) → fault_if b e ≡ [] → b ≡ false
no_fault true e h = cc
no_fault false e h = refl

-- ---- what has no value inside

truth_belongs : (f : Truth) (o : Option Bool) → (truth_read f o).faults ≡ [] → IsBoolean (HasTruth f) (truth_read f o).value
truth_belongs f None h = cc
truth_belongs True (Some true) h = refl
truth_belongs True (Some false) h = cc
truth_belongs False (Some true) h = cc
truth_belongs False (Some false) h = refl
truth_belongs Any (Some b) h = tt

whole_belongs : (o : Option ℤ) → (needed NumberRange (λ z. fine (long z)) o).faults ≡ [] → IsLong (needed NumberRange (λ z. fine (long z)) o).value
whole_belongs None h = cc
whole_belongs (Some z) h = tt

long_belongs : (o : Option Num) → (long_read o).faults ≡ [] → IsLong (long_read o).value
long_belongs None h = cc
long_belongs (Some n) h = whole_belongs (as_i64 n) h

text_belongs : (o : Option (List ℕ)) → (text_read o).faults ≡ [] → IsText (text_read o).value
text_belongs None h = cc
text_belongs (Some s) h = tt

true_from : (b : Bool) → not b ≡ false → b ≡ true
true_from true h = refl
true_from false h = cc

entity_belongs : (n : List ℕ) (o : Option Uid) → (entity_read n o).faults ≡ [] → IsEntity n (entity_read n o).value
entity_belongs n None h = cc
entity_belongs n (Some u) h = (bytes_eq-Decides u.ty n).0 (true_from (bytes_eq u.ty n) (no_fault _ WrongType h))

read_belongs : (t : ExtensionType) (s : List ℕ) (o : Option Extension) → extension_of t s ≡ o → (needed WrongType (λ e. fine (extension e)) o).faults ≡ [] → HasExtensionType t (needed WrongType (λ e. fine (extension e)) o).value
read_belongs t s None q h = cc
read_belongs t s (Some e) q h = extension_of-typed t s e q

extension_belongs : (t : ExtensionType) (o : Option (List ℕ)) → (extension_read t o).faults ≡ [] → HasExtensionType t (extension_read t o).value
extension_belongs t None h = cc
extension_belongs t (Some s) h = read_belongs t s (extension_of t s) refl h

-- ---- sets

pub list_of-members_of : (ds : List Datum) → list_of (members_of ds) ≡ ds
list_of-members_of [] = refl
list_of-members_of (d ∷ ds) = ap (λ (xs : List Datum). d ∷ xs) (list_of-members_of ds)

all_inserted : (P : Datum → Type 0) (x : Datum) (ys : List Datum) → P x → AllByRecursion P ys → AllByRecursion P (insert_in datum_cmp x ys)
all_inserted P x [] p all = (p, tt)
all_inserted P x (y ∷ ys) p all = at (datum_cmp x y) (all_inserted P x ys p all.1)
  where
    at : (o : Ordering) → AllByRecursion P (insert_in datum_cmp x ys) → AllByRecursion P (match_ordering o (x ∷ y ∷ ys) (y ∷ ys) (y ∷ insert_in datum_cmp x ys))
    at Less later = (p, all)
    at Equal later = all
    at Greater later = (all.0, later)

all_in_set : (P : Datum → Type 0) (xs : List Datum) → AllByRecursion P xs → AllByRecursion P (set_from xs)
all_in_set P [] all = tt
all_in_set P (x ∷ xs) all = all_inserted P x (set_from xs) all.0 (all_in_set P xs all.1)

items_belong : (P : Datum → Type 0) (f : Data → Read) → ((d : Data) → (f d).faults ≡ [] → P (f d).value) → (ds : Items) → (all_read f ds).faults ≡ [] → AllByRecursion P (all_read f ds).values
unfolding all_read
items_belong P f each no_items h = tt
items_belong P f each (item d ds) h = (each d (no_first _ _ h), items_belong P f each ds (no_second (f d).faults _ h))

set_belongs : (P : Datum → Type 0) (f : Data → Read) → ((d : Data) → (f d).faults ≡ [] → P (f d).value) → (o : Option Items) → (set_read f o).faults ≡ [] → IsSetOf P (set_read f o).value
set_belongs P f each None h = cc
set_belongs P f each (Some ds) h = subst (AllByRecursion P) (sym (list_of-members_of (set_from (all_read f ds).values))) (all_in_set P (all_read f ds).values (items_belong P f each ds h))

-- ---- records

pub pairs_of-fields_of : (ps : List (List ℕ × Datum)) → pairs_of (fields_of ps) ≡ ps
pairs_of-fields_of [] = refl
pairs_of-fields_of (p ∷ ps) = ap (λ (xs : List (List ℕ × Datum)). p ∷ xs) (pairs_of-fields_of ps)

record_belongs : (P : List ℕ → Option Datum → Type 0) (names : List (List ℕ)) (r : FieldsRead) → (r.faults ≡ [] → (k : List ℕ) → P k (value_at k r.pairs)) → (o : Option Members) → (record_read names r o).faults ≡ [] → IsRecord P (record_read names r o).value
record_belongs P names r each None h = cc
record_belongs P names r each (Some ms) h = λ k. subst (λ ps. P k (value_at k ps)) (sym (pairs_of-fields_of r.pairs)) (each (no_second (extra_faults names ms) r.faults h) k)

-- an attribute that the JSON does not have is not among the pairs
absent_here : (k l : List ℕ) (r : Bool) (f : Data → Read) (rest : FieldsRead) (d : Data) (o : Option Data) (b : Bool) → get k d ≡ None → get l d ≡ o → bytes_eq l k ≡ b → value_at k rest.pairs ≡ None
    → value_at k (before (field_read l r (option_map f o)) rest).pairs ≡ None
absent_here k l r f rest d None b h g e later = later
absent_here k l r f rest d (Some x) true h g e later =
    let same : l ≡ k = (bytes_eq-Decides l k).0 e in
    let found : get k d ≡ Some x = subst (λ y. get y d ≡ Some x) same g in cc
absent_here k l r f rest d (Some x) false h g e later = rw e later

absent_at : (k : List ℕ) (a : Attributes) (d : Data) → get k d ≡ None → value_at k (fields_read a d).pairs ≡ None
unfolding fields_read
absent_at k no_attributes d h = refl
absent_at k (attribute l r t a) d h = absent_here k l r (value_read t) (fields_read a d) d (get l d) (bytes_eq l k) h refl refl (absent_at k a d h)

-- one attribute, and those after it
field_belongs : (P : Datum → Type 0) (Q : List ℕ → Option Datum → Type 0) (f : Data → Read) (rest : FieldsRead) (l : List ℕ) (r : Bool) (k : List ℕ) (o : Option Data) (b : Bool) → bytes_eq l k ≡ b
    → (b ≡ true → o ≡ None → value_at k rest.pairs ≡ None)
    → ((x : Data) → (f x).faults ≡ [] → P (f x).value) → (rest.faults ≡ [] → Q k (value_at k rest.pairs))
    → (before (field_read l r (option_map f o)) rest).faults ≡ []
    → Choose b (MayStand r P (value_at k (before (field_read l r (option_map f o)) rest).pairs)) (Q k (value_at k (before (field_read l r (option_map f o)) rest).pairs))
field_belongs P Q f rest l r k None true e absent one later h = rw (absent refl refl) (no_fault r MissingAttribute (no_first _ _ h))
field_belongs P Q f rest l r k None false e absent one later h = later (no_second (fault_if r MissingAttribute) _ h)
field_belongs P Q f rest l r k (Some x) true e absent one later h = rw e (one x (no_first _ _ h))
field_belongs P Q f rest l r k (Some x) false e absent one later h = rw e (later (no_second (f x).faults _ h))

mutual
  unfolding value_read fields_read

  pub value_belongs : (t : TypeTree) (d : Data) → (value_read t d).faults ≡ [] → Member t (value_read t d).value
  value_belongs (kind.boolean f) d h = truth_belongs f (as_bool d) h
  value_belongs kind.long d h = long_belongs (as_number d) h
  value_belongs kind.string d h = text_belongs (as_str d) h
  value_belongs (kind.entity n) d h = entity_belongs n (uid_object d) h
  value_belongs (kind.set t) d h = set_belongs (Member t) (value_read t) (value_belongs t) (as_array d) h
  value_belongs (kind.record_of a) d h = record_belongs (At a) (names_of a) (fields_read a d) (fields_belong a d) (as_object d) h
  value_belongs (kind.extension t) d h = extension_belongs t (extension_text t d) h

  fields_belong : (a : Attributes) (d : Data) → (fields_read a d).faults ≡ [] → (k : List ℕ) → At a k (value_at k (fields_read a d).pairs)
  fields_belong no_attributes d h k = tt
  fields_belong (attribute l r t a) d h k =
      field_belongs (Member t) (At a) (value_read t) (fields_read a d) l r k (get l d) (bytes_eq l k) refl
      (λ e g. absent_at k a d (subst (λ y. get y d ≡ None) ((bytes_eq-Decides l k).0 e) g))
      (value_belongs t) (λ none. fields_belong a d none k) h

pub read_values_belong : ReadValuesBelong
read_values_belong = value_belongs
