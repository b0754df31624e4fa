-- What the readers answer, kind by kind of types, and of sets.
use Rattle.std.proofs.Common.{◌≡◌, ℕ, length, List, [], ◌∷◌, ◌++◌, Result, lit<, refl, sym, ap, ◌∙◌, subst, append_assoc, append-nil}
use Rattle.std.proofs.lemmas.List.Elements.{Contains-append_left, Contains-append_right}
use Rattle.serde_json.specs.Data.{Data, string}
use Rattle.serde_json.specs.Find.{as_bool, as_number, as_str, as_array}
use Rattle.serde_json.specs.View.{view, items_view}
use Rattle.serde_json.specs.declared.value.Value.{Value}
use Rattle.cedar_value.specs.Datum.{Datum}
use Rattle.cedar_schema_types.specs.declared.truth.Truth.{Truth}
use Rattle.cedar_schema_types.specs.declared.types.TypeKind.{TypeKind}
use Rattle.cedar_ext.specs.declared.extension.ExtensionType.{ExtensionType}
use Rattle.cedar_schema_types.specs.declared.types.TypeKind.TheVariants.{Boolean, Long, String, Entity, Set, Record, Extension}
use Rattle.cedar_schema_types.specs.TypeKind.{type_of}
use Rattle.cedar_schema_types.specs.Types.{TypeTree}
use Rattle.cedar_schema_types.specs.Types as kind
use Rattle.cedar_conform_values.specs.declared.conform_fault.ConformFault.{ConformFault}
use Rattle.cedar_conform_values.specs.declared.conform_fault.ConformFault.TheVariants.{WrongType}
use Rattle.cedar_conform_values.specs.Faults.{Told}
use Rattle.cedar_conform_values.specs.Reads.{Reads}
use Rattle.cedar_conform_values.specs.Uids.{uid_object}
use Rattle.cedar_conform_values.specs.Values.{Read, truth_read, long_read, text_read, entity_read, extension_text, extension_read, ValuesRead, all_read, set_read, value_read}

pub told_first : (kf fs : List ConformFault) (e : ConformFault) → Told kf e → Told (kf ++ fs) e
told_first kf fs e h n = Contains-append_left kf fs e (h n)

pub told_then : (kf fs : List ConformFault) (e : ConformFault) → Told fs e → Told (kf ++ fs) e
told_then kf fs e h n = Contains-append_right kf fs e (h n)

-- ---- the kinds of types

module _ (result : Result Datum ConformFault) (t : TypeTree) (d : Data) where
  pub reads_boolean : (f : Truth) → kind.boolean f ≡ t → Reads result (truth_read f (as_bool d)) → Reads result (value_read t d)
  unfolding value_read
  reads_boolean f e h = subst (λ x. Reads result (value_read x d)) e h

  pub reads_long : kind.long ≡ t → Reads result (long_read (as_number d)) → Reads result (value_read t d)
  unfolding value_read
  reads_long e h = subst (λ x. Reads result (value_read x d)) e h

  pub reads_string : kind.string ≡ t → Reads result (text_read (as_str d)) → Reads result (value_read t d)
  unfolding value_read
  reads_string e h = subst (λ x. Reads result (value_read x d)) e h

  pub reads_entity : (n : List ℕ) → kind.entity n ≡ t → Reads result (entity_read n (uid_object d)) → Reads result (value_read t d)
  unfolding value_read
  reads_entity n e h = subst (λ x. Reads result (value_read x d)) e h

  pub reads_set : (u : TypeTree) → kind.set u ≡ t → Reads result (set_read (value_read u) (as_array d)) → Reads result (value_read t d)
  unfolding value_read
  reads_set u e h = subst (λ x. Reads result (value_read x d)) e h

  pub reads_extension : (x : ExtensionType) → kind.extension x ≡ t → Reads result (extension_read x (extension_text x d)) → Reads result (value_read t d)
  unfolding value_read
  reads_extension x e h = subst (λ y. Reads result (value_read y d)) e h

-- a string is a value of strings and of extension types alone
pub text_of_another : (k : TypeKind) (s : List ℕ) → (k ≡ String → ⊥) → ((x : ExtensionType) → k ≡ Extension x → ⊥) → (value_read (type_of k) (string s)).faults ≡ WrongType ∷ []
unfolding value_read
text_of_another (Boolean f) s a b = refl
text_of_another Long s a b = refl
text_of_another String s a b = absurd (a refl)
text_of_another (Entity n) s a b = refl
text_of_another (Set t) s a b = refl
text_of_another (Record r) s a b = refl
text_of_another (Extension x) s a b = absurd (b x refl)

pub text_refused : (t : TypeTree) (k : TypeKind) (s : List ℕ) → type_of k ≡ t → (k ≡ String → ⊥) → ((x : ExtensionType) → k ≡ Extension x → ⊥) → Told (value_read t (string s)).faults WrongType
text_refused t k s e a b =
    subst (λ fs. Told fs WrongType) (sym (text_of_another k s a b) ∙ ap (λ x. (value_read x (string s)).faults) e) (λ n. (0, lit< tt, refl))

-- ---- the items of a set

pub items_more : (f : Data → Read) (done new : List Datum) (xs : List Value) (x : Value) (rest : List Value) (v : Datum) (all : ValuesRead) → xs ≡ x ∷ rest → (f (view x)).faults ≡ [] → v ≡ (f (view x)).value → new ≡ done ++ v ∷ []
    → done ++ (all_read f (items_view xs)).values ≡ all.values → (all_read f (items_view xs)).faults ≡ all.faults
    → (new ++ (all_read f (items_view rest)).values ≡ all.values) × ((all_read f (items_view rest)).faults ≡ all.faults)
unfolding all_read
items_more f done new xs x rest v all e none is more values faults =
    let left = all_read f (items_view rest) in
    let vs : done ++ (f (view x)).value ∷ left.values ≡ all.values = ap (λ (ys : List Value). done ++ (all_read f (items_view ys)).values) (sym e) ∙ values in
    let fs : (f (view x)).faults ++ left.faults ≡ all.faults = ap (λ (ys : List Value). (all_read f (items_view ys)).faults) (sym e) ∙ faults in
    (ap (λ (l : List Datum). l ++ left.values) more ∙ append_assoc done (v ∷ []) left.values ∙ ap (λ (y : Datum). done ++ y ∷ left.values) is ∙ vs, ap (λ (l : List ConformFault). l ++ left.faults) (sym none) ∙ fs)

pub items_refused : (f : Data → Read) (xs : List Value) (x : Value) (rest : List Value) (e : ConformFault) (all : ValuesRead) → xs ≡ x ∷ rest → Told (f (view x)).faults e → (all_read f (items_view xs)).faults ≡ all.faults → Told all.faults e
unfolding all_read
items_refused f xs x rest e all is told faults =
    subst (λ fs. Told fs e) (ap (λ (ys : List Value). (all_read f (items_view ys)).faults) (sym is) ∙ faults) (told_first (f (view x)).faults _ e told)

pub items_end : (f : Data → Read) (done : List Datum) (xs : List Value) (all : ValuesRead) → length xs ≡ 0 → done ++ (all_read f (items_view xs)).values ≡ all.values → (all_read f (items_view xs)).faults ≡ all.faults → (all.faults ≡ []) × (done ≡ all.values)
unfolding all_read
items_end f done [] all e values faults = (sym faults, sym (append-nil done) ∙ values)
items_end f done (x ∷ xs) all e values faults = cc
