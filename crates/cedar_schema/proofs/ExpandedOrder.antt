-- What is expanded has its attributes in order, and shapes and contexts are records.
use Rattle.std.proofs.Common.{◌≡◌, codes, ℕ, zero, suc, Bool, true, false, not, List, [], length, Option, Some, None, option_map, option_and_then, IfSome, refl}
use Rattle.std.specs.List.{slice_get}
use Rattle.serde_json.specs.Data.{Data}
use Rattle.serde_json.specs.Find.{get}
use Rattle.cedar_value.specs.declared.uid.Uid.{Uid}
use Rattle.cedar_schema_types.specs.Types.{TypeTree, Attributes, no_attributes, set, record_of, is_record}
use Rattle.cedar_schema_types.specs.Ordered.{Ascends}
use Rattle.cedar_schema_types.proofs.Inserted.{one_more, none_yet}
use Rattle.cedar_schema_json.specs.declared.json.part.Part.TheVariants.{EntityType, Action, AppliesTo}
use Rattle.cedar_schema_json.specs.declared.schema_fault.SchemaFault.TheVariants.{Shape}
use Rattle.cedar_schema_json.specs.Naming.{fault_if}
use Rattle.cedar_schema_json.specs.Forms.{FormTree, no_form, boolean_form, long_form, string_form, extension_form, entity_form, set_form, record_form, common_form, FormRows, no_form_rows, form_row}
use Rattle.cedar_schema_json.specs.declared.form.position.Position.TheVariants.{Inner}
use Rattle.cedar_schema_json.specs.Reading.{Scope, type_read}
use Rattle.cedar_schema_json.specs.Expansion.{Table, form_type, rows_type, with_row, common_type, typed}
use Rattle.cedar_schema_json.specs.Entries.{unless_null, EntryTree, part_faults, entity_key_faults}
use Rattle.cedar_schema_json.specs.Lists.{names_at, list_at}
use Rattle.cedar_schema_json.specs.Shapes.{record_type, record_or_empty}
use Rattle.cedar_schema.specs.Declaring.{unspecified, member_read, applies_read, entity_type_of, entity_type_faults, action_of, action_faults}
use Rattle.cedar_schema_spec.specs.WellFormed.{IsOrderedRecord}
use Rattle.cedar_schema.proofs.NameEnds.{no_first, no_second}

-- ---- expansion

abbrev Up : Option Attributes → Type 0
Up o = IfSome o (λ a. Ascends (record_of a))

set_up : (o : Option TypeTree) → IfSome o Ascends → IfSome (option_map set o) Ascends
unfolding Ascends
set_up None h = tt
set_up (Some t) h = h

record_up : (o : Option Attributes) → Up o → IfSome (option_map record_of o) Ascends
record_up None h = tt
record_up (Some a) h = h

row_up : (k : List ℕ) (r : Bool) (t : Option TypeTree) (before : Option Attributes) → IfSome t Ascends → Up before → Up (with_row k r t before)
row_up k r None before h up = tt
row_up k r (Some t) None h up = tt
row_up k r (Some t) (Some a) h up = one_more k r t a h up

module _ (names : ℕ → Option TypeTree) (ok : (k : ℕ) → IfSome (names k) Ascends) where
  mutual
    unfolding Ascends

    form_ascends : (f : FormTree) → IfSome (form_type names f) Ascends
    form_ascends no_form = tt
    form_ascends boolean_form = tt
    form_ascends long_form = tt
    form_ascends string_form = tt
    form_ascends (extension_form t) = tt
    form_ascends (entity_form n) = tt
    form_ascends (set_form f) = set_up (form_type names f) (form_ascends f)
    form_ascends (record_form rs) = record_up (rows_type names (Some no_attributes) rs) (rows_ascend rs (Some no_attributes) none_yet)
    form_ascends (common_form n) = ok n

    rows_ascend : (rs : FormRows) (before : Option Attributes) → Up before → Up (rows_type names before rs)
    rows_ascend no_form_rows before up = up
    rows_ascend (form_row k r f rs) before up = rows_ascend rs (with_row k r (form_type names f) before) (row_up k r (form_type names f) before (form_ascends f) up)

one_ascends : (names : ℕ → Option TypeTree) → ((k : ℕ) → IfSome (names k) Ascends) → (o : Option FormTree) → IfSome (option_and_then (form_type names) o) Ascends
one_ascends names ok None = tt
one_ascends names ok (Some f) = form_ascends names ok f

common_ascends : (t : Table) (n k : ℕ) → IfSome (common_type t n k) Ascends
unfolding common_type
common_ascends t zero k = tt
common_ascends t (suc n) k = one_ascends (common_type t n) (common_ascends t n) (slice_get t k)

filled : (o : Option TypeTree) → IfSome o Ascends → Ascends (record_or_empty o)
filled None h = none_yet
filled (Some t) h = h

-- ---- shapes and contexts

all_true : (b : Bool) → fault_if (not b) Shape ≡ [] → b ≡ true
all_true true h = refl
all_true false h = cc

module _ (sc : Scope) (t : Table) where
  record_is : (o : Option Data) → (record_type sc t o).faults ≡ [] → is_record (record_or_empty (record_type sc t o).ty) ≡ true
  unfolding record_type
  record_is None h = refl
  record_is (Some d) h =
      all_true (is_record (record_or_empty (typed t (type_read sc Inner d).form).ty)) (no_second (typed t (type_read sc Inner d).form).faults _ (no_second (type_read sc Inner d).faults _ h))

  shape_is : (e : EntryTree) → entity_type_faults sc t e ≡ [] → is_record (entity_type_of sc t e).shape ≡ true
  unfolding entity_type_faults entity_type_of
  shape_is e h = record_is (get (codes "shape") e.body) (no_second (names_at sc [] (get (codes "memberOfTypes") e.body)).faults _ (no_second (part_faults sc.language EntityType e.body) _ (no_second (entity_key_faults sc e.key) _ h)))

  applied_is : (o : Option Data) → (applies_read sc t o).faults ≡ [] → is_record (applies_read sc t o).context ≡ true
  unfolding applies_read
  applied_is None h = refl
  applied_is (Some d) h =
      record_is (get (codes "context") d) (no_second (names_at sc (unspecified d) (get (codes "resourceTypes") d)).faults _ (no_second (names_at sc (unspecified d) (get (codes "principalTypes") d)).faults _ (no_second (part_faults sc.language AppliesTo d) _ h)))

  context_is : (uids : List Uid) (e : EntryTree) → action_faults sc t uids e ≡ [] → is_record (action_of sc t uids e).context ≡ true
  unfolding action_faults action_of
  context_is uids e h =
      applied_is (unless_null (get (codes "appliesTo") e.body)) (no_first _ _ (no_second (list_at (member_read sc.language uids sc.namespace) [] (unless_null (get (codes "memberOf") e.body))).faults _ (no_second (part_faults sc.language Action e.body) _ h)))

module _ (sc : Scope) (t : Table) where
  record_ascends : (o : Option Data) → Ascends (record_or_empty (record_type sc t o).ty)
  unfolding record_type typed
  record_ascends None = none_yet
  record_ascends (Some d) = filled (form_type (common_type t (length t)) (type_read sc Inner d).form) (form_ascends (common_type t (length t)) (common_ascends t (length t)) (type_read sc Inner d).form)

  shape_ascends : (e : EntryTree) → Ascends (entity_type_of sc t e).shape
  unfolding entity_type_of
  shape_ascends e = record_ascends (get (codes "shape") e.body)

  applied : (o : Option Data) → Ascends (applies_read sc t o).context
  unfolding applies_read
  applied None = none_yet
  applied (Some d) = record_ascends (get (codes "context") d)

  context_ascends : (uids : List Uid) (e : EntryTree) → Ascends (action_of sc t uids e).context
  unfolding action_of
  context_ascends uids e = applied (unless_null (get (codes "appliesTo") e.body))

  pub shape_ordered : (e : EntryTree) → entity_type_faults sc t e ≡ [] → IsOrderedRecord (entity_type_of sc t e).shape
  shape_ordered e fine = (shape_is sc t e fine, shape_ascends e)

  pub context_ordered : (uids : List Uid) (e : EntryTree) → action_faults sc t uids e ≡ [] → IsOrderedRecord (action_of sc t uids e).context
  context_ordered uids e fine = (context_is sc t uids e fine, context_ascends uids e)
