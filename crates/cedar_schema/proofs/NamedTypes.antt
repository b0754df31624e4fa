-- Each entity type that a schema's JSON names in a type is declared.
use Rattle.std.proofs.Common.{codes, ℕ, zero, suc, bytes_eq, Bool, true, false, cond, List, [], ◌∷◌, ◌++◌, length, Option, Some, None, option_map, option_and_then, unwrap_or, IfSome, Contains, Ordering, Less, Equal, Greater}
use Rattle.std.specs.List.{slice_get, AllByRecursion}
use Rattle.std.specs.Ordering.{nat_cmp, match_ordering}
use Rattle.std.specs.Cmp.Lexicographic.{slice_cmp}
use Rattle.serde_json.specs.Data.{Data, null, boolean, number, string, array, object, Members, no_members, member}
use Rattle.serde_json.specs.Find.{get}
use Rattle.cedar_ext.specs.declared.extension.ExtensionType.{ExtensionType}
use Rattle.cedar_ext.specs.Extensions as extension
use Rattle.cedar_ext.specs.declared.language.Language.{Language}
use Rattle.cedar_ext.specs.declared.language.Language.TheVariants.{Profile, Cedar4}
use Rattle.cedar_value.specs.Order.{text_cmp}
use Rattle.cedar_value.specs.declared.uid.Uid.{Uid}
use Rattle.cedar_schema_types.specs.Types.{TypeTree, Attributes, no_attributes, attribute}
use Rattle.cedar_schema_types.specs.Types as kind
use Rattle.cedar_schema_types.specs.Ordered.{with_attribute}
use Rattle.cedar_schema_json.specs.declared.schema_fault.SchemaFault.TheVariants.{UnknownType}
use Rattle.cedar_schema_json.specs.declared.form.position.Position.{Position}
use Rattle.cedar_schema_json.specs.declared.form.position.Position.TheVariants.{Inner, CommonType, Attribute}
use Rattle.cedar_schema_json.specs.Naming.{Declared, or_else, place_of, resolved, text_faults, whole_name}
use Rattle.cedar_schema_json.specs.Forms.{FormTree, no_form, boolean_form, long_form, string_form, extension_form, entity_form, set_form, record_form, common_form, FormRows, no_form_rows, form_row}
use Rattle.cedar_schema_json.specs.Reading.{Read, RowsRead, Scope, fine, no_rows_read, of_kind, of_type, kind_in, kind_named, named_read, either_read, declared_type, type_called, built_in, is_called, text_at, needed, set_of, record_of, entity_read, extension_named, type_read, read_at, rows_at, rows_read, all_rows}
use Rattle.cedar_schema_json.specs.Expansion.{Table, form_type, rows_type, with_row, common_type, typed}
use Rattle.cedar_schema_json.specs.Entries.{EntryTree, unless_null}
use Rattle.cedar_schema_json.specs.Shapes.{record_type, record_or_empty}
use Rattle.cedar_schema.specs.Declaring.{applies_read, entity_type_of, action_of}
use Rattle.cedar_schema.specs.Schemas.{scope_at, forms_of}
use Rattle.cedar_schema_spec.specs.WellFormed.{NamesOnly, AttributesNameOnly}
use Rattle.cedar_schema.specs.Private.NamedForms.{FormNames, RowsName}
use Rattle.cedar_schema.proofs.ResolvedNames.{IsOf, placed, resolved_in}

-- ---- more names

module _ (names more : List (List ℕ)) (among : (n : List ℕ) → Contains names n → Contains more n) where
  mutual
    pub names_more : (t : TypeTree) → NamesOnly names t → NamesOnly more t
    names_more (kind.boolean b) h = tt
    names_more kind.long h = tt
    names_more kind.string h = tt
    names_more (kind.entity n) h = among n h
    names_more (kind.set t) h = names_more t h
    names_more (kind.record_of a) h = attributes_more a h
    names_more (kind.extension t) h = tt

    attributes_more : (a : Attributes) → AttributesNameOnly names a → AttributesNameOnly more a
    attributes_more no_attributes h = tt
    attributes_more (attribute k r t rest) h = (names_more t h.0, attributes_more rest h.1)

-- ---- expansion

module _ (names : List (List ℕ)) where
  one_more : (k : List ℕ) (r : Bool) (t : TypeTree) (a : Attributes) → NamesOnly names t → AttributesNameOnly names a → AttributesNameOnly names (with_attribute k r t a)
  one_more k r t no_attributes h g = (h, tt)
  one_more k r t (attribute l q u rest) h g = at (text_cmp k l) (one_more k r t rest h g.1)
    where
      at : (c : Ordering) → AttributesNameOnly names (with_attribute k r t rest) → AttributesNameOnly names (match_ordering c (attribute k r t (attribute l q u rest)) (attribute k r t rest) (attribute l q u (with_attribute k r t rest)))
      at Less later = (h, g)
      at Equal later = (h, g.1)
      at Greater later = (g.0, later)

  set_names : (o : Option TypeTree) → IfSome o (NamesOnly names) → IfSome (option_map kind.set o) (NamesOnly names)
  set_names None h = tt
  set_names (Some t) h = h

  record_names : (o : Option Attributes) → IfSome o (AttributesNameOnly names) → IfSome (option_map kind.record_of o) (NamesOnly names)
  record_names None h = tt
  record_names (Some a) h = h

  row_names : (k : List ℕ) (r : Bool) (t : Option TypeTree) (before : Option Attributes) → IfSome t (NamesOnly names) → IfSome before (AttributesNameOnly names) → IfSome (with_row k r t before) (AttributesNameOnly names)
  row_names k r None before h g = tt
  row_names k r (Some t) None h g = tt
  row_names k r (Some t) (Some a) h g = one_more k r t a h g

  module _ (commons : ℕ → Option TypeTree) (ok : (k : ℕ) → IfSome (commons k) (NamesOnly names)) where
    mutual
      form_typed : (f : FormTree) → FormNames names f → IfSome (form_type commons f) (NamesOnly names)
      form_typed no_form h = tt
      form_typed boolean_form h = tt
      form_typed long_form h = tt
      form_typed string_form h = tt
      form_typed (extension_form t) h = tt
      form_typed (entity_form n) h = h
      form_typed (set_form f) h = set_names (form_type commons f) (form_typed f h)
      form_typed (record_form rs) h = record_names (rows_type commons (Some no_attributes) rs) (rows_typed rs (Some no_attributes) h tt)
      form_typed (common_form k) h = ok k

      rows_typed : (rs : FormRows) (before : Option Attributes) → RowsName names rs → IfSome before (AttributesNameOnly names) → IfSome (rows_type commons before rs) (AttributesNameOnly names)
      rows_typed no_form_rows before h g = g
      rows_typed (form_row k r f rs) before h g = rows_typed rs (with_row k r (form_type commons f) before) h.1 (row_names k r (form_type commons f) before (form_typed f h.0) g)

    one_typed : (o : Option FormTree) → IfSome o (FormNames names) → IfSome (option_and_then (form_type commons) o) (NamesOnly names)
    one_typed None h = tt
    one_typed (Some f) h = form_typed f h

  place_named : (t : Table) → AllByRecursion (FormNames names) t → (k : ℕ) → IfSome (slice_get t k) (FormNames names)
  place_named [] h k = tt
  place_named (f ∷ fs) h zero = h.0
  place_named (f ∷ fs) h (suc k) = place_named fs h.1 k

  common_named : (t : Table) → AllByRecursion (FormNames names) t → (n k : ℕ) → IfSome (common_type t n k) (NamesOnly names)
  unfolding common_type
  common_named t h zero k = tt
  common_named t h (suc n) k = one_typed (common_type t n) (common_named t h n) (slice_get t k) (place_named t h k)

  filled : (o : Option TypeTree) → IfSome o (NamesOnly names) → NamesOnly names (record_or_empty o)
  filled None h = tt
  filled (Some t) h = h

-- ---- what is read

picked : {A : Type 0} (P : A → Type 0) (c : Ordering) (x : Option A) (y : A) → IfSome x P → P y → IfSome (match_ordering c x (Some y) x) P
picked P Less x y h g = h
picked P Equal x y h g = g
picked P Greater x y h g = h

-- what holds of both holds of either
pub of_either : {K : Type 0} (P : K → Type 0) (b : Bool) (x y : K) → P x → P y → P (cond b x y)
of_either P true x y h g = h
of_either P false x y h g = g

module _ (sc : Scope) where
  abbrev ReadNames : Read → Type 0
  ReadNames r = FormNames sc.entities r.form

  abbrev RowsReadName : RowsRead → Type 0
  RowsReadName r = RowsName sc.entities r.rows

  entity_made : (o : Option Declared) → IfSome o (IsOf sc.entities) → FormNames sc.entities (unwrap_or (option_map (λ (n : Declared). entity_form n.0) o) no_form)
  entity_made None h = tt
  entity_made (Some n) h = h

  common_made : (o : Option Declared) → FormNames sc.entities (unwrap_or (option_map (λ (n : Declared). common_form n.1) o) no_form)
  common_made None = tt
  common_made (Some n) = tt

  entity_named : (o : Option (List ℕ)) → ReadNames (entity_read sc o)
  entity_named None = tt
  entity_named (Some s) = entity_made (resolved sc.entities sc.namespace s) (resolved_in sc.entities sc.namespace s)

  extension_is : (s : List ℕ) (o : Option ExtensionType) → ReadNames (unwrap_or (option_map (λ (t : ExtensionType). fine (extension_form t)) o) (record { form = no_form; faults = text_faults s ++ UnknownType ∷ [] }))
  extension_is s None = tt
  extension_is s (Some t) = tt

  extension_read_named : (o : Option (List ℕ)) → ReadNames (needed (extension_named sc.language) o)
  extension_read_named None = tt
  extension_read_named (Some s) = extension_is s (extension.type_in sc.language s)

  set_read : (el : Option Read) → IfSome el ReadNames → ReadNames (needed set_of el)
  set_read None h = tt
  set_read (Some r) h = h

  record_read : (rs : Option RowsRead) → IfSome rs RowsReadName → ReadNames (record_of (unwrap_or rs no_rows_read))
  record_read None h = tt
  record_read (Some r) h = h

  -- ---- names of any type

  entity_placed : (n : List ℕ) (o : Option ℕ) → IfSome (option_map (λ place. (n, place)) o) (IsOf sc.entities) → IfSome (option_map (λ (p : ℕ). entity_form n) o) (FormNames sc.entities)
  entity_placed n None h = tt
  entity_placed n (Some p) h = h

  common_placed : (o : Option ℕ) → IfSome (option_map common_form o) (FormNames sc.entities)
  common_placed None = tt
  common_placed (Some p) = tt

  first_or : (o p : Option FormTree) → IfSome o (FormNames sc.entities) → IfSome p (FormNames sc.entities) → IfSome (or_else o p) (FormNames sc.entities)
  first_or None p h g = g
  first_or (Some f) p h g = h

  declared_named : (n : List ℕ) → IfSome (declared_type sc n) (FormNames sc.entities)
  declared_named n =
      first_or (option_map common_form (place_of sc.commons n)) (option_map (λ (p : ℕ). entity_form n) (place_of sc.entities n)) (common_placed (place_of sc.commons n)) (entity_placed n (place_of sc.entities n) (placed sc.entities 0 n))

  built_in_named : (s : List ℕ) → IfSome (built_in s) (FormNames sc.entities)
  unfolding built_in
  built_in_named s =
      of_either (λ o. IfSome o (FormNames sc.entities)) (is_called s (codes "Long")) _ _ tt
      (of_either (λ o. IfSome o (FormNames sc.entities)) (is_called s (codes "String")) _ _ tt
      (of_either (λ o. IfSome o (FormNames sc.entities)) (is_called s (codes "Bool")) _ _ tt
      (of_either (λ o. IfSome o (FormNames sc.entities)) (is_called s (codes "Boolean")) _ _ tt
      (of_either (λ o. IfSome o (FormNames sc.entities)) (is_called s (codes "decimal")) _ _ tt
      (of_either (λ o. IfSome o (FormNames sc.entities)) (is_called s (codes "ipaddr")) _ _ tt
      (of_either (λ o. IfSome o (FormNames sc.entities)) (is_called s (codes "datetime")) _ _ tt
      (of_either (λ o. IfSome o (FormNames sc.entities)) (is_called s (codes "duration")) _ _ tt tt)))))))

  called_named : (s : List ℕ) → IfSome (type_called sc s) (FormNames sc.entities)
  unfolding type_called
  called_named s = first_or (declared_type sc (whole_name sc.namespace s)) _ (declared_named (whole_name sc.namespace s)) (first_or (declared_type sc s) (built_in s) (declared_named s) (built_in_named s))

  either_named : (s : List ℕ) (o : Option FormTree) → IfSome o (FormNames sc.entities) → ReadNames (unwrap_or (option_map fine o) (record { form = no_form; faults = text_faults s ++ UnknownType ∷ [] }))
  either_named s None h = tt
  either_named s (Some f) h = h

  either_or_none : (o : Option (List ℕ)) → ReadNames (needed (either_read sc) o)
  either_or_none None = tt
  either_or_none (Some s) = either_named s (type_called sc s) (called_named s)

  name_read : (language : Language) (s : List ℕ) → ReadNames (named_read language sc s)
  name_read Profile s = common_made (resolved sc.commons sc.namespace s)
  name_read Cedar4 s = either_named s (type_called sc s) (called_named s)

  kind_read : (d : Data) (s : List ℕ) (el : Option Read) (rs : Option RowsRead) → IfSome el ReadNames → IfSome rs RowsReadName → ReadNames (of_kind sc d s (kind_named s) el rs)
  unfolding kind_named
  kind_read d s el rs h g =
      of_either (λ k. ReadNames (of_kind sc d s k el rs)) (bytes_eq s (codes "Boolean")) _ _ tt
      (of_either (λ k. ReadNames (of_kind sc d s k el rs)) (bytes_eq s (codes "Long")) _ _ tt
      (of_either (λ k. ReadNames (of_kind sc d s k el rs)) (bytes_eq s (codes "String")) _ _ tt
      (of_either (λ k. ReadNames (of_kind sc d s k el rs)) (bytes_eq s (codes "Set")) _ _ (set_read el h)
      (of_either (λ k. ReadNames (of_kind sc d s k el rs)) (bytes_eq s (codes "Record")) _ _ (record_read rs g)
      (of_either (λ k. ReadNames (of_kind sc d s k el rs)) (bytes_eq s (codes "Entity")) _ _ (entity_named (text_at (codes "name") d))
      (of_either (λ k. ReadNames (of_kind sc d s k el rs)) (bytes_eq s (codes "Extension")) _ _ (extension_read_named (text_at (codes "name") d))
      (name_read sc.language s)))))))

  kind_read_in : (language : Language) (d : Data) (s : List ℕ) (el : Option Read) (rs : Option RowsRead) → IfSome el ReadNames → IfSome rs RowsReadName → ReadNames (of_kind sc d s (kind_in language s) el rs)
  unfolding kind_in
  kind_read_in Profile d s el rs h g = kind_read d s el rs h g
  kind_read_in Cedar4 d s el rs h g = of_either (λ k. ReadNames (of_kind sc d s k el rs)) (bytes_eq s (codes "EntityOrCommon")) _ _ (either_or_none (text_at (codes "name") d)) (kind_read d s el rs h g)

  type_named : (a : Position) (d : Data) (el : Option Read) (rs : Option RowsRead) (o : Option (List ℕ)) → IfSome el ReadNames → IfSome rs RowsReadName → ReadNames (of_type sc a d el rs o)
  type_named a d el rs None h g = tt
  type_named a d el rs (Some s) h g = kind_read_in sc.language d s el rs h g

  mutual
    unfolding type_read read_at rows_at rows_read all_rows

    pub read_named : (a : Position) (d : Data) → ReadNames (type_read sc a d)
    read_named a null = tt
    read_named a (boolean b) = tt
    read_named a (number n) = tt
    read_named a (string s) = tt
    read_named a (array ds) = tt
    read_named a (object ms) =
        type_named a (object ms) (read_at sc (codes "element") ms) (rows_at sc (codes "attributes") ms) (text_at (codes "type") (object ms)) (element_named (codes "element") ms) (attributes_named (codes "attributes") ms)

    element_named : (k : List ℕ) (ms : Members) → IfSome (read_at sc k ms) ReadNames
    element_named k no_members = tt
    element_named k (member l d ms) = picked ReadNames (slice_cmp nat_cmp k l) (read_at sc k ms) (type_read sc Inner d) (element_named k ms) (read_named Inner d)

    attributes_named : (k : List ℕ) (ms : Members) → IfSome (rows_at sc k ms) RowsReadName
    attributes_named k no_members = tt
    attributes_named k (member l d ms) = picked RowsReadName (slice_cmp nat_cmp k l) (rows_at sc k ms) (rows_read sc d) (attributes_named k ms) (rows_named d)

    rows_named : (d : Data) → RowsReadName (rows_read sc d)
    rows_named null = tt
    rows_named (boolean b) = tt
    rows_named (number n) = tt
    rows_named (string s) = tt
    rows_named (array ds) = tt
    rows_named (object ms) = all_named ms

    all_named : (ms : Members) → RowsReadName (all_rows sc ms)
    all_named no_members = tt
    all_named (member k d ms) = (read_named Attribute d, all_named ms)

pub forms_named : (language : Language) (entities commons : List (List ℕ)) (xs : List EntryTree) → AllByRecursion (FormNames entities) (forms_of language entities commons xs)
forms_named language entities commons [] = tt
forms_named language entities commons (x ∷ xs) = (read_named (scope_at language entities commons x.namespace) CommonType x.body, forms_named language entities commons xs)

-- ---- shapes and contexts

module _ (sc : Scope) (t : Table) (forms : AllByRecursion (FormNames sc.entities) t) where
  record_named : (o : Option Data) → NamesOnly sc.entities (record_or_empty (record_type sc t o).ty)
  unfolding record_type typed
  record_named None = tt
  record_named (Some d) =
      filled sc.entities (form_type (common_type t (length t)) (type_read sc Inner d).form)
      (form_typed sc.entities (common_type t (length t)) (common_named sc.entities t forms (length t)) (type_read sc Inner d).form (read_named sc Inner d))

  pub shape_named : (e : EntryTree) → NamesOnly sc.entities (entity_type_of sc t e).shape
  unfolding entity_type_of
  shape_named e = record_named (get (codes "shape") e.body)

  applied_named : (o : Option Data) → NamesOnly sc.entities (applies_read sc t o).context
  unfolding applies_read
  applied_named None = tt
  applied_named (Some d) = record_named (get (codes "context") d)

  pub context_named : (uids : List Uid) (e : EntryTree) → NamesOnly sc.entities (action_of sc t uids e).context
  unfolding action_of
  context_named uids e = applied_named (unless_null (get (codes "appliesTo") e.body))
