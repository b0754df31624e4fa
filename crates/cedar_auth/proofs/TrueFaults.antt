-- Out of memory is not a fault of a value: what is found in its JSON is always another.
use Rattle.std.proofs.Common.{◌≢◌, ℕ, ℤ, Bool, true, false, not, List, [], ◌∷◌, ◌++◌, Option, Some, None}
use Rattle.std.specs.List.{AllByRecursion}
use Rattle.std.specs.Option.{option_map, option_and_then}
use Rattle.serde_json.specs.Data.{Num, Data, Items, no_items, item, Members, no_members, member}
use Rattle.serde_json.specs.Find.{get, as_bool, as_number, as_str, as_array, as_object, as_i64}
use Rattle.cedar_ext.specs.declared.extension.Extension.{Extension}
use Rattle.cedar_ext.specs.declared.extension.ExtensionType.{ExtensionType}
use Rattle.cedar_ext.specs.Extensions.{extension_of}
use Rattle.cedar_value.specs.Datum.{long, extension}
use Rattle.cedar_value.specs.declared.uid.Uid.{Uid}
use Rattle.cedar_schema_types.specs.declared.truth.Truth.{Truth}
use Rattle.cedar_schema_types.specs.Types.{TypeTree, Attributes, no_attributes, attribute, names_of}
use Rattle.cedar_schema_types.specs.Types as kind
use Rattle.cedar_conform_values.specs.declared.conform_fault.ConformFault.{ConformFault}
use Rattle.cedar_conform_values.specs.declared.conform_fault.ConformFault.TheVariants.{OutOfMemory, WrongType, MissingAttribute, ExtraAttribute, NumberRange}
use Rattle.cedar_conform_values.specs.Faults.{fault_if}
use Rattle.cedar_conform_values.specs.Uids.{uid_object}
use Rattle.cedar_conform_values.specs.Values.{Read, FieldsRead, fine, needed, truth_read, long_read, text_read, entity_read, extension_text, extension_read, all_read, set_read, field_read, is_declared, extra_faults, record_read, value_read, fields_read}

-- each fault is another than out of memory
abbrev pub Others : List ConformFault → Type 0
Others fs = AllByRecursion (λ f. f ≢ OutOfMemory) fs

joined : (fs gs : List ConformFault) → Others fs → Others gs → Others (fs ++ gs)
joined [] gs h k = k
joined (f ∷ fs) gs h k = (h.0, joined fs gs h.1 k)

wrong : WrongType ≢ OutOfMemory
wrong = λ e. cc

range : NumberRange ≢ OutOfMemory
range = λ e. cc

missing : MissingAttribute ≢ OutOfMemory
missing = λ e. cc

extra : ExtraAttribute ≢ OutOfMemory
extra = λ e. cc

tested : (b : Bool) (f : ConformFault) → f ≢ OutOfMemory → Others (fault_if b f)
tested true f h = (h, tt)
tested false f h = tt

of_truth : (f : Truth) (o : Option Bool) → Others (truth_read f o).faults
of_truth f None = (wrong, tt)
of_truth f (Some b) = tested _ WrongType wrong

of_whole : (o : Option ℤ) → Others (needed NumberRange (λ z. fine (long z)) o).faults
of_whole None = (range, tt)
of_whole (Some z) = tt

of_long : (o : Option Num) → Others (long_read o).faults
of_long None = (wrong, tt)
of_long (Some n) = of_whole (as_i64 n)

of_text : (o : Option (List ℕ)) → Others (text_read o).faults
of_text None = (wrong, tt)
of_text (Some s) = tt

of_entity : (n : List ℕ) (o : Option Uid) → Others (entity_read n o).faults
of_entity n None = (wrong, tt)
of_entity n (Some u) = tested _ WrongType wrong

of_read : (o : Option Extension) → Others (needed WrongType (λ e. fine (extension e)) o).faults
of_read None = (wrong, tt)
of_read (Some e) = tt

of_extension : (t : ExtensionType) (o : Option (List ℕ)) → Others (extension_read t o).faults
of_extension t None = (wrong, tt)
of_extension t (Some s) = of_read (extension_of t s)

of_all : (f : Data → Read) → ((d : Data) → Others (f d).faults) → (ds : Items) → Others (all_read f ds).faults
unfolding all_read
of_all f h no_items = tt
of_all f h (item d ds) = joined (f d).faults (all_read f ds).faults (h d) (of_all f h ds)

of_set : (f : Data → Read) → ((d : Data) → Others (f d).faults) → (o : Option Items) → Others (set_read f o).faults
of_set f h None = (wrong, tt)
of_set f h (Some ds) = of_all f h ds

of_extra : (names : List (List ℕ)) (ms : Members) → Others (extra_faults names ms)
of_extra names no_members = tt
of_extra names (member k d ms) = joined (fault_if (not (is_declared names k)) ExtraAttribute) (extra_faults names ms) (tested _ ExtraAttribute extra) (of_extra names ms)

of_record : (names : List (List ℕ)) (r : FieldsRead) → Others r.faults → (o : Option Members) → Others (record_read names r o).faults
of_record names r h None = (wrong, tt)
of_record names r h (Some ms) = joined (extra_faults names ms) r.faults (of_extra names ms) h

of_field : (k : List ℕ) (required : Bool) (f : Data → Read) → ((d : Data) → Others (f d).faults) → (o : Option Data) → Others (field_read k required (option_map f o)).faults
of_field k required f h None = tested required MissingAttribute missing
of_field k required f h (Some d) = h d

mutual
  unfolding value_read

  pub of_value : (t : TypeTree) (d : Data) → Others (value_read t d).faults
  of_value (kind.boolean f) d = of_truth f (as_bool d)
  of_value kind.long d = of_long (as_number d)
  of_value kind.string d = of_text (as_str d)
  of_value (kind.entity n) d = of_entity n (uid_object d)
  of_value (kind.set t) d = of_set (value_read t) (λ x. of_value t x) (as_array d)
  of_value (kind.record_of a) d = of_record (names_of a) (fields_read a d) (of_fields a d) (as_object d)
  of_value (kind.extension t) d = of_extension t (extension_text t d)

  of_fields : (a : Attributes) (d : Data) → Others (fields_read a d).faults
  of_fields no_attributes d = tt
  of_fields (attribute k r t a) d = joined (field_read k r (option_map (value_read t) (get k d))).faults (fields_read a d).faults (of_field k r (value_read t) (λ x. of_value t x) (get k d)) (of_fields a d)
