use Rattle.std.proofs.Common.{◌≡◌, [], length, refl, sym, ap, subst, ◌∙◌, arith}
use Rattle.std.proofs.lemmas.List.{nil_from_length}
use Rattle.serde_json.specs.Data.{no_members, object}
use Rattle.cedar_value.specs.Datum.{Datum, fields_of}
use Rattle.cedar_value.specs.Datum as datum
use Rattle.cedar_schema_types.specs.Types.{Attributes, no_attributes, record_of}
use Rattle.cedar_schema_types.specs.TypeKind.{attributes_of}
use Rattle.cedar_conform_values.specs.Values.{value_read}
use Rattle.cedar_conform.proofs.context.absent_context.Goals as goal

-- the empty object is read as the record without keys
abbrev Empty : Attributes → Type 0
Empty a = ((value_read (record_of a) (object no_members)).faults ≡ []) × (datum.record_of (fields_of []) ≡ (value_read (record_of a) (object no_members)).value)

empty : Empty no_attributes
unfolding value_read
empty = (refl, refl)

pub returns-then-is_empty : goal.returns-then-is_empty
returns-then-is_empty c =
    let listed = c.attributes.result.now in
    let count : length listed ≡ 0 = grind arith in
    let none : no_attributes ≡ c.args.attributes.now = sym (ap attributes_of (nil_from_length listed count)) ∙ c.attributes.ensures.attributes in
    rw c.new.ensures (subst Empty none empty)
