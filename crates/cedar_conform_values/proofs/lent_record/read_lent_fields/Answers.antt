use Rattle.std.proofs.lemmas.Result.{err_from_is_err_and}
use Rattle.base_json.specs.LentObjects.{object_view}
use Rattle.cedar_schema_types.specs.TypeKind.{attributes_of}
use Rattle.cedar_conform_values.specs.Values.{fields_read}
use Rattle.cedar_conform_values.proofs.FieldLemmas.{fields_more, fields_refused, fields_end}
use Rattle.cedar_conform_values.proofs.lent_record.read_lent_fields.Goals as goal

pub returns-in_err-add_lent_field : goal.returns-in_err-add_lent_field
returns-in_err-add_lent_field c =
    let p = err_from_is_err_and c.from_residual-in_err-add_lent_field.result c.from_residual-in_err-add_lent_field.ensures.1 in
    let d = object_view c.args.found.now in
    rw (p.1, p.2) (fields_refused d c.walk.rest.now c.in-Some.attribute.now c.in-Some.others.now _ (fields_read (attributes_of c.args.attributes.now) d) c.in-Some.ensures.cases.0 c.in_err-add_lent_field.ensures c.walk.invariant.faults)

pub walk-preserved : goal.walk-preserved
walk-preserved c =
    let d = object_view c.args.found.now in
    let more = fields_more d c.walk.pairs.items c.add_lent_field.new.pairs.items c.walk.rest.now c.in-Some.attribute.now c.in-Some.others.now (fields_read (attributes_of c.args.attributes.now) d) c.in-Some.ensures.cases.0 c.in_ok-add_lent_field.ensures.0 c.in_ok-add_lent_field.ensures.1 c.walk.invariant.pairs c.walk.invariant.faults in
    record { pairs = more.0; faults = more.1 }

pub returns : goal.returns
returns c =
    let d = object_view c.args.found.now in
    fields_end d c.walk.pairs.items c.walk.rest.now (fields_read (attributes_of c.args.attributes.now) d) c.in_default.ensures.cases c.walk.invariant.pairs c.walk.invariant.faults
