use Rattle.std.proofs.Common.{refl}
use Rattle.serde_json.specs.Data.{no_members}
use Rattle.base_json.specs.LentObjects.{object_view, put_all}
use Rattle.cedar_conform_values.proofs.FieldLemmas.{record_field_refused, record_key_refused}
use Rattle.cedar_conform_values.proofs.lent_record.first_fault.Goals as goal

pub returns-in-Ok : goal.returns-in-Ok
returns-in-Ok c =
    let o = c.args.found.now in
    record_field_refused (object_view o) c.args.attributes.now (put_all o.members.items no_members) c.args.fault refl c.requires

pub returns-in-Err : goal.returns-in-Err
returns-in-Err c =
    let o = c.args.found.now in
    record_key_refused (object_view o) c.args.attributes.now (put_all o.members.items no_members) c.in-Err.extra refl c.in-Err.ensures
