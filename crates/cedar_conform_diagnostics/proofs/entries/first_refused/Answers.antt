use Rattle.std.proofs.Common.{ap, sym, ◌∙◌}
use Rattle.base_json.specs.Items.{to_come}
use Rattle.cedar_conform_diagnostics.specs.Private.Passing.{list_of}
use Rattle.cedar_conform_diagnostics.specs.declared.data_fault.RefusedEntry.{RefusedEntry}
use Rattle.cedar_conform_diagnostics.proofs.PassingLemmas.{list_is, told_same}
use Rattle.cedar_conform_diagnostics.proofs.entries.first_refused.Goals as goal

pub returns-in-Ok : goal.returns-in-Ok
returns-in-Ok c =
    told_same c.args.schema.now (λ (r : RefusedEntry). r.position) (λ (r : RefusedEntry). r.fault.number) (to_come c.in-Ok.objects) (list_of c.args.bytes.items) c.first_of_objects.result
    (list_is c.args.bytes.items (to_come c.in-Ok.objects) c.in-Ok.ensures) c.first_of_objects.ensures

pub returns-in-Err : goal.returns-in-Err
returns-in-Err c =
    told_same c.args.schema.now (λ (r : RefusedEntry). r.position) (λ (r : RefusedEntry). r.fault.number) (list_of c.deref.result.now) (list_of c.args.bytes.items) c.first_of_bytes.result
    (ap list_of (sym (c.deref.ensures.value ∙ c.in-Err.ensures))) c.first_of_bytes.ensures
