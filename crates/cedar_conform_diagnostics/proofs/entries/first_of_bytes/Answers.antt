use Rattle.base_json.specs.Items.{to_come}
use Rattle.cedar_conform_diagnostics.proofs.PassingLemmas.{list_is, passed_as, start}
use Rattle.cedar_conform_diagnostics.specs.Private.Passing.{list_of}
use Rattle.std.proofs.Common.{sym, refl}
use Rattle.cedar_conform_diagnostics.proofs.entries.first_of_bytes.Goals as goal

pub returns-in-Some : goal.returns-in-Some
returns-in-Some c =
    let e = list_is c.args.bytes.now (to_come c.in-Some.items) (rw c.in-Some.is at c.in_ok-items.ensures) in
    c.first_of_items.ensures (list_of c.args.bytes.now) (passed_as c.args.schema.now (to_come c.in-Some.items) (list_of c.args.bytes.now) (to_come c.in-Some.items) (to_come c.in-Some.items) 0 (sym e) refl (start c.args.schema.now (to_come c.in-Some.items)))
