use Rattle.std.proofs.Common.{rules, arith}
use Rattle.std.proofs.lemmas.Grind.{common_steps}
use Rattle.cedar_schema_text.proofs.Each.{each_refused, each_goes_on, each_done}
use Rattle.cedar_schema_text.proofs.object.put_each.Goals as goal

pub returns-in_err-put_copy : goal.returns-in_err-put_copy
returns-in_err-put_copy c =
    let h = each_refused c.args.names.now c.loop-name.name-index c.name-item.result _ _ _ c.in_err-put_copy.field-0.0 c.loop-name-test.true c.name-item.is c.loop-name.invariant c.in_err-put_copy.ensures in
    first_of (search rules, grind (arith, common_steps))

pub loop-name-preserved : goal.loop-name-preserved
loop-name-preserved c = each_goes_on c.args.names.now c.loop-name.name-index c.name-item.result _ _ _ _ c.loop-name-test.true c.name-item.is c.loop-name.invariant c.in_ok-put_copy.ensures

pub returns : goal.returns
returns c = each_done c.args.names.now c.loop-name.name-index _ _ _ c.loop-name-test.false c.loop-name.invariant
