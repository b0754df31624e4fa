use Rattle.cedar_schema.proofs.TypeLemmas.{joining_all}
use Rattle.cedar_schema.proofs.schema.rows.type_rows.Goals as goal

pub returns : goal.returns
returns c = joining_all c.loop-uid.types c.args.rows.now _ c.in-None.ensures.steps.0 c.iter-uid-items.ensures.found c.loop-uid.invariant
