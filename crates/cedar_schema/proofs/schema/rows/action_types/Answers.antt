use Rattle.cedar_schema.proofs.EnvironmentLemmas.{has_types}
use Rattle.cedar_schema.proofs.schema.rows.action_types.Goals as goal

pub returns : goal.returns
returns c = has_types c.args.actions.now.entries c.loop-uid.types (rw c.in-None.ensures.steps.0 at c.loop-uid.invariant)
