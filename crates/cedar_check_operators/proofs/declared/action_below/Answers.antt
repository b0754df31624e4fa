use Rattle.std.specs.Bool.{one_answer}
use Rattle.cedar_schema_spec.specs.Declarations.{action_below}
use Rattle.cedar_schema_spec.proofs.DeclaredTests.{action_descents_decided}
use Rattle.cedar_check_operators.proofs.declared.action_below.Goals as goal

pub returns : goal.returns
returns c = one_answer c.action_descends.result (action_below c.args.schema.now c.args.low.now c.args.high.now) c.action_descends.ensures (action_descents_decided c.args.schema.now c.args.low.now c.args.high.now)
