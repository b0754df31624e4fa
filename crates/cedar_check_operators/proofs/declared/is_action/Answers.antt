use Rattle.std.specs.Bool.{one_answer}
use Rattle.cedar_schema_spec.specs.Declarations.{is_action}
use Rattle.cedar_schema_spec.proofs.DeclaredTests.{actions_decided}
use Rattle.cedar_check_operators.proofs.declared.is_action.Goals as goal

pub returns : goal.returns
returns c = one_answer c.has_action.result (is_action c.args.schema.now c.args.uid.now) c.has_action.ensures (actions_decided c.args.schema.now c.args.uid.now)
