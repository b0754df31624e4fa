use Rattle.std.specs.Bool.{one_answer}
use Rattle.cedar_schema_spec.specs.Declarations.{is_action_type}
use Rattle.cedar_schema_spec.proofs.DeclaredTests.{action_types_decided}
use Rattle.cedar_check_operators.proofs.declared.is_action_type.Goals as goal

pub returns : goal.returns
returns c = one_answer c.has_action_type.result (is_action_type c.args.schema.now c.args.name.now) c.has_action_type.ensures (action_types_decided c.args.schema.now c.args.name.now)
