use Rattle.cedar_schema_spec.proofs.DeclaredTests.{actions_decided, action_types_decided, action_descents_decided, type_descents_decided}
use Rattle.cedar_schema_spec.proofs.laws.tests_of_schemas_decide.Goals as goal

pub returns : goal.returns
returns c = record { actions = actions_decided; action_types = action_types_decided; action_descents = action_descents_decided; type_descents = type_descents_decided }
