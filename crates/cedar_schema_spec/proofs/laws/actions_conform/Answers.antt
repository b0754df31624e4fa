use Rattle.cedar_schema_spec.proofs.DeclaredTests.{chains_of_actions, actions_conform}
use Rattle.cedar_schema_spec.proofs.laws.actions_conform.Goals as goal

pub returns : goal.returns
returns c = record { chains = chains_of_actions; conforms = actions_conform }
