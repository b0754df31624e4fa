use Rattle.cedar_conform_entities.proofs.ChangedConforming.{changed_worlds_conform}
use Rattle.cedar_conform_entities.proofs.laws.changed_worlds_conform.Goals as goal

pub returns : goal.returns
returns c = changed_worlds_conform c.read_values_belong.ensures
