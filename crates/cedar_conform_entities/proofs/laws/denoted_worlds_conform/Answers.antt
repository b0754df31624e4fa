use Rattle.cedar_conform_entities.proofs.Denoted.{denoted_worlds_conform}
use Rattle.cedar_conform_entities.proofs.laws.denoted_worlds_conform.Goals as goal

pub returns : goal.returns
returns c = denoted_worlds_conform c.read_values_belong.ensures c.sound_entities_conform.ensures
