use Rattle.cedar_conform_entities.proofs.Conforming.{sound_entities_conform}
use Rattle.cedar_conform_entities.proofs.laws.sound_entities_conform.Goals as goal

pub returns : goal.returns
returns c = sound_entities_conform c.actions_conform.ensures.chains c.actions_conform.ensures.conforms
