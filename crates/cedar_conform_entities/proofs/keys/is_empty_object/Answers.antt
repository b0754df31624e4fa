use Rattle.cedar_conform_entities.proofs.EntryLemmas.{empty_object}
use Rattle.cedar_conform_entities.proofs.keys.is_empty_object.Goals as goal

pub returns-in-Some : goal.returns-in-Some
returns-in-Some c = empty_object _ c.in-Some.members.now.entries _ c.is_empty.result c.in-Some.ensures c.is_empty.ensures
