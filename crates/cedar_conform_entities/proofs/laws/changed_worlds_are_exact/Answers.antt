use Rattle.cedar_conform_entities.proofs.ChangesExact.{one_changed_world, changed_worlds_have_no_fault}
use Rattle.cedar_conform_entities.proofs.laws.changed_worlds_are_exact.Goals as goal

pub returns : goal.returns
returns c = record { one = one_changed_world; no_fault = changed_worlds_have_no_fault }
