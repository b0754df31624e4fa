use Rattle.cedar_conform_entities.proofs.Exact.{one_world, worlds_have_no_fault}
use Rattle.cedar_conform_entities.proofs.laws.denoted_worlds_are_exact.Goals as goal

pub returns : goal.returns
returns c = record { one = one_world; no_fault = worlds_have_no_fault }
