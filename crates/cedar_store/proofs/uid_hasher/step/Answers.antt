use Rattle.std.proofs.Common.{refl}
use Rattle.cedar_store.specs.Private.Hashed.{step}
use Rattle.cedar_store.proofs.uid_hasher.step.Goals as goal

pub returns : goal.returns
unfolding step
returns c = refl
