use Rattle.std.proofs.Common.{refl}
use Rattle.cedar_store.specs.Private.Branches.{mixed}
use Rattle.cedar_store.proofs.change_hash.mixed.Goals as goal

pub returns : goal.returns
unfolding mixed
returns c = refl
