use Rattle.std.proofs.Common.{refl}
use Rattle.cedar_store.specs.Private.Hashed.{last_word}
use Rattle.cedar_store.proofs.uid_hasher.last_word.Goals as goal

pub returns : goal.returns
unfolding last_word
returns c = refl
