use Rattle.cedar_store.specs.Private.Hashed.{word_at}
use Rattle.cedar_store.proofs.uid_hasher.word_at.Goals as goal

pub returns : goal.returns
unfolding word_at
returns c = c.from_le_bytes.ensures
