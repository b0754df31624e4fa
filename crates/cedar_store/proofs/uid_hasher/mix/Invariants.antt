use Rattle.std.proofs.Common.{◌≡◌}
use Rattle.cedar_store.specs.Private.Hashed.{mix_words}
use Rattle.cedar_store.proofs.uid_hasher.mix.Given as goal

abbrev pub invariant-loop-place : goal.invariant-loop-place
invariant-loop-place l = l.state ≡ mix_words l.key l.begun l.bytes l.place
