use Rattle.std.proofs.Common.{◌≡◌, take}
use Rattle.cedar_value.specs.declared.uid.Uid.{Uid}
use Rattle.cedar_store.specs.Private.Called.{after_removals}
use Rattle.cedar_store.specs.Private.Changing.{seen}
use Rattle.cedar_store.proofs.more_changes.with_removals.Given as goal

abbrev pub invariant-loop-uid : goal.invariant-loop-uid
invariant-loop-uid l = (u : Uid) → seen l.base.world l.changes u ≡ after_removals (take l.uid-index l.removed) (seen l.base.world l.old) u
