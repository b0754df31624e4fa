use Rattle.std.proofs.Common.{take}
use Rattle.cedar_store.specs.Private.Parts.{GainsUids}
use Rattle.cedar_store.proofs.part.meet_all.Given as goal

abbrev pub invariant-loop-uid : goal.invariant-loop-uid
invariant-loop-uid l = GainsUids l.initial.met.keys (take l.uid-index l.uids) l.met.keys
