use Rattle.std.proofs.Common.{take}
use Rattle.cedar_store.proofs.EachMore.{Each}
use Rattle.cedar_store.proofs.Due.{IsDue}
use Rattle.cedar_store.proofs.Marked.{Keeps}
use Rattle.cedar_store.proofs.settling.push_unnumbered.Given as goal

abbrev pub invariant-loop-uid : goal.invariant-loop-uid
invariant-loop-uid l = Keeps l.initial.due.items l.due.items × Each (IsDue l.base l.due.items) (take l.uid-index l.uids)
