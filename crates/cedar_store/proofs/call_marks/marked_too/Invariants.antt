use Rattle.std.proofs.Common.{take}
use Rattle.cedar_store.proofs.EachMore.{Each}
use Rattle.cedar_store.proofs.MarkedToo.{IsMarkedIn, KeepsMarks}
use Rattle.cedar_store.proofs.call_marks.marked_too.Given as goal

abbrev pub invariant-loop-uid : goal.invariant-loop-uid
invariant-loop-uid l = KeepsMarks l.base l.old l.marks × Each (IsMarkedIn l.base l.marks) (take l.uid-index l.removed)

abbrev pub invariant-loop-entity : goal.invariant-loop-entity
invariant-loop-entity l = KeepsMarks l.base l.old l.marks × Each (IsMarkedIn l.base l.marks) l.removed × Each (λ e. IsMarkedIn l.base l.marks e.uid) (take l.entity-index l.upserted)
