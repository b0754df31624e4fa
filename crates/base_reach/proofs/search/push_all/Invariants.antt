use Rattle.std.proofs.Common.{◌≡◌, ◌++◌, take}
use Rattle.base_reach.specs.Private.Lent.{lent}
use Rattle.base_reach.proofs.search.push_all.Given as goal

abbrev pub invariant-loop-key : goal.invariant-loop-key
invariant-loop-key g l = lent l.pending.items ≡ lent l.initial.pending.items ++ take l.key-index l.keys
