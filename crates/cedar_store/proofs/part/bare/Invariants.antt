use Rattle.std.proofs.Common.{◌≡◌, take}
use Rattle.cedar_store.proofs.part.bare.Given as goal

abbrev pub invariant-loop-parent : goal.invariant-loop-parent
invariant-loop-parent l = l.copies.items ≡ take l.parent-index l.parents
