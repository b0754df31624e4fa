use Rattle.std.proofs.Common.{◌≡◌, take}
use Rattle.cedar_ast.proofs.uids.Uids+Uid.try_clone.Given as goal

abbrev pub invariant-loop-uid : goal.invariant-loop-uid
invariant-loop-uid l = l.copies.items ≡ take l.uid-index l.uid-items
