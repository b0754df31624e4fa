use Rattle.cedar_auth_candidates.proofs.Asking.{LacksOrLeft}
use Rattle.cedar_auth_candidates.proofs.uid_lists.keeps_any.Given as goal

abbrev pub invariant-loop-list : goal.invariant-loop-list
invariant-loop-list l = LacksOrLeft l.row l.lists.entries l.list-iterator
