use Rattle.std.proofs.Common.{length, ap, arith}
use Rattle.cedar_auth_candidates.proofs.Meets.{size_literals}
use Rattle.cedar_auth_candidates.proofs.action_scope.size_of.Goals as goal

pub returns-in-InSet : goal.returns-in-InSet
returns-in-InSet c =
    let us = c.in-InSet.uids in
    rw c.in-InSet.is (omega (arith, ap length c.as_slice.ensures, size_literals us))
