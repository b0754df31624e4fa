use Rattle.std.proofs.Common.{ℕ, length}
use Rattle.cedar_ast.specs.PolicySetTree.{PolicySetTree}
use Rattle.cedar_files.specs.LinksFile.{AreLinked, HaveLinkFault}
use Rattle.cedar_files.proofs.linking.enter_each.Given as goal

-- what the links that are left make of the set so far is what all make of the first one; and where one of them is refused, one of
-- all is
abbrev pub invariant-walk : goal.invariant-walk
invariant-walk l = record {
  linked : (new : PolicySetTree) → AreLinked l.policies l.rest new → AreLinked l.fn.policies l.links new;
  fault : (n : ℕ) → HaveLinkFault l.policies l.rest n → HaveLinkFault l.fn.policies l.links n;
}

abbrev pub decreases-walk : goal.decreases-walk
decreases-walk l = length l.rest
