use Rattle.std.proofs.Common.{subst}
use Rattle.cedar_store.specs.Private.Branches.{hash_of, keyed_in}
use Rattle.cedar_store.specs.Private.Changing.{AreChangesDistinct, EachChange, IsChangeOfUid}
use Rattle.cedar_store.specs.Private.Forks.{branches_of}
use Rattle.cedar_store.proofs.Branches.{distinct-ascending, named_each}
use Rattle.cedar_store.proofs.change_map.ChangeMap.facts.Goals as goal

pub returns-clause-distinct : goal.returns-clause-distinct
returns-clause-distinct c = subst AreChangesDistinct c.self.view_is (distinct-ascending (hash_of c.self.inside.hashing) (branches_of c.self.inside.root) c.self.invariant.ascending c.self.invariant.keyed)

pub returns-clause-named : goal.returns-clause-named
returns-clause-named c = subst (EachChange IsChangeOfUid) c.self.view_is (named_each (hash_of c.self.inside.hashing) (keyed_in (branches_of c.self.inside.root)) c.self.invariant.keyed)
