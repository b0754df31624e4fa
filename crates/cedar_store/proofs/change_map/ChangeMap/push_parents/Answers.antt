use Rattle.std.proofs.Common.{subst}
use Rattle.std.proofs.lemmas.Result.{on_ok_weaker}
use Rattle.base_reach.specs.Private.Lent.{lent}
use Rattle.cedar_store.specs.Private.Branches.{keyed_in}
use Rattle.cedar_store.specs.Private.Changing.{EachChange}
use Rattle.cedar_store.specs.Private.Forks.{branches_of}
use Rattle.cedar_store.specs.Private.Parts.{HasParentsDue}
use Rattle.cedar_store.proofs.DueChanges.{each_change}
use Rattle.cedar_store.proofs.change_map.ChangeMap.push_parents.Goals as goal

pub returns-clause-parents : goal.returns-clause-parents
returns-clause-parents c =
    let P = HasParentsDue c.args.base.now (lent c.push_parents.new.due.items) in
    on_ok_weaker c.push_parents.result (λ each. subst (EachChange P) c.self.view_is (each_change P (keyed_in (branches_of c.self.inside.root)) each)) c.push_parents.ensures.parents
