use Rattle.std.proofs.Common.{Some, subst}
use Rattle.indexmap.specs.IndexMap.{Updates}
use Rattle.cedar_value.specs.Datum.{same_uid}
use Rattle.cedar_auth_candidates.proofs.Entering.{kept_by, holds_none}
use Rattle.cedar_auth_candidates.proofs.uid_lists.insert_first.Goals as goal

pub returns-clause-kept : goal.returns-clause-kept
returns-clause-kept c =
    let old = c.args.lists.now in
    let list = c.push.new.self in
    kept_by old c.insert.new.self c.args.uid.now list
    (subst (λ k. Updates same_uid old c.insert.new.self k (Some list)) c.in_ok-try_clone.ensures c.in_ok-insert.ensures.updates)
    (holds_none old c.args.uid.now list.items c.requires)
