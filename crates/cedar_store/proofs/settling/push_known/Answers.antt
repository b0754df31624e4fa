use Rattle.std.proofs.Common.{◌≡◌, inl}
use Rattle.base_reach.specs.Private.Lent.{lent}
use Rattle.cedar_store.specs.Private.Parts.{AreKnownDue}
use Rattle.cedar_store.proofs.Noted.{if_ok}
use Rattle.cedar_store.proofs.settling.push_known.Goals as goal

pub returns : goal.returns
returns c =
    let b = c.args.links.now.base.now in
    let cs = c.args.links.now.changes.now in
    let ns = c.args.noted.now in
    if_ok c.try_clone.result (λ begun. begun ≡ ns) (λ begun. AreKnownDue b cs c.args.old.now.world ns c.args.uids.now (lent c.push_noted.new.due.items) begun)
    (λ begun same. inl (
      same,
      record {
        settled = λ p there none. c.in_ok-push_noted.ensures.kept p (c.in_ok-push_parents-2.ensures.kept p (c.in_ok-push_settled.ensures.settled p there none));
        parents = λ u p m link none. c.in_ok-push_noted.ensures.kept p (c.in_ok-push_parents-2.ensures.parents u p m link none);
        noted = c.in_ok-push_noted.ensures.noted;
      },
    )) c.try_clone.ensures
