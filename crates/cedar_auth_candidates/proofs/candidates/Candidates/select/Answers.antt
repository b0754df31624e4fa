use Rattle.std.proofs.Common.{ap, subst}
use Rattle.cedar_auth_candidates.specs.Candidates.{CandidatesTree}
use Rattle.cedar_auth_candidates.specs.Index.{HasReached, IndexTree}
use Rattle.cedar_auth_candidates.proofs.Fitting.{both_ok, has_selected, none_selected}
use Rattle.cedar_auth_candidates.proofs.candidates.Candidates.select.Goals as goal

pub returns-in-Some-clause-selected : goal.returns-in-Some-clause-selected
returns-in-Some-clause-selected c =
    let q = c.args.request.now in
    let w = c.args.store.now in
    let listing = c.in-Some.listing.now in
    let ks = c.select.new.selection in
    both_ok c.select.result
    (λ reached among. has_selected c.args.self.now q w listing ks c.in-Some.ensures (subst (λ (i : IndexTree). HasReached i listing q w ks) (ap (λ (t : CandidatesTree). t.index) c.self.view_is) reached) among)
    c.select.ensures.reached c.select.ensures.within

pub returns-in-None-clause-selected : goal.returns-in-None-clause-selected
returns-in-None-clause-selected c = none_selected c.args.self.now c.args.request.now c.args.store.now _ c.in-None.ensures
