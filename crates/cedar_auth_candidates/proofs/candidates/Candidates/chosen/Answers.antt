use Rattle.std.proofs.Common.{ℕ, List, ap, inl, inr, subst, sym}
use Rattle.cedar_auth_candidates.specs.Candidates.{CandidatesTree}
use Rattle.cedar_auth_candidates.specs.Index.{HasReached, IndexTree}
use Rattle.cedar_auth_candidates.specs.Private.Chosen.{IsChosen}
use Rattle.cedar_auth_candidates.proofs.candidates.Candidates.chosen.Goals as goal

pub returns-then-candidates-le-FEW : goal.returns-then-candidates-le-FEW
returns-then-candidates-le-FEW c = inl c.positions-candidates.ensures

pub returns : goal.returns
returns c =
    let q = c.args.request.now in
    let w = c.args.store.now in
    let listing = c.args.listing.now in
    let ks = c.select.new.selection in
    subst (λ (js : List ℕ). IsChosen c.args.self.now.index listing q w js) (sym c.positions.ensures)
    (inr (record {
      ascend = c.in_ok-select.ensures.ascend;
      reached = subst (λ (i : IndexTree). HasReached i listing q w ks) (ap (λ (t : CandidatesTree). t.index) c.self.view_is) c.in_ok-select.ensures.reached;
      within = c.in_ok-select.ensures.within;
    }))
