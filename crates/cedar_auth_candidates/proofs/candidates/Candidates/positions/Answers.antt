use Rattle.std.proofs.Common.{ℕ, List, None, Some, subst, sym}
use Rattle.cedar_auth_candidates.specs.Candidates.{HasPositions}
use Rattle.cedar_auth_candidates.proofs.Fitting.{has_positions}
use Rattle.cedar_auth_candidates.proofs.candidates.Candidates.positions.Goals as goal

pub returns-in-Some : goal.returns-in-Some
returns-in-Some c =
    subst (λ (ks : List ℕ). HasPositions c.args.self.now c.args.request.now ks) (sym c.positions.ensures)
    (has_positions c.args.self.now c.args.request.now (Some c.in-Some.listing.now) c.in-Some.ensures)

pub returns-in-None : goal.returns-in-None
returns-in-None c = has_positions c.args.self.now c.args.request.now None c.in-None.ensures
