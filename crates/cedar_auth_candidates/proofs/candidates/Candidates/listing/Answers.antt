use Rattle.std.proofs.Common.{Some, sym, ap, ◌∙◌}
use Rattle.cedar_auth_candidates.specs.Candidates.{CandidatesTree, listing_at}
use Rattle.cedar_auth_candidates.proofs.CandidateRows.{listing_is}
use Rattle.cedar_auth_candidates.proofs.candidates.Candidates.listing.Goals as goal

pub returns-in-Some : goal.returns-in-Some
returns-in-Some c =
    let inside = c.self.inside in
    let u = c.args.request.now.action in
    let n = c.args.request.now.principal.ty in
    let m = c.args.request.now.resource.ty in
    ap Some c.listing.ensures ∙ c.in-Some.ensures ∙ sym (listing_is inside.index inside.rows inside.cells.items u n m) ∙ ap (λ (t : CandidatesTree). listing_at t u n m) c.self.view_is

pub returns-in-None : goal.returns-in-None
returns-in-None c =
    let inside = c.self.inside in
    let u = c.args.request.now.action in
    let n = c.args.request.now.principal.ty in
    let m = c.args.request.now.resource.ty in
    c.in-None.ensures ∙ sym (listing_is inside.index inside.rows inside.cells.items u n m) ∙ ap (λ (t : CandidatesTree). listing_at t u n m) c.self.view_is
