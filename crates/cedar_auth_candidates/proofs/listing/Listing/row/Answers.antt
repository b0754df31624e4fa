use Rattle.std.proofs.Common.{ℕ, List, sym, subst}
use Rattle.cedar_auth_candidates.specs.Index.{ListingTree}
use Rattle.cedar_auth_candidates.specs.Private.Kept.{HasBitsAlone}
use Rattle.cedar_auth_candidates.proofs.listing.Listing.row.Goals as goal

pub returns-clause-alone : goal.returns-clause-alone
returns-clause-alone c =
    subst (λ (row : List ℕ). HasBitsAlone row c.args.self.now.positions) (sym c.deref.ensures.value)
    (subst (λ (l : ListingTree). HasBitsAlone c.self.inside.row.items l.positions) c.self.view_is c.self.invariant.alone)
