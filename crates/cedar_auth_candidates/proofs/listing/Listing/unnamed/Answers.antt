use Rattle.std.proofs.Common.{ℕ, List, sym, subst}
use Rattle.cedar_auth_candidates.specs.Index.{ListingTree}
use Rattle.cedar_auth_candidates.specs.Private.Kept.{Holds}
use Rattle.cedar_auth_candidates.proofs.listing.Listing.unnamed.Goals as goal

pub returns-clause-among : goal.returns-clause-among
returns-clause-among c =
    subst (λ (ks : List ℕ). Holds ks c.args.self.now.positions) (sym c.deref.ensures.value)
    (subst (λ (l : ListingTree). Holds c.self.inside.unnamed.items l.positions) c.self.view_is c.self.invariant.among)
