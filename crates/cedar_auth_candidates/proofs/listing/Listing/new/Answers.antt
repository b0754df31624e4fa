use Rattle.std.proofs.Common.{ℕ, List, sym, subst}
use Rattle.cedar_auth_candidates.specs.Private.Kept.{IsListed}
use Rattle.cedar_auth_candidates.proofs.listing.Listing.new.Goals as goal

pub invariant_of-result : goal.invariant_of-result
invariant_of-result c =
    let listed : IsListed c.args.row.items c.args.positions.now c.args.unnamed.items =
    record { bits = c.requires.bits; alone = c.requires.alone; among = c.requires.among } in
    subst (λ (ks : List ℕ). IsListed c.args.row.items ks c.args.unnamed.items) (sym c.in_ok-positions.ensures.items) listed
