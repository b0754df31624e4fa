use Rattle.std.proofs.Common.{subst, sym, ◌∙◌}
use Rattle.cedar_auth_candidates.specs.Index.{IndexTree, IsListingBy, ListingTree}
use Rattle.cedar_auth_candidates.proofs.Made.{more_made, same_made}
use Rattle.cedar_auth_candidates.proofs.cells.Cells.cell.Goals as goal

pub returns-in-Some-clause-listed : goal.returns-in-Some-clause-listed
returns-in-Some-clause-listed c =
    subst (λ (i : IndexTree). IsListingBy i c.in_ok-shared.shared) c.self.view_is
    (subst (λ (l : ListingTree). IsListingBy c.self.inside.index.now l) (sym c.in_ok-shared.ensures) (c.self.invariant c.digest_of-digest.result c.in-Some.one.now c.in-Some.ensures.made))

pub invariant_of-self-in_err-insert : goal.invariant_of-self-in_err-insert
invariant_of-self-in_err-insert c = same_made (IsListingBy c.self.inside.index.now) c.self.inside.made c.insert.new.self c.in_err-insert.ensures.err c.self.invariant

pub invariant_of-self-2 : goal.invariant_of-self-2
invariant_of-self-2 c =
    let index = c.self.inside.index.now in
    more_made (IsListingBy index) c.self.inside.made c.insert.new.self c.digest_of-digest.result c.in_ok-share.field-0 c.in_ok-insert.ensures.updates
    (subst (λ (l : ListingTree). IsListingBy index l) (sym (c.in_ok-share.ensures ∙ c.in_ok-cell.ensures)) c.in_ok-listing.ensures.listed) c.self.invariant

pub returns-clause-listed : goal.returns-clause-listed
returns-clause-listed c =
    subst (λ (i : IndexTree). IsListingBy i c.in_ok-cell.cell) c.self.view_is
    (subst (λ (l : ListingTree). IsListingBy c.self.inside.index.now l) (sym c.in_ok-cell.ensures) c.in_ok-listing.ensures.listed)
