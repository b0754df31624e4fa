use Rattle.std.proofs.Common.{◌≡◌, ℕ, true, List, Contains, subst, sym}
use Rattle.base_bits.specs.Bits.{has_bit}
use Rattle.cedar_auth_candidates.specs.Index.{IndexTree, IsListingBy, ListingTree}
use Rattle.cedar_auth_candidates.specs.Private.Kept.{KeepsNone, tree_of}
use Rattle.std.specs.Bool.{OnFalse}
use Rattle.cedar_auth_candidates.proofs.Listings.{kept_by_flag}
use Rattle.cedar_auth_candidates.proofs.index.Index.list.Goals as goal

pub new-requires : goal.new-requires
new-requires c = record {
  bits = c.in_ok-row.ensures.bits;
  alone = c.in_ok-row.ensures.alone;
  among = c.in_ok-unnamed.ensures.among;
}

pub returns-clause-listed : goal.returns-clause-listed
returns-clause-listed c =
    let listing = c.in_ok-listing.listing in
    let tables = c.self.inside.tables in
    let row = c.in_ok-row.row.items in
    subst (λ (i : IndexTree). IsListingBy i listing) c.self.view_is
    (subst (λ (l : ListingTree). IsListingBy (tree_of tables) l) (sym c.in_ok-listing.ensures)
    (record {
      unnamed = subst (λ (bits : List ℕ). (k : ℕ) → Contains c.args.positions.now k → has_bit bits k ≡ true → Contains c.in_ok-unnamed.unnamed.items k) c.deref.ensures.value c.in_ok-unnamed.ensures.found;
      by_principal = kept_by_flag tables.principals row c.args.positions.now c.keeps_any-by_principal.result
          (subst (λ (bits : List ℕ). OnFalse c.keeps_any-by_principal.result (KeepsNone tables.principals bits)) c.deref-2.ensures.value c.keeps_any-by_principal.ensures) c.in_ok-row.ensures.bits;
      by_resource = kept_by_flag tables.resources row c.args.positions.now c.keeps_any-by_resource.result
          (subst (λ (bits : List ℕ). OnFalse c.keeps_any-by_resource.result (KeepsNone tables.resources bits)) c.deref-3.ensures.value c.keeps_any-by_resource.ensures) c.in_ok-row.ensures.bits;
    }))
