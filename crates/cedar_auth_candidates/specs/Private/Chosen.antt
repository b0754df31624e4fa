-- What is chosen of a listing.
use Rattle.std.specs.Prelude.{◌≡◌, ◌⊎◌, ℕ, List, Contains}
use Rattle.std.specs.List.Sorted.{IsStrictlyIncreasing}
use Rattle.cedar_value.specs.World.{World}
use Rattle.cedar_value.specs.declared.request.Request.{Request}
use Rattle.cedar_auth_candidates.specs.Index.{HasReached, IndexTree, ListingTree}

-- what the index selects of a listing, in order
pub record IsSelectedOf (index : IndexTree) (listing : ListingTree) (q : Request) (w : World) (ks : List ℕ) : Type 0 where
  pub ascend : IsStrictlyIncreasing ks
  pub reached : HasReached index listing q w ks
  pub within : (k : ℕ) → Contains ks k → Contains listing.positions k

-- all positions of a listing, or what the index selects of it
abbrev pub IsChosen : IndexTree → ListingTree → Request → World → List ℕ → Type 0
IsChosen index listing q w ks = (ks ≡ listing.positions) ⊎ IsSelectedOf index listing q w ks
