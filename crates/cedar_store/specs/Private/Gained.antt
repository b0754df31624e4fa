-- What a list of uids gains from a row.
use Rattle.std.specs.Prelude.{◌≡◌, ◌≢◌, ◌↔◌, ◌++◌, ℕ, List, Contains, AllPairs, IsTrue}
use Rattle.std.specs.Borrow.{Bor}
use Rattle.base_reach.specs.Private.Lent.{lent}
use Rattle.cedar_value.specs.declared.uid.Uid.{Uid}
use Rattle.cedar_store.specs.Private.Kept.{in_row}

-- the new list is the old one and then, each once, the uids whose numbers' bits the row has
pub record AddsMembers (keys : List Uid) (row : List ℕ) (old new : List (Bor Uid)) : Type 0 where
  pub added : List (Bor Uid)
  pub appended : new ≡ old ++ added
  pub once : AllPairs (λ u v. u ≢ v) (lent added)
  pub told : (v : Uid) → Contains (lent added) v ↔ IsTrue (in_row keys row v)
