-- What lists of uids gain, each uid once.
use Rattle.std.specs.Prelude.{◌≡◌, ◌≢◌, ◌↔◌, ◌⊎◌, ◌≤◌, ◌++◌, ℕ, List, Contains, AllPairs, length, take, drop}
use Rattle.std.specs.Borrow.{Bor}
use Rattle.base_reach.specs.Private.Lent.{lent}
use Rattle.cedar_value.specs.declared.uid.Uid.{Uid}

-- the new list is the old one and then, each once, the uids that have P
pub record Adds (old new : List (Bor Uid)) (P : Uid → Type 0) : Type 0 where
  pub added : List (Bor Uid)
  pub appended : new ≡ old ++ added
  pub once : AllPairs (λ u v. u ≢ v) (lent added)
  pub told : (v : Uid) → Contains (lent added) v ↔ P v

-- the first n of the old list are the first n of the new one
abbrev pub KeepsFirst : ℕ → List (Bor Uid) → List (Bor Uid) → Type 0
KeepsFirst n old new = (take n new ≡ take n old) × (n ≤ length new)

-- past the first n, the new list has what the old one has and the uids that have P, each once where the old list has each once
pub record Gathers (n : ℕ) (old new : List (Bor Uid)) (P : Uid → Type 0) : Type 0 where
  pub once : AllPairs (λ u v. u ≢ v) (lent (drop n old)) → AllPairs (λ u v. u ≢ v) (lent (drop n new))
  pub told : (v : Uid) → Contains (lent (drop n new)) v ↔ (Contains (lent (drop n old)) v ⊎ P v)
