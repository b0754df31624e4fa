-- The keys of a record expression (Cedar language reference, records).
use Rattle.std.specs.Prelude.{◌≡◌, ◌≢◌, ℕ, List, [], ◌∷◌, Some, map, take, slice_get, AllPairs, Contains}
use Rattle.cedar_ast_expressions.specs.Expression.{Expression, Entries, no_entries, entry}

-- The keys that a record writes, in order (Cedar language reference, records).
abbrev pub keys_in : Entries → List (List ℕ)
keys_in no_entries = []
keys_in (entry k e fs) = k ∷ keys_in fs

-- No key is repeated (Cedar language reference, records).
abbrev pub AreDistinct : List (List ℕ) → Type 0
AreDistinct ks = AllPairs (λ k l. k ≢ l) ks

-- The key at a position, from 0, is among those before it, none of which is repeated (Cedar language reference, records).
pub record IsFirstRepeated (ks : List (List ℕ)) (place : ℕ) : Type 0 where
  pub distinct : AreDistinct (take place ks)
  pub key : List ℕ
  pub here : slice_get ks place ≡ Some key
  pub before : Contains (take place ks) key

-- The keys of pairs, in order (Cedar language reference, records).
abbrev pub keys_of : List (List ℕ × Expression) → List (List ℕ)
keys_of ps = map (λ p. p.0) ps
