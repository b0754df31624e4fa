-- What a name in a namespace denotes is one of the names that are declared.
use Rattle.std.proofs.Common.{◌≡◌, ℕ, suc, bytes_eq, Bool, true, false, cond, nat_eq, List, [], ◌∷◌, Option, Some, None, option_map, IfSome, Contains, refl, subst}
use Rattle.std.proofs.lemmas.Slice.Eq.{bytes_eq-Decides}
use Rattle.std.specs.List.{list_any}
use Rattle.cedar_schema_json.specs.Naming.{qualified, or_else, listed, place_from, resolved}
use Rattle.cedar_schema.proofs.InsertedKeys.{here, there}

pub placed : (names : List (List ℕ)) (i : ℕ) (name : List ℕ) → IfSome (option_map (λ place. (name, place)) (place_from i name names)) (λ (n : List ℕ × ℕ). Contains names n.0)
placed [] i name = tt
placed (n ∷ names) i name = at (bytes_eq n name) refl (placed names (suc i) name)
  where
    more : (o : Option ℕ) → IfSome (option_map (λ place. (name, place)) o) (λ (m : List ℕ × ℕ). Contains names m.0) → IfSome (option_map (λ place. (name, place)) o) (λ (m : List ℕ × ℕ). Contains (n ∷ names) m.0)
    more None h = tt
    more (Some p) h = there n names name h

    at : (b : Bool) → bytes_eq n name ≡ b → IfSome (option_map (λ place. (name, place)) (place_from (suc i) name names)) (λ (m : List ℕ × ℕ). Contains names m.0)
        → IfSome (option_map (λ place. (name, place)) (cond b (Some i) (place_from (suc i) name names))) (λ (m : List ℕ × ℕ). Contains (n ∷ names) m.0)
    at true e h = subst (λ (x : List ℕ). Contains (n ∷ names) x) ((bytes_eq-Decides n name).0 e) (here n names)
    at false e h = more (place_from (suc i) name names) h

abbrev pub IsOf : List (List ℕ) → List ℕ × ℕ → Type 0
IsOf names n = Contains names n.0

one_of : (names : List (List ℕ)) (o p : Option (List ℕ × ℕ)) → IfSome o (IsOf names) → IfSome p (IsOf names) → IfSome (or_else o p) (IsOf names)
one_of names None p h g = g
one_of names (Some n) p h g = h

pub resolved_in : (names : List (List ℕ)) (namespace name : List ℕ) → IfSome (resolved names namespace name) (IsOf names)
unfolding resolved
resolved_in names namespace name = at (list_any (nat_eq 58) name)
  where
    at : (b : Bool) → IfSome (cond b (listed names name) (or_else (listed names (qualified namespace name)) (listed names name))) (IsOf names)
    at true = placed names 0 name
    at false = one_of names (listed names (qualified namespace name)) (listed names name) (placed names 0 (qualified namespace name)) (placed names 0 name)
