-- What keys lead to is what their numbers lead to.
use Rattle.std.proofs.Common.{◌≡◌, ◌↔◌, ℕ, zero, suc, true, List, [], ◌∷◌, get_or, Option, None, Some, inl, inr, refl, sym, ap, subst, ◌∙◌, Contains}
use Rattle.std.specs.List.{AllZip, slice_get}
use Rattle.std.proofs.lemmas.Option.{same_Some}
use Rattle.base_reach.specs.Closure.{LeadsTo, one_link, more_links, IsClosure}
use Rattle.base_reach.proofs.Listed.{here, there, first_or_later, nowhere}
use Rattle.base_search.specs.Links.{IsRowOver}
use Rattle.base_search.specs.Numbered.{AreNumbersOf, bit_told}

-- ---- keys and their numbers, in order

-- keys keep their numbers where others gain theirs
pub numbers_kept : {K : Type 0} (old new : K → Option ℕ) → ((k : K) (n : ℕ) → old k ≡ Some n → new k ≡ Some n) → (ks : List K) (ns : List ℕ) → AreNumbersOf old ks ns → AreNumbersOf new ks ns
numbers_kept old new kept [] [] h = h
numbers_kept old new kept [] (n ∷ ns) h = absurd h
numbers_kept old new kept (k ∷ ks) [] h = absurd h
numbers_kept old new kept (k ∷ ks) (n ∷ ns) h = (kept k n h.0, numbers_kept old new kept ks ns h.1)

pub number_of : {K : Type 0} (number : K → Option ℕ) (ks : List K) (ns : List ℕ) (k : K) → AreNumbersOf number ks ns → Contains ks k → (n : ℕ) × Contains ns n × (number k ≡ Some n)
number_of number [] ns k h m = absurd (nowhere k m)
number_of number (x ∷ ks) [] k h m = absurd h
number_of number (x ∷ ks) (n ∷ ns) k h m = elim (first_or_later x ks k m) [
  | inl same ↦ (n, here n ns, subst (λ y. number y ≡ Some n) same h.0)
  | inr later ↦ (let rest = number_of number ks ns k h.1 later in (rest.0, there n ns rest.0 rest.1, rest.2))
]

key_of : {K : Type 0} (number : K → Option ℕ) (ks : List K) (ns : List ℕ) (n : ℕ) → AreNumbersOf number ks ns → Contains ns n → (k : K) × Contains ks k × (number k ≡ Some n)
key_of number [] [] n h m = absurd (nowhere n m)
key_of number [] (y ∷ ns) n h m = absurd h
key_of number (x ∷ ks) [] n h m = absurd (nowhere n m)
key_of number (x ∷ ks) (y ∷ ns) n h m = elim (first_or_later y ns n m) [
  | inl same ↦ (x, here x ks, h.0 ∙ ap Some same)
  | inr later ↦ (let rest = key_of number ks ns n h.1 later in (rest.0, there x ks rest.0 rest.1, rest.2))
]

-- ---- things that link to keys, and the numbers of these

module _ {X K : Type 0} (links : X → List K) where
  pub lists_kept : (old new : K → Option ℕ) → ((k : K) (n : ℕ) → old k ≡ Some n → new k ≡ Some n) → (xs : List X) (lists : List (List ℕ)) → AllZip (λ x ns. AreNumbersOf old (links x) ns) xs lists → AllZip (λ x ns. AreNumbersOf new (links x) ns) xs lists
  lists_kept old new kept [] [] h = h
  lists_kept old new kept [] (ns ∷ lists) h = absurd h
  lists_kept old new kept (x ∷ xs) [] h = absurd h
  lists_kept old new kept (x ∷ xs) (ns ∷ lists) h = (numbers_kept old new kept (links x) ns h.0, lists_kept old new kept xs lists h.1)

  pub list_of : (number : K → Option ℕ) (xs : List X) (lists : List (List ℕ)) → AllZip (λ x ns. AreNumbersOf number (links x) ns) xs lists → (k : ℕ) (x : X) → slice_get xs k ≡ Some x → AreNumbersOf number (links x) (get_or lists k [])
  list_of number [] [] h k x at = cc
  list_of number [] (ns ∷ lists) h k x at = absurd h
  list_of number (y ∷ xs) [] h k x at = absurd h
  list_of number (y ∷ xs) (ns ∷ lists) h zero x at = subst (λ (z : X). AreNumbersOf number (links z) ns) (same_Some _ _ at) h.0
  list_of number (y ∷ xs) (ns ∷ lists) h (suc k) x at = list_of number xs lists h.1 k x at

-- ---- chains

-- no two keys have the same number, and a key that has one links to those whose numbers its own links to
pub record IsNumbering {K : Type 0} (links : K → List K) (number : K → Option ℕ) (next : ℕ → List ℕ) : Type 0 where
  pub apart : (u v : K) (n : ℕ) → number u ≡ Some n → number v ≡ Some n → u ≡ v
  pub follow : (u : K) (n : ℕ) → number u ≡ Some n → AreNumbersOf number (links u) (next n)

module _ {K : Type 0} (links : K → List K) (number : K → Option ℕ) (next : ℕ → List ℕ) (numbering : IsNumbering links number next) where
  chain_of_numbers : {u v : K} → LeadsTo links u v → (n : ℕ) → number u ≡ Some n → (m : ℕ) × (number v ≡ Some m) × LeadsTo next n m
  chain_of_numbers (one_link {u = u} {v = v} l) n at = let to = number_of number (links u) (next n) v (numbering.follow u n at) l in (to.0, to.2, one_link to.1)
  chain_of_numbers (more_links {u = u} {p = p} l rest) n at =
      let to = number_of number (links u) (next n) p (numbering.follow u n at) l in
      let more = chain_of_numbers rest to.0 to.2 in
      (more.0, more.1, more_links to.1 more.2)

  chain_of_keys : {n m : ℕ} → LeadsTo next n m → (u : K) → number u ≡ Some n → (v : K) × (number v ≡ Some m) × LeadsTo links u v
  chain_of_keys (one_link {u = n} {v = m} l) u at = let to = key_of number (links u) (next n) m (numbering.follow u n at) l in (to.0, to.2, one_link to.1)
  chain_of_keys (more_links {u = n} {p = p} l rest) u at =
      let to = key_of number (links u) (next n) p (numbering.follow u n at) l in
      let more = chain_of_keys rest to.0 to.2 in
      (more.0, more.1, more_links to.1 more.2)

  pub chain_by_numbers : (u v : K) (n m : ℕ) → number u ≡ Some n → number v ≡ Some m → LeadsTo links u v ↔ LeadsTo next n m
  chain_by_numbers u v n m from to = (
    λ c. (let on = chain_of_numbers c n from in subst (LeadsTo next n) (same_Some _ _ (sym on.1 ∙ to)) on.2),
    λ c. (let on = chain_of_keys c u from in subst (LeadsTo links u) (numbering.apart on.0 v m on.1 to) on.2),
  )

  -- ---- a row over the numbers of what a key links to, which itself need have none

  in_row : (list : List K) (ns row : List ℕ) → AreNumbersOf number list ns → IsRowOver next ns row → (u : K) → links u ≡ list → (v : K) (o : Option ℕ) → number v ≡ o → bit_told row o ≡ true → LeadsTo links u v
  in_row list ns row are over u is v None at h = cc
  in_row list ns row are over u is v (Some m) at h =
      let ahead = (over m).0 h in
      let first = key_of number list ns ahead.0 are ahead.1 in
      let link : Contains (links u) first.0 = subst (λ (l : List K). Contains l first.0) (sym is) first.1 in
      elim ahead.2 [
        | inl same ↦ one_link (subst (Contains (links u)) (numbering.apart first.0 v m (first.2 ∙ ap Some same) at) link)
        | inr chain ↦ more_links link ((chain_by_numbers first.0 v ahead.0 m first.2 at).1 chain)
      ]

  from_row : (ns row : List ℕ) → IsRowOver next ns row → (u v : K) → AreNumbersOf number (links u) ns → LeadsTo links u v → bit_told row (number v) ≡ true
  from_row ns row over u v are (one_link l) =
      let to = number_of number (links u) ns v are l in
      ap (bit_told row) to.2 ∙ (over to.0).1 (to.0, to.1, inl refl)
  from_row ns row over u v are (more_links {p = p} l rest) =
      let to = number_of number (links u) ns p are l in
      let on = chain_of_numbers rest to.0 to.2 in
      ap (bit_told row) on.1 ∙ (over on.0).1 (to.0, to.1, inr on.2)

  pub closure_by_numbers : (u : K) (ns row : List ℕ) → AreNumbersOf number (links u) ns → IsRowOver next ns row → IsClosure links u (λ v. bit_told row (number v))
  closure_by_numbers u ns row are over v = (λ h. in_row (links u) ns row are over u refl v (number v) refl h, λ c. from_row ns row over u v are c)

  -- ---- circles

  last_link : {u v : K} → LeadsTo links u v → (p : K) × Contains (links p) v
  last_link (one_link {u = u} l) = (u, l)
  last_link (more_links l rest) = last_link rest

  pub acyclic_by_numbers : ((p : K) (v : K) → Contains (links p) v → (n : ℕ) × (number v ≡ Some n)) → ((n : ℕ) → LeadsTo next n n → ⊥) → (u : K) → LeadsTo links u u → ⊥
  acyclic_by_numbers whole none u chain =
      let last = last_link chain in
      let at = whole last.0 u last.1 in
      none at.0 ((chain_by_numbers u u at.0 at.0 at.1 at.1).0 chain)
