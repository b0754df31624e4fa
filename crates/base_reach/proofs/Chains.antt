-- Chains of links: the test `leads` finds each, also where links lead in a circle.
use Rattle.std.proofs.Common.{◌≡◌, ℕ, zero, suc, ◌<◌, ◌≤◌, ◌⊎◌, inl, inr, ⊎_elim, Bool, true, false, not, cond, ◌||◌, List, [], ◌∷◌, length, refl, ap, subst, arith, Contains, filter}
use Rattle.std.specs.Bool.{Decides}
use Rattle.base_reach.specs.Closure.{LeadsTo, one_link, more_links, AreListed, TellsEqual, leads}
use Rattle.base_reach.proofs.Listed.{first_or_later, nowhere, either_true, or_left, or_right, any_found, any_at, filter-kept}

-- a chain begins with a link
pub first_link : {A : Type 0} {links : A → List A} {u v : A} → LeadsTo links u v → (p : A) × Contains (links u) p
first_link (one_link {v = v} l) = (v, l)
first_link (more_links {p = p} l rest) = (p, l)

-- a chain with one link more at its end
pub link_more : {A : Type 0} {links : A → List A} {u v p : A} → LeadsTo links u v → Contains (links v) p → LeadsTo links u p
link_more (one_link l) m = more_links l (one_link m)
link_more (more_links l rest) m = more_links l (link_more rest m)

-- two chains, one after another
pub chain_on : {A : Type 0} {links : A → List A} {u v p : A} → LeadsTo links u v → LeadsTo links v p → LeadsTo links u p
chain_on (one_link l) m = more_links l m
chain_on (more_links l rest) m = more_links l (chain_on rest m)

-- links that are among others lead no further
pub chain_among : {A : Type 0} {links others : A → List A} → ((u v : A) → Contains (links u) v → Contains (others u) v) → {u v : A} → LeadsTo links u v → LeadsTo others u v
chain_among among (one_link {u = u} {v = v} l) = one_link (among u v l)
chain_among among (more_links {u = u} {p = p} l rest) = more_links (among u p l) (chain_among among rest)

module _ {A : Type 0} (same : A → A → Bool) (decides : TellsEqual same) where
  -- the test tells of a chain
  pub leads-LeadsTo : (links : A → List A) (n : ℕ) (u v : A) → leads same links n u v ≡ true → LeadsTo links u v
  unfolding leads
  leads-LeadsTo links zero u v h = cc
  leads-LeadsTo links (suc n) u v h =
      let some = any_found (λ p. same p v || leads same links n p v) (links u) h in
      elim (either_true (same some.0 v) (leads same links n some.0 v) some.2) [
        | inl is ↦ one_link (subst (Contains (links u)) ((decides some.0 v).0 is) some.1)
        | inr more ↦ more_links some.1 (leads-LeadsTo links n some.0 v more)
      ]

  -- the links without those of one element
  apart : (A → List A) → A → A → List A
  apart links u x = cond (same x u) [] (links x)

  apart_case : (links : A → List A) (x p : A) (b : Bool) → Contains (cond b [] (links x)) p → (b ≡ false) × Contains (links x) p
  apart_case links x p true m = absurd (nowhere p m)
  apart_case links x p false m = (refl, m)

  apart-was : (links : A → List A) (u x p : A) → Contains (apart links u x) p → (same x u ≡ false) × Contains (links x) p
  unfolding apart
  apart-was links u x p m = apart_case links x p (same x u) m

  apart-stays : (links : A → List A) (u x p : A) → same x u ≡ false → Contains (links x) p → Contains (apart links u x) p
  unfolding apart
  apart-stays links u x p h m = rw h m

  apart-none : (links : A → List A) (u p : A) → Contains (apart links u u) p → ⊥
  apart-none links u p m = let no_more = (apart-was links u u p m).0 in let is = (decides u u).1 refl in cc

  -- a chain that never starts a link at u, or one whose last such link leads to p
  Cut : (A → List A) → A → A → A → Type 0
  Cut links u x v = LeadsTo (apart links u) x v ⊎ ((p : A) × Contains (links u) p × ((p ≡ v) ⊎ LeadsTo (apart links u) p v))

  cut_one : (links : A → List A) (u x v : A) (b : Bool) → same x u ≡ b → Contains (links x) v → Cut links u x v
  unfolding Cut
  cut_one links u x v true h l = inr (v, subst (λ y. Contains (links y) v) ((decides x u).0 h) l, inl refl)
  cut_one links u x v false h l = inl (one_link (apart-stays links u x v h l))

  cut_link : (links : A → List A) (u x p v : A) (b : Bool) → same x u ≡ b → Contains (links x) p → LeadsTo (apart links u) p v → Cut links u x v
  unfolding Cut
  cut_link links u x p v true h l rest = inr (p, subst (λ y. Contains (links y) p) ((decides x u).0 h) l, inr rest)
  cut_link links u x p v false h l rest = inl (more_links (apart-stays links u x p h l) rest)

  cut : (links : A → List A) (u : A) {x v : A} → LeadsTo links x v → Cut links u x v
  unfolding Cut
  cut links u (one_link {u = x} {v = v} l) = cut_one links u x v (same x u) refl l
  cut links u (more_links {u = x} {p = p} {v = v} l rest) = elim (cut links u rest) [
    | inl near ↦ cut_link links u x p v (same x u) refl l near
    | inr far ↦ inr far
  ]

  leads-apart : (links : A → List A) (u : A) (n : ℕ) (x v : A) → leads same (apart links u) n x v ≡ true → leads same links n x v ≡ true
  unfolding leads
  leads-apart links u zero x v h = cc
  leads-apart links u (suc n) x v h =
      let (p, l, t) = any_found (λ p. same p v || leads same (apart links u) n p v) (apart links u x) h in
      any_at (λ p. same p v || leads same links n p v) (links x) p (apart-was links u x p l).1 (elim (either_true (same p v) (leads same (apart links u) n p v) t) [
        | inl is ↦ or_left (same p v) (leads same links n p v) is
        | inr more ↦ or_right (same p v) (leads same links n p v) (leads-apart links u n p v more)
      ])

  -- the list without one of its elements
  without : A → List A → List A
  without u us = filter (λ x. not (same x u)) us

  shorter_case : (x : A) (us xs : List A) (b : Bool) → length us ≤ length xs → length (cond (not b) (x ∷ us) us) ≤ length (x ∷ xs)
  shorter_case x us xs true h = omega arith
  shorter_case x us xs false h = omega arith

  length-without-le : (u : A) (us : List A) → length (without u us) ≤ length us
  unfolding without
  length-without-le u [] = omega arith
  length-without-le u (x ∷ xs) = shorter_case x (without u xs) xs (same x u) (length-without-le u xs)

  fewer_case : (x : A) (us xs : List A) (b : Bool) → length us ≤ length xs → (b ≡ true) ⊎ (length us < length xs) → length (cond (not b) (x ∷ us) us) < length (x ∷ xs)
  fewer_case x us xs true h less = omega arith
  fewer_case x us xs false h (inl is) = cc
  fewer_case x us xs false h (inr less) = omega arith

  length-without : (u : A) (us : List A) → Contains us u → length (without u us) < length us
  unfolding without
  length-without u [] m = absurd (nowhere u m)
  length-without u (x ∷ xs) m = fewer_case x (without u xs) xs (same x u) (length-without-le u xs) (⊎_elim (λ e. inl ((decides x u).1 e)) (λ r. inr (length-without u xs r)) (first_or_later x xs u m))

  listed-without : (links : A → List A) (u : A) (us : List A) → AreListed links us → AreListed (apart links u) (without u us)
  unfolding without
  listed-without links u us listed x p m = let was = apart-was links u x p m in filter-kept (λ y. not (same y u)) us x (listed x p was.1) (ap not was.0)

  -- a chain is short enough for the test
  pub LeadsTo-leads : (n : ℕ) (links : A → List A) (us : List A) → AreListed links us → (u v : A) → length us ≤ n → LeadsTo links u v → leads same links n u v ≡ true
  unfolding leads Cut
  LeadsTo-leads zero links us listed u v h chain = let first = first_link chain in let at = listed u first.0 first.1 in absurd (omega (arith, at.1))
  LeadsTo-leads (suc n) links us listed u v h chain = elim (cut links u chain) [
    | inl near ↦ (let first = first_link near in absurd (apart-none links u first.0 first.1))
    | inr far ↦ (let less = length-without u us (listed u far.0 far.1) in
        let room : length (without u us) ≤ n = omega arith in
        any_at (λ p. same p v || leads same links n p v) (links u) far.0 far.1 (elim far.2 [
          | inl is ↦ or_left (same far.0 v) (leads same links n far.0 v) ((decides far.0 v).1 is)
          | inr more ↦ or_right (same far.0 v) (leads same links n far.0 v) (leads-apart links u n far.0 v (LeadsTo-leads n (apart links u) (without u us) (listed-without links u us listed) far.0 v room more))
        ]))
  ]

  pub leads-Decides : (links : A → List A) (us : List A) → AreListed links us → (u v : A) → Decides (leads same links (length us) u v) (LeadsTo links u v)
  leads-Decides links us listed u v = (leads-LeadsTo links (length us) u v, LeadsTo-leads (length us) links us listed u v (omega arith))
