-- Chains of links of which some elements have others.
--     cut      a chain of the old links too, or one through an element whose links are others
--     last_link      a chain ends with a link
use Rattle.std.proofs.Common.{◌≡◌, ◌⊎◌, inl, inr, ⊎_elim, Bool, true, false, List, refl, sym, subst, Contains}
use Rattle.base_reach.specs.Closure.{LeadsTo, one_link, more_links}
use Rattle.base_reach.proofs.Chains.{chain_on}
use Rattle.cedar_value.specs.World.{World, Below, parents_of}
use Rattle.cedar_value.specs.declared.uid.Uid.{Uid}
use Rattle.cedar_store.specs.Entities.{IsAcyclic}

pub last_link : {A : Type 0} {links : A → List A} {u v : A} → LeadsTo links u v → (x : A) × Contains (links x) v
last_link (one_link {u = u} l) = (u, l)
last_link (more_links l rest) = last_link rest

module _ {A : Type 0} (links others : A → List A) (named : A → Bool) (same : (u : A) → named u ≡ false → links u ≡ others u) where
  -- the chain is one of the other links too, or it leads on from an element that is named
  abbrev pub IsCut : A → A → Type 0
  IsCut u v = LeadsTo others u v ⊎ ((c : A) × (named c ≡ true) × ((u ≡ c) ⊎ LeadsTo links u c) × LeadsTo links c v)

  cut_link : (u v : A) (b : Bool) → named u ≡ b → Contains (links u) v → IsCut u v
  cut_link u v true is l = inr (u, is, inl refl, one_link l)
  cut_link u v false is l = inl (one_link (subst (λ ps. Contains ps v) (same u is) l))

  cut_more : (u p v : A) (b : Bool) → named u ≡ b → Contains (links u) p → LeadsTo links p v → IsCut p v → IsCut u v
  cut_more u p v true is l rest before = inr (u, is, inl refl, more_links l rest)
  cut_more u p v false is l rest (inl other) = inl (more_links (subst (λ ps. Contains ps p) (same u is) l) other)
  cut_more u p v false is l rest (inr (c, there, way, on)) = inr (c, there, inr (⊎_elim (λ here. one_link (subst (Contains (links u)) here l)) (λ far. more_links l far) way), on)

  pub cut : {u v : A} → LeadsTo links u v → IsCut u v
  cut (one_link {u = u} {v = v} l) = cut_link u v (named u) refl l
  cut (more_links {u = u} {p = p} {v = v} l rest) = cut_more u p v (named u) refl l rest (cut rest)

module _ (old new : World) (named : Uid → Bool) (same : (u : Uid) → named u ≡ false → parents_of new u ≡ parents_of old u) where
  -- a new cycle goes through what is named
  pub cycle_named : IsAcyclic old → (u : Uid) → Below new u u → (c : Uid) × (named c ≡ true) × Below new c c
  cycle_named acyclic u chain = by (cut (parents_of new) (parents_of old) named same chain)
    where
      by : IsCut (parents_of new) (parents_of old) named same u u → (c : Uid) × (named c ≡ true) × Below new c c
      by (inl other) = absurd (acyclic u other)
      by (inr (c, there, way, on)) = (c, there, ⊎_elim (λ here. subst (λ x. Below new c x) here on) (λ far. chain_on on far) way)

  -- a chain from what is not named stays, where nothing is below what is named
  pub chain_stays : (u v : Uid) → named u ≡ false → ((c x : Uid) → Below new x c → named c ≡ true → ⊥) → Below new u v → Below old u v
  chain_stays u v is high chain = by (cut (parents_of new) (parents_of old) named same chain)
    where
      by : IsCut (parents_of new) (parents_of old) named same u v → Below old u v
      by (inl other) = other
      by (inr (c, there, inl here, on)) = absurd (let t : named u ≡ true = subst (λ x. named x ≡ true) (sym here) there in no_both (named u) t is)
        where
          no_both : (b : Bool) → b ≡ true → b ≡ false → ⊥
          no_both true t f = cc
          no_both false t f = cc
      by (inr (c, there, inr far, on)) = absurd (high c u far there)
