-- A world over changes: the entity and the parents of a uid, and what is above an entity.
--     over_unnamed, over_named      the entity with a uid
--     parents_unnamed, parents_named      its direct parents
--     below_apart      what keeps its parents, as all that it is below does, is below what it was
--     below_parents      an entity is below its direct parents and what they are below
--     world_over-none      the world over no changes
use Rattle.std.proofs.Common.{◌≡◌, ◌↔◌, ℕ, ◌⊎◌, inl, inr, ⊎_elim, List, [], ◌∷◌, filter, Bool, true, false, Option, Some, None, unwrap_or, is_some, refl, sym, ap, subst, ◌∙◌, Contains, IsTrue}
use Rattle.std.specs.Option.{option_map}
use Rattle.std.proofs.lemmas.List.{append-nil}
use Rattle.base_reach.specs.Closure.{one_link, more_links}
use Rattle.base_reach.proofs.Chains.{first_link}
use Rattle.base_reach.proofs.Listed.{nowhere}
use Rattle.cedar_value.specs.Datum.{Datum, uid}
use Rattle.cedar_value.specs.World.{EntityTree, World, Below, entry_of, has_entity, parents_of}
use Rattle.cedar_value.specs.declared.uid.Uid.{Uid}
use Rattle.cedar_store.specs.Private.Based.{BaseTree}
use Rattle.cedar_store.specs.Private.Changing.{AreChangesDistinct, ChangeTree, EachChange, IsChangeOfUid, change_of, removed_of, upserted_of, upsert_in}
use Rattle.cedar_store.specs.Private.Kept.{in_row}
use Rattle.cedar_store.specs.Private.Overlaid.{IsBare, IsLinked, IsNumbered, IsOverlaid, IsPlaced, IsSettled, world_over}
use Rattle.cedar_store.proofs.ChangedLemmas.{entry_unnamed, entry_named}
use Rattle.cedar_store.proofs.ChangesTold.{changed_told, upserted_told}

-- ---- the entity with a uid, and its parents

abbrev pub parents_in : Option EntityTree → List Uid
parents_in o = unwrap_or (option_map (λ (e : EntityTree). e.parents) o) []

module _ (w : World) (cs : List ChangeTree) (distinct : AreChangesDistinct cs) (named : EachChange IsChangeOfUid cs) (u : Uid) where
  pub over_unnamed : change_of cs u ≡ None → entry_of (world_over w cs) u ≡ entry_of w u
  over_unnamed none = entry_unnamed w (removed_of cs) (upserted_of cs) u (changed_told cs u distinct named ∙ ap is_some none)

  pub over_named : (c : ChangeTree) → change_of cs u ≡ Some c → entry_of (world_over w cs) u ≡ c.entity
  over_named c is =
      entry_named w (removed_of cs) (upserted_of cs) u (changed_told cs u distinct named ∙ ap is_some is) ∙ upserted_told cs u distinct named ∙ ap upsert_in is

  pub parents_unnamed : change_of cs u ≡ None → parents_of (world_over w cs) u ≡ parents_of w u
  parents_unnamed none = ap parents_in (over_unnamed none)

  pub parents_named : (c : ChangeTree) → change_of cs u ≡ Some c → parents_of (world_over w cs) u ≡ parents_in c.entity
  parents_named c is = ap parents_in (over_named c is)

-- ---- no changes

keeps_all : (w : World) → filter (λ (e : EntityTree). true) w ≡ w
keeps_all [] = refl
keeps_all (e ∷ w) = ap (λ es. e ∷ es) (keeps_all w)

pub world_over-none : (w : World) (cs : List ChangeTree) → cs ≡ [] → world_over w cs ≡ w
world_over-none w cs is = rw is (append-nil (filter (λ (e : EntityTree). true) w) ∙ keeps_all w)

-- ---- chains

-- an entity is below its direct parents, and what they are below
pub below_parents : (w : World) (u v : Uid) → Below w u v ↔ ((p : Uid) × Contains (parents_of w u) p × ((p ≡ v) ⊎ Below w p v))
below_parents w u v = (λ c. first c, λ h. ⊎_elim (λ is. one_link (subst (Contains (parents_of w u)) is h.1)) (λ rest. more_links h.1 rest) h.2)
  where
    first : {u v : Uid} → Below w u v → (p : Uid) × Contains (parents_of w u) p × ((p ≡ v) ⊎ Below w p v)
    first (one_link {v = v} l) = (v, l, inl refl)
    first (more_links {p = p} l rest) = (p, l, inr rest)

-- the uid, and what it is below, have the parents that they had
abbrev pub IsApart : World → List ChangeTree → Uid → Type 0
IsApart w cs u = (parents_of (world_over w cs) u ≡ parents_of w u) × ((x : Uid) → Below w u x → parents_of (world_over w cs) x ≡ parents_of w x)

module _ (w : World) (cs : List ChangeTree) where
  apart_parent : (u p : Uid) → IsApart w cs u → Contains (parents_of w u) p → IsApart w cs p
  apart_parent u p apart m = (apart.1 p (one_link m), λ x c. apart.1 x (more_links m c))

  chain_before : {u v : Uid} → Below (world_over w cs) u v → IsApart w cs u → Below w u v
  chain_before (one_link {u = u} {v = v} l) apart = one_link (subst (λ ps. Contains ps v) apart.0 l)
  chain_before (more_links {u = u} {p = p} l rest) apart = let m = subst (λ ps. Contains ps p) apart.0 l in more_links m (chain_before rest (apart_parent u p apart m))

  chain_after : {u v : Uid} → Below w u v → IsApart w cs u → Below (world_over w cs) u v
  chain_after (one_link {u = u} {v = v} l) apart = one_link (subst (λ ps. Contains ps v) (sym apart.0) l)
  chain_after (more_links {u = u} {p = p} l rest) apart = more_links (subst (λ ps. Contains ps p) (sym apart.0) l) (chain_after rest (apart_parent u p apart l))

  pub below_apart : (u v : Uid) → IsApart w cs u → Below (world_over w cs) u v ↔ Below w u v
  below_apart u v apart = (λ c. chain_before c apart, λ c. chain_after c apart)

-- ---- what a store keeps

pub unsettled : (part : World) (u : Uid) (t : Bool) → t ≡ has_entity part u → t ≡ false → ¬ IsSettled part u
unsettled part u t is none there = let both : true ≡ false = sym there ∙ sym is ∙ none in cc

module _ (b : BaseTree) (cs : List ChangeTree) (marks : List ℕ) (part : World) (notes : List ChangeTree) (distinct : AreChangesDistinct cs) (named : EachChange IsChangeOfUid cs)
    (numbered : (u v : Uid) → Below b.world u v → IsNumbered b v) (kept : IsOverlaid b cs marks part notes) where
  -- a row that has no mark in common is right
  pub row_apart : (u : Uid) → change_of cs u ≡ None → ((x : Uid) → IsTrue (in_row b.keys marks x) → ¬ Below b.world u x) → IsApart b.world cs u
  row_apart u none right = (parents_unnamed b.world cs distinct named u none, λ x c. ⊎_elim (λ there. absurd (right x there c)) (λ same. same) (kept.marked x (numbered u x c)))

  parent_case : (z p : Uid) (o : Option ChangeTree) (e : Option EntityTree) → change_of cs z ≡ o → upsert_in o ≡ e → Contains (parents_of (world_over b.world cs) z) p → IsLinked b part notes p
  parent_case z p None e is entity m = inl (inr (numbered z p (one_link (subst (λ ps. Contains ps p) (parents_unnamed b.world cs distinct named z is) m))))
  parent_case z p (Some c) None is entity m = absurd (nowhere p (subst (λ ps. Contains ps p) (parents_named b.world cs distinct named z c is ∙ ap parents_in entity) m))
  parent_case z p (Some c) (Some e) is entity m =
      kept.parents z p e (ap upsert_in is ∙ entity) (subst (λ ps. Contains ps p) (parents_named b.world cs distinct named z c is ∙ ap parents_in entity) m)

  -- what the part lacks, where it has a number
  number_apart : (p : Uid) → IsNumbered b p → ¬ IsSettled part p → IsApart b.world cs p
  number_apart p number unsettled = (
    ⊎_elim (λ there. absurd (unsettled (kept.below_marked p number (inl there)))) (λ same. same) (kept.marked p number),
    λ x c. ⊎_elim (λ there. absurd (unsettled (kept.below_marked p number (inr (x, there, c))))) (λ same. same) (kept.marked x (numbered p x c)),
  )

  bare_apart : (p : Uid) → IsBare b cs p → IsApart b.world cs p
  bare_apart p bare = (bare.0 ∙ sym bare.1, λ x c. absurd (let first = first_link c in nowhere first.0 (subst (λ ps. Contains ps first.0) bare.1 first.1)))

  placed_apart : (p : Uid) → IsPlaced b part p → ¬ IsSettled part p → IsApart b.world cs p
  placed_apart p (inl settled) unsettled = absurd (unsettled settled)
  placed_apart p (inr number) unsettled = number_apart p number unsettled

  -- a direct parent after the changes that the part lacks
  pub parent_apart : (z p : Uid) → Contains (parents_of (world_over b.world cs) z) p → ¬ IsSettled part p → IsApart b.world cs p
  parent_apart z p m unsettled =
      ⊎_elim (λ placed. placed_apart p placed unsettled) (λ note. ⊎_elim (λ placed. placed_apart p placed unsettled) (bare_apart p) (kept.noted p note))
      (parent_case z p (change_of cs z) (upsert_in (change_of cs z)) refl refl m)

-- ---- sets of values

-- two worlds in which the one is below the same
pub any_same : (w x : World) (u : Uid) (ds : List Datum) (b : Bool) → ((v : Uid) → Below w u v ↔ Below x u v) → IsTrue b ↔ ((v : Uid) × Contains ds (uid v) × Below x u v) → IsTrue b ↔ ((v : Uid) × Contains ds (uid v) × Below w u v)
any_same w x u ds b same told = (
  λ t. (let h = told.0 t in (h.0, h.1, (same h.0).1 h.2)),
  λ h. told.1 (h.0, h.1, (same h.0).0 h.2),
)

-- an entity is below some uid where one of its direct parents is it, or is below it
pub any_parents : (w : World) (u : Uid) (ps : List Uid) (ds : List Datum) → ps ≡ parents_of w u
    → ((p : Uid) × Contains ps p × (v : Uid) × Contains ds (uid v) × ((p ≡ v) ⊎ Below w p v)) ↔ ((v : Uid) × Contains ds (uid v) × Below w u v)
any_parents w u ps ds is = (
  λ h. (h.2, h.3, (below_parents w u h.2).1 (h.0, subst (λ l. Contains l h.0) is h.1, h.4)),
  λ h. (let step = (below_parents w u h.0).0 h.2 in (step.0, subst (λ l. Contains l step.0) (sym is) step.1, h.0, h.1, step.2)),
)
