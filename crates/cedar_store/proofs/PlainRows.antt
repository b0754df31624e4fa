-- The sets of ancestors, one for each entity.
use Rattle.std.proofs.Common.{◌≡◌, ℕ, zero, suc, false, List, [], ◌∷◌, Option, Some, None, refl, sym, subst, ◌∙◌, Bor}
use Rattle.std.specs.BTreeSet.{BTreeSet, contains}
use Rattle.std.specs.List.{AllZip, slice_get}
use Rattle.std.specs.Option.{MatchOption, option_copied}
use Rattle.std.proofs.lemmas.Option.{same_Some}
use Rattle.base_reach.proofs.Chains.{first_link}
use Rattle.cedar_value.specs.Order.{uid_cmp}
use Rattle.cedar_value.specs.World.{EntityTree, World, Below}
use Rattle.cedar_value.specs.declared.uid.Uid.{Uid}
use Rattle.cedar_store.specs.Entities.{uids_of, IsAcyclic}
use Rattle.cedar_store.specs.Private.Kept.{AreAncestors, HasAncestors}
use Rattle.cedar_store.proofs.Places.{listed}

-- the set has the entity's ancestors, and not the entity
pub record IsRow (w : World) (e : EntityTree) (s : BTreeSet Uid) : Type 0 where
  pub ancestors : HasAncestors w e s
  pub apart : ¬ Below w e.uid e.uid

pub new_row : (w : World) (e : EntityTree) (s : BTreeSet Uid) → AreAncestors w e.uid (contains uid_cmp s) → contains uid_cmp s e.uid ≡ false → IsRow w e s
new_row w e s ancestors absent = record { ancestors = ancestors; apart = λ b. let there = (ancestors e.uid).1 b in absurd (cc) }

row_at : (w : World) (es : World) (rows : List (BTreeSet Uid)) (R : EntityTree → BTreeSet Uid → Type 0) → AllZip R es rows → (k : ℕ) (u : Uid) → slice_get (uids_of es) k ≡ Some u
    → (e : EntityTree) × (s : BTreeSet Uid) × (e.uid ≡ u) × (slice_get rows k ≡ Some s) × R e s
row_at w [] [] R all k u h = cc
row_at w [] (s ∷ rows) R all k u h = absurd all
row_at w (e ∷ es) [] R all k u h = absurd all
row_at w (e ∷ es) (s ∷ rows) R all zero u h = (e, s, same_Some _ _ h, refl, all.0)
row_at w (e ∷ es) (s ∷ rows) R all (suc k) u h = row_at w es rows R all.1 k u h

pub HasAncestors-rows : (w : World) (es : World) (rows : List (BTreeSet Uid)) → AllZip (IsRow w) es rows → AllZip (HasAncestors w) es rows
HasAncestors-rows w [] [] all = all
HasAncestors-rows w [] (s ∷ rows) all = absurd all
HasAncestors-rows w (e ∷ es) [] all = absurd all
HasAncestors-rows w (e ∷ es) (s ∷ rows) all = (all.0.ancestors, HasAncestors-rows w es rows all.1)

pub IsAcyclic-rows : (w : World) (rows : List (BTreeSet Uid)) → AllZip (IsRow w) w rows → IsAcyclic w
IsAcyclic-rows w rows all u b =
    let first = first_link b in
    let place = listed w u first.0 first.1 in
    let row = row_at w w rows (IsRow w) all place.0 u place.1 in
    row.4.apart (subst (λ v. Below w v v) (sym row.2) b)

pub ancestors_at : (w : World) (rows : List (BTreeSet Uid)) (k : ℕ) (u : Uid) (r : Option (Bor (BTreeSet Uid))) → AllZip (HasAncestors w) w rows → slice_get (uids_of w) k ≡ Some u → option_copied r ≡ slice_get rows k
    → MatchOption r ((v : Uid) → ¬ Below w u v) (λ s. AreAncestors w u (contains uid_cmp s.now))
ancestors_at w rows k u r all at read = let row = row_at w w rows (HasAncestors w) all k u at in taken r (read ∙ row.3) (subst (λ v. AreAncestors w v (contains uid_cmp row.1)) row.2 row.4)
  where
    taken : (r : Option (Bor (BTreeSet Uid))) {s : BTreeSet Uid} → option_copied r ≡ Some s → AreAncestors w u (contains uid_cmp s) → MatchOption r ((v : Uid) → ¬ Below w u v) (λ s. AreAncestors w u (contains uid_cmp s.now))
    taken None e h = cc
    taken (Some b) e h = subst (λ (t : BTreeSet Uid). AreAncestors w u (contains uid_cmp t)) (sym (same_Some _ _ e)) h
