-- Worlds in which each uid has the same entity.
use Rattle.std.proofs.Common.{◌≡◌, ℕ, suc, Bool, true, false, cond, ◌⊎◌, inl, inr, ⊎_elim, List, [], ◌∷◌, Contains, Option, Some, unwrap_or, refl, sym, ap, subst, ◌∙◌, arith}
use Rattle.std.specs.List.{slice_get}
use Rattle.std.specs.Option.{option_map}
use Rattle.base_reach.proofs.Chains.{chain_among}
use Rattle.base_reach.proofs.Listed.{first_or_later, nowhere, mapped}
use Rattle.cedar_store.specs.Entities.{uids_of, AreUidsDistinct, IsAcyclic}
use Rattle.cedar_store.proofs.ChangedLemmas.{entry_in}
use Rattle.cedar_value.specs.Datum.{same_uid}
use Rattle.cedar_value.specs.Private.Equality.{same_uid-Decides}
use Rattle.cedar_value.specs.World.{World, EntityTree, entry_of, parents_of, Below}
use Rattle.cedar_value.specs.declared.uid.Uid.{Uid}

-- ---- where no uid is repeated, each entity is that of its uid

uid_place : (xs : List Uid) (u : Uid) → Contains xs u → (k : ℕ) × (slice_get xs k ≡ Some u)
uid_place [] u m = absurd (nowhere u m)
uid_place (x ∷ xs) u m = ⊎_elim (λ e. (0, ap Some e)) (λ r. let p = uid_place xs u r in (suc p.0, p.1)) (first_or_later x xs u m)

distinct_rest : (x : EntityTree) (xs : World) → AreUidsDistinct (x ∷ xs) → AreUidsDistinct xs
distinct_rest x xs distinct u twice = let less = twice.2 in distinct u (suc twice.0, suc twice.1, omega arith, twice.3, twice.4)

first_again : (x : EntityTree) (xs : World) (e : EntityTree) → AreUidsDistinct (x ∷ xs) → Contains xs e → x.uid ≡ e.uid → ⊥
first_again x xs e distinct m same = let p = uid_place (uids_of xs) e.uid (mapped (λ (y : EntityTree). y.uid) xs e m) in distinct e.uid (0, suc p.0, omega arith, ap Some same, p.1)

pub entry_distinct : (w : World) → AreUidsDistinct w → (e : EntityTree) → Contains w e → entry_of w e.uid ≡ Some e
entry_distinct [] distinct e m = absurd (nowhere e m)
entry_distinct (x ∷ xs) distinct e m = by (same_uid x.uid e.uid) refl (entry_distinct xs (distinct_rest x xs distinct) e) (first_or_later x xs e m)
  where
    by : (b : Bool) → same_uid x.uid e.uid ≡ b → (Contains xs e → entry_of xs e.uid ≡ Some e) → (x ≡ e) ⊎ Contains xs e → cond b (Some x) (entry_of xs e.uid) ≡ Some e
    by true t rest (inl same) = ap Some same
    by true t rest (inr later) = absurd (first_again x xs e distinct later ((same_uid-Decides x.uid e.uid).0 t))
    by false t rest (inl same) = let is : same_uid x.uid e.uid ≡ true = (same_uid-Decides x.uid e.uid).1 (ap (λ (y : EntityTree). y.uid) same) in let no_more : true ≡ false = sym is ∙ t in cc
    by false t rest (inr later) = rest later

-- ---- two worlds that have the same entities

module _ (v w : World) (same : (u : Uid) → entry_of v u ≡ entry_of w u) where
  pub same_parents : (u : Uid) → parents_of v u ≡ parents_of w u
  same_parents u = ap (λ (o : Option EntityTree). unwrap_or (option_map (λ (e : EntityTree). e.parents) o) []) (same u)

  pub same_below : {x y : Uid} → Below v x y → Below w x y
  same_below b = chain_among (λ u p m. subst (λ ps. Contains ps p) (same_parents u) m) b

  pub same_acyclic : IsAcyclic w → IsAcyclic v
  same_acyclic acyclic u b = acyclic u (same_below b)

  pub same_contains : AreUidsDistinct v → (e : EntityTree) → Contains v e → Contains w e
  same_contains distinct e m = (entry_in w e.uid e (sym (same e.uid) ∙ entry_distinct v distinct e m)).0
