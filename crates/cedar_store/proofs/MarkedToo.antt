-- The marks that gain those of the uids that a call names.
use Rattle.std.proofs.Common.{◌≡◌, ◌⊎◌, inl, inr, ⊎_elim, ℕ, true, List, Option, Some, None, is_some, refl, subst, Contains, IsTrue}
use Rattle.std.specs.List.{list_any}
use Rattle.base_reach.proofs.Listed.{either_true, mapped}
use Rattle.cedar_value.specs.Datum.{same_uid}
use Rattle.cedar_value.specs.World.{EntityTree, World, entry_of, has_entity}
use Rattle.cedar_value.specs.declared.uid.Uid.{Uid}
use Rattle.cedar_store.specs.Changes.{is_changed}
use Rattle.cedar_store.specs.Entities.{uids_of}
use Rattle.cedar_store.specs.Private.Based.{BaseTree}
use Rattle.cedar_store.specs.Private.Called.{AreMarkedToo}
use Rattle.cedar_store.specs.Private.Kept.{in_row}
use Rattle.cedar_store.specs.Private.Overlaid.{IsNumbered}
use Rattle.cedar_store.proofs.ChangedLemmas.{entry_in, is_removed}
use Rattle.cedar_store.proofs.EachMore.{Each}

-- where the uid has a number, it is marked
abbrev pub IsMarkedIn : BaseTree → List ℕ → Uid → Type 0
IsMarkedIn b marks u = IsNumbered b u → IsTrue (in_row b.keys marks u)

abbrev pub KeepsMarks : BaseTree → List ℕ → List ℕ → Type 0
KeepsMarks b old new = (u : Uid) → IsTrue (in_row b.keys old u) → IsTrue (in_row b.keys new u)

pub still_marked : (b : BaseTree) (old new : List ℕ) (us : List Uid) → KeepsMarks b old new → Each (IsMarkedIn b old) us → Each (IsMarkedIn b new) us
still_marked b old new us keeps each u m number = keeps u (each u m number)

pub still_marked_entities : (b : BaseTree) (old new : List ℕ) (w : World) → KeepsMarks b old new → Each (λ (e : EntityTree). IsMarkedIn b old e.uid) w → Each (λ (e : EntityTree). IsMarkedIn b new e.uid) w
still_marked_entities b old new w keeps each e m number = keeps e.uid (each e m number)

-- what the call names is removed, or is the uid of an entity that it upserts
pub named_cases : (removed : List Uid) (upserted : World) (u : Uid) → is_changed removed upserted u ≡ true → Contains removed u ⊎ ((e : EntityTree) × Contains upserted e × (e.uid ≡ u) × (entry_of upserted u ≡ Some e))
named_cases removed upserted u is = elim (either_true (list_any (same_uid u) removed) (has_entity upserted u) is) [
  | inl there ↦ inl ((is_removed removed u).0 there)
  | inr there ↦ inr (by (entry_of upserted u) refl there)
]
  where
    by : (o : Option EntityTree) → entry_of upserted u ≡ o → is_some o ≡ true → (e : EntityTree) × Contains upserted e × (e.uid ≡ u) × (entry_of upserted u ≡ Some e)
    by None at there = cc
    by (Some e) at there = let found = entry_in upserted u e at in (e, found.0, found.1, at)

pub all_marked : (b : BaseTree) (removed : List Uid) (upserted : World) (old new : List ℕ) → KeepsMarks b old new → Each (IsMarkedIn b new) removed → Each (λ (e : EntityTree). IsMarkedIn b new e.uid) upserted → AreMarkedToo b removed upserted old new
all_marked b removed upserted old new keeps gone there = record {
  kept = keeps;
  named = λ u is. ⊎_elim (λ m. gone u m) (λ h. subst (IsMarkedIn b new) h.2 (there h.0 h.1)) (named_cases removed upserted u is);
}

pub listed_uid : (upserted : World) (u : Uid) (e : EntityTree) → entry_of upserted u ≡ Some e → Contains (uids_of upserted) u
listed_uid upserted u e at = let found = entry_in upserted u e at in subst (Contains (uids_of upserted)) found.1 (mapped (λ (x : EntityTree). x.uid) upserted e found.0)
