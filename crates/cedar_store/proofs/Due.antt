-- The uids above which the part is made.
use Rattle.std.proofs.Common.{◌≡◌, ◌⊎◌, inl, inr, ⊎_elim, Bool, true, false, List, Bor, Option, None, Some, is_some, refl, sym, subst, ◌∙◌, Contains}
use Rattle.base_reach.specs.Private.Lent.{lent}
use Rattle.cedar_value.specs.World.{EntityTree, World, entry_of, parents_of}
use Rattle.cedar_value.specs.declared.uid.Uid.{Uid}
use Rattle.cedar_store.specs.Private.Based.{BaseTree}
use Rattle.cedar_store.specs.Private.Kept.{number_in}
use Rattle.cedar_store.specs.Private.Overlaid.{IsNumbered, IsPlaced, IsSettled}
use Rattle.cedar_store.proofs.ChangedLemmas.{entry_in}
use Rattle.cedar_store.proofs.EachMore.{Each}
use Rattle.cedar_store.proofs.Marked.{Keeps}

-- a uid without a number is in the list
abbrev pub IsDue : BaseTree → List (Bor Uid) → Uid → Type 0
IsDue b due u = ¬ IsNumbered b u → Contains (lent due) u

pub still_due : (b : BaseTree) (old new : List (Bor Uid)) (us : List Uid) → Keeps old new → Each (IsDue b old) us → Each (IsDue b new) us
still_due b old new us keeps each u m none = keeps u (each u m none)

abbrev pub AreParentsDue : BaseTree → World → List (Bor Uid) → Uid → Type 0
AreParentsDue b w due u = Each (IsDue b due) (parents_of w u)

pub still_parents_due : (b : BaseTree) (w : World) (old new : List (Bor Uid)) (us : List Uid) → Keeps old new → Each (AreParentsDue b w old) us → Each (AreParentsDue b w new) us
still_parents_due b w old new us keeps each u m = still_due b old new (parents_of w u) keeps (each u m)

pub numbered_or_not : (P : Type 0) (b : BaseTree) (part : World) (p : Uid) → (¬ IsNumbered b p → IsSettled part p ⊎ P) → IsPlaced b part p ⊎ P
numbered_or_not P b part p rest = by (is_some (number_in b.keys p)) refl
  where
    by : (t : Bool) → is_some (number_in b.keys p) ≡ t → IsPlaced b part p ⊎ P
    by true is = inl (inr is)
    by false is = ⊎_elim (λ settled. inl (inl settled)) (λ h. inr h) (rest (λ there. absurd (let both : true ≡ false = sym there ∙ is in cc)))

-- ---- what a part has

pub still_due_entities : (b : BaseTree) (old new : List (Bor Uid)) (part : World) → Keeps old new → Each (λ (e : EntityTree). IsDue b old e.uid) part → Each (λ (e : EntityTree). IsDue b new e.uid) part
still_due_entities b old new part keeps each e m none = keeps e.uid (each e m none)

pub settled_due : (b : BaseTree) (due : List (Bor Uid)) (part : World) → Each (λ (e : EntityTree). IsDue b due e.uid) part → (p : Uid) → IsSettled part p → ¬ IsNumbered b p → Contains (lent due) p
settled_due b due part each p there none = by (entry_of part p) refl there
  where
    by : (o : Option EntityTree) → entry_of part p ≡ o → is_some o ≡ true → Contains (lent due) p
    by None is t = cc
    by (Some e) is t = let found = entry_in part p e is in subst (Contains (lent due)) found.1 (each e found.0 (λ number. none (subst (IsNumbered b) found.1 number)))
