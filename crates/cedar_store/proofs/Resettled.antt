-- The uids that are to be known after a call are in the part that is made anew, or noted.
use Rattle.std.proofs.Common.{◌≡◌, ◌⊎◌, inl, inr, ⊎_elim, List, [], Some, sym, subst, Contains}
use Rattle.cedar_value.specs.World.{EntityTree, World, parents_of}
use Rattle.cedar_value.specs.declared.uid.Uid.{Uid}
use Rattle.cedar_store.specs.Private.Based.{BaseTree}
use Rattle.cedar_store.specs.Private.Called.{AreNotesKept, IsResettled}
use Rattle.cedar_store.specs.Private.Changing.{ChangeTree, EachChange, change_of, upsert_in}
use Rattle.cedar_store.specs.Private.Overlaid.{AreNotesRight, AreParentsKnown, IsBare, IsLinked, IsNoted, IsNumbered, IsPlaced, IsSettled, world_over}
use Rattle.cedar_store.specs.Private.Parts.{AreDueToo, AreKnownDue, HasParentsDue, IsSifted}
use Rattle.cedar_store.proofs.Due.{numbered_or_not}
use Rattle.cedar_store.proofs.DueChanges.{known_due}

pub resettled_linked : (b : BaseTree) (cs : List ChangeTree) (part : World) (notes : List ChangeTree) (p : Uid) → IsResettled b cs part notes p → IsLinked b part notes p
resettled_linked b cs part notes p (inl placed) = inl placed
resettled_linked b cs part notes p (inr bare) = inr bare.0

pub resettled_right : (b : BaseTree) (cs : List ChangeTree) (part : World) (notes : List ChangeTree) (p : Uid) → IsResettled b cs part notes p → IsPlaced b part p ⊎ IsBare b cs p
resettled_right b cs part notes p (inl placed) = inl placed
resettled_right b cs part notes p (inr bare) = inr bare.1

no_note : (p : Uid) → IsNoted [] p → ⊥
no_note p note = cc

module _ (b : BaseTree) (cs : List ChangeTree) (old part : World) (begun notes notes_new : List ChangeTree) (uids found due : List Uid) (all : (p : Uid) → Contains due p → IsSettled part p)
    (sifted : (p : Uid) → Contains found p → IsSifted b cs due notes_new p) (kept : (p : Uid) → IsNoted begun p → IsNoted notes_new p) (told : (p : Uid) → IsNoted notes_new p → IsNoted begun p ⊎ Contains found p) where
  abbrev IsNewBare : Uid → Type 0
  IsNewBare p = IsNoted notes_new p × IsBare b cs p

  settled_or_bare : (p : Uid) → Contains found p → IsSettled part p ⊎ IsNewBare p
  settled_or_bare p m = let is = sifted p m in ⊎_elim (λ there. inl (all p there)) (λ bare. inr (is.0, bare)) is.1

  resettled : (p : Uid) → (¬ IsNumbered b p → Contains found p) → IsResettled b cs part notes_new p
  resettled p there = numbered_or_not (IsNewBare p) b part p (λ none. settled_or_bare p (there none))

  found_resettled : (p : Uid) → Contains found p → IsResettled b cs part notes_new p
  found_resettled p m = resettled p (λ none. m)

  notes_kept : begun ≡ notes → AreDueToo b cs old notes uids found → AreNotesKept b cs old notes uids part notes_new
  notes_kept same too = record {
    settled = λ p there. resettled p (too.settled p there);
    parents = λ u p m link. resettled p (too.parents u p m link);
    upserted = λ u m note. found_resettled u (too.noted u m note);
    kept = λ p note. kept p (subst (λ (ns : List ChangeTree). IsNoted ns p) (sym same) note);
    told = λ p note. ⊎_elim (λ before. inl (subst (λ (ns : List ChangeTree). IsNoted ns p) same before)) (λ m. inr (found_resettled p m)) (told p note);
  }

  parents_known : EachChange (HasParentsDue b found) cs → AreParentsKnown b cs part notes_new
  parents_known each u p e entity m = resettled_linked b cs part notes_new p (resettled p (known_due b cs found each u p e entity m))

  notes_right : begun ≡ [] → AreNotesRight b cs part notes_new
  notes_right none p note =
      ⊎_elim (λ before. absurd (no_note p (subst (λ (ns : List ChangeTree). IsNoted ns p) none before))) (λ m. resettled_right b cs part notes_new p (found_resettled p m)) (told p note)

  pub known_again : AreKnownDue b cs old notes uids found begun → AreNotesKept b cs old notes uids part notes_new ⊎ (AreParentsKnown b cs part notes_new × AreNotesRight b cs part notes_new)
  known_again (inl keeps) = inl (notes_kept keeps.0 keeps.1)
  known_again (inr anew) = inr (parents_known anew.1, notes_right anew.0)
