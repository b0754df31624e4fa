-- Notes that gain uids.
use Rattle.std.proofs.Common.{◌≡◌, ◌⊎◌, inl, inr, ⊎_elim, ◌||◌, Bool, true, false, Bor, List, Option, None, Some, is_some, Result, Ok, Err, IfOk, refl, sym, ap, subst, ◌∙◌, Contains}
use Rattle.std.specs.Option.{option_copied}
use Rattle.base_reach.proofs.Listed.{either_true, or_left, or_right}
use Rattle.base_reach.specs.Private.Lent.{lent}
use Rattle.cedar_value.specs.Datum.{same_uid}
use Rattle.cedar_value.specs.Private.Equality.{same_uid-Decides}
use Rattle.cedar_value.specs.declared.uid.Uid.{Uid}
use Rattle.cedar_store.specs.Private.Based.{BaseTree}
use Rattle.cedar_store.specs.Private.Changing.{ChangeTree, change_of}
use Rattle.cedar_store.specs.Private.Overlaid.{IsBare, IsNoted}
use Rattle.cedar_store.specs.Private.Parts.{IsSifted}

-- the new notes are the old ones and that of the uid
abbrev pub IsNotedToo : Uid → List ChangeTree → List ChangeTree → Type 0
IsNotedToo u old new = (p : Uid) → is_some (change_of new p) ≡ (same_uid u p || is_some (change_of old p))

pub still_noted : (u : Uid) (old new : List ChangeTree) → IsNotedToo u old new → (p : Uid) → IsNoted old p → IsNoted new p
still_noted u old new too p note = too p ∙ or_right (same_uid u p) (is_some (change_of old p)) note

pub noted_here : (u : Uid) (old new : List ChangeTree) → IsNotedToo u old new → IsNoted new u
noted_here u old new too = too u ∙ or_left (same_uid u u) (is_some (change_of old u)) ((same_uid-Decides u u).1 refl)

pub noted_before : (u : Uid) (old new : List ChangeTree) → IsNotedToo u old new → (p : Uid) → IsNoted new p → (u ≡ p) ⊎ IsNoted old p
noted_before u old new too p note = ⊎_elim (λ same. inl ((same_uid-Decides u p).0 same)) (λ before. inr before) (either_true (same_uid u p) (is_some (change_of old p)) (sym (too p) ∙ note))

-- where the uid was noted, nothing is gained
pub noted_already : (u : Uid) (old : List ChangeTree) → IsNoted old u → IsNotedToo u old old
noted_already u old there p = by (same_uid u p) refl
  where
    by : (b : Bool) → same_uid u p ≡ b → is_some (change_of old p) ≡ (b || is_some (change_of old p))
    by true same = subst (IsNoted old) ((same_uid-Decides u p).0 same) there
    by false same = refl

pub still_sifted : (b : BaseTree) (cs : List ChangeTree) (due due_new : List (Bor Uid)) (u : Uid) (old new : List ChangeTree) → ((p : Uid) → Contains (lent due) p → Contains (lent due_new) p) → IsNotedToo u old new → (p : Uid) → IsSifted b cs (lent due) old p → IsSifted b cs (lent due_new) new p
still_sifted b cs due due_new u old new keeps too p is = (still_noted u old new too p is.0, ⊎_elim (λ m. inl (keeps p m)) (λ bare. inr bare) is.1)

copied_some : {A : Type 0} (o : Option (Bor A)) → is_some (option_copied o) ≡ is_some o
copied_some None = refl
copied_some (Some x) = refl

-- a look-up that finds no note
pub unnoted : (ns : List ChangeTree) (u : Uid) (o : Option (Bor ChangeTree)) (t : Bool) → option_copied o ≡ change_of ns u → t ≡ is_some o → t ≡ false → ¬ IsNoted ns u
unnoted ns u o t found is none note = let both : true ≡ false = sym note ∙ sym (ap is_some found) ∙ copied_some o ∙ sym is ∙ none in cc

pub if_ok : {T E : Type 0} (r : Result T E) (P Q : T → Type 0) → ((x : T) → P x → Q x) → IfOk r P → IfOk r Q
if_ok (Ok x) P Q f h = f x h
if_ok (Err y) P Q f h = h
