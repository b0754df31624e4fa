-- What comes once, where a set has what has come.
use Rattle.std.proofs.Common.{◌≡◌, Bool, true, false, cond, ◌⊎◌, inl, inr, ⊎_elim, List, ◌∷◌, Contains, refl, sym, ap, subst, ◌∙◌}
use Rattle.std.specs.BTreeMap.{is_at}
use Rattle.std.specs.BTreeSet.{BTreeSet, contains, IsEmpty}
use Rattle.std.specs.List.{list_any}
use Rattle.serde_json.specs.Data.{Data, Items, item}
use Rattle.base_reach.proofs.Listed.{here, there, first_or_later}
use Rattle.cedar_conform_entities.specs.Entries.{IsUidOf, SomeWrites, TwoWrite}
use Rattle.cedar_conform_entities.specs.Private.Changing.{IsNoted, OnceBut}
use Rattle.cedar_conform_entities.specs.Private.Progress.{Twice}
use Rattle.cedar_conform_entities.proofs.Repeats.{one_uid}
use Rattle.cedar_conform_entities.proofs.TwiceLemmas.{uid_tie}
use Rattle.cedar_value.specs.Order.{uid_cmp}
use Rattle.cedar_value.specs.declared.uid.Uid.{Uid}

none_noted : (noted : BTreeSet Uid) → IsEmpty noted → (u : Uid) → contains uid_cmp noted u ≡ false
none_noted noted e u = ap (list_any (is_at (uid_cmp u))) e

no_both : (b : Bool) → b ≡ true → b ≡ false → ⊥
no_both b t f = let no_more : true ≡ false = sym t ∙ f in cc

-- ---- a uid that is put into the set

module _ (noted now : BTreeSet Uid) (v : Uid) (h : IsNoted noted now v) where
  is_now : contains uid_cmp now v ≡ true
  is_now = h.1.1

  still_case : (u : Uid) (b : Bool) → is_at (uid_cmp v) u ≡ b → contains uid_cmp now u ≡ cond b true (contains uid_cmp noted u) → contains uid_cmp noted u ≡ true → contains uid_cmp now u ≡ true
  still_case u true tie e t = e
  still_case u false tie e t = e ∙ t

  is_still : (u : Uid) → contains uid_cmp noted u ≡ true → contains uid_cmp now u ≡ true
  is_still u = still_case u (is_at (uid_cmp v) u) refl (h.1.0 u)

  was_case : (u : Uid) (b : Bool) → is_at (uid_cmp v) u ≡ b → contains uid_cmp now u ≡ cond b true (contains uid_cmp noted u) → contains uid_cmp now u ≡ true → (v ≡ u) ⊎ (contains uid_cmp noted u ≡ true)
  was_case u true tie e t = inl ((uid_tie v u).0 tie)
  was_case u false tie e t = inr (sym e ∙ t)

  was : (u : Uid) → contains uid_cmp now u ≡ true → (v ≡ u) ⊎ (contains uid_cmp noted u ≡ true)
  was u = was_case u (is_at (uid_cmp v) u) refl (h.1.0 u)

-- ---- the first of what is left

-- the first writes the uid, and the others are what comes after it
pub record IsFirst (two some two' some' : Uid → Type 0) (v : Uid) : Type 0 where
  pub two_here : some' v → two v
  pub two_there : (u : Uid) → two' u → two u
  pub two_cases : (u : Uid) → two u → ((v ≡ u) × some' u) ⊎ two' u
  pub some_here : some v
  pub some_there : (u : Uid) → some' u → some u
  pub some_cases : (u : Uid) → some u → (v ≡ u) ⊎ some' u

pub first_entry : (d : Data) (ds : Items) (v : Uid) → IsUidOf d v → IsFirst (TwoWrite (item d ds)) (SomeWrites (item d ds)) (TwoWrite ds) (SomeWrites ds) v
first_entry d ds v w = record {
  two_here = λ h. inl (w, h);
  two_there = λ u h. inr h;
  two_cases = λ u h. ⊎_elim (λ a. inl (one_uid d v u w a.0, a.1)) (λ b. inr b) h;
  some_here = inl w;
  some_there = λ u h. inr h;
  some_cases = λ u h. ⊎_elim (λ a. inl (one_uid d v u w a)) (λ b. inr b) h;
}

pub first_uid : (v : Uid) (vs : List Uid) → IsFirst (Twice (v ∷ vs)) (Contains (v ∷ vs)) (Twice vs) (Contains vs) v
first_uid v vs = record {
  two_here = λ h. inl (refl, h);
  two_there = λ u h. inr h;
  two_cases = λ u h. h;
  some_here = here v vs;
  some_there = λ u h. there v vs u h;
  some_cases = λ u h. first_or_later v vs u h;
}

-- ---- how it goes on

pub once_start : (two some : Uid → Type 0) (noted : BTreeSet Uid) → IsEmpty noted → OnceBut two two some noted
once_start two some noted e = record {
  later = λ u h. h;
  again = λ u t h. absurd (no_both (contains uid_cmp noted u) t (none_noted noted e u));
  left = λ u h. inl h;
}

module _ (all two some two' some' : Uid → Type 0) (noted : BTreeSet Uid) (v : Uid) (p : OnceBut all two some noted) (first : IsFirst two some two' some' v) where
  pub once_twice : contains uid_cmp noted v ≡ true → all v
  once_twice h = p.again v h first.some_here

  module _ (now : BTreeSet Uid) (h : IsNoted noted now v) where
    again_more : (u : Uid) → contains uid_cmp now u ≡ true → some' u → all u
    again_more u t m = ⊎_elim (λ e. p.later u (subst two e (first.two_here (subst some' (sym e) m)))) (λ b. p.again u b (first.some_there u m)) (was noted now v h u t)

    noted_left : (u : Uid) → contains uid_cmp noted u ≡ true → some u → two' u ⊎ ((contains uid_cmp now u ≡ true) × some' u)
    noted_left u t m =
        ⊎_elim (λ e. absurd (no_both (contains uid_cmp noted v) (subst (λ x. contains uid_cmp noted x ≡ true) (sym e) t) h.0)) (λ b. inr (is_still noted now v h u t, b)) (first.some_cases u m)

    two_left : (u : Uid) → two u → two' u ⊎ ((contains uid_cmp now u ≡ true) × some' u)
    two_left u m = ⊎_elim (λ a. inr (subst (λ x. contains uid_cmp now x ≡ true) a.0 (is_now noted now v h), a.1)) (λ b. inl b) (first.two_cases u m)

    pub once_more : OnceBut all two' some' now
    once_more = record {
      later = λ u m. p.later u (first.two_there u m);
      again = again_more;
      left = λ u m. ⊎_elim (λ a. two_left u a) (λ b. noted_left u b.0 b.1) (p.left u m);
    }

pub once_end : (all two some : Uid → Type 0) (noted : BTreeSet Uid) → ((u : Uid) → two u → ⊥) → ((u : Uid) → some u → ⊥) → OnceBut all two some noted → (u : Uid) → all u → ⊥
once_end all two some noted none nowhere p u h = ⊎_elim (λ a. none u a) (λ b. nowhere u b.1) (p.left u h)
