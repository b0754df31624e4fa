-- Whether the keys of an object are declared, a member at a time.
use Rattle.std.proofs.Common.{◌≡◌, ℕ, Bool, true, false, List, [], ◌∷◌, ◌++◌, not, ◌&&◌, ◌<◌, ◌+◌, length, drop, get_or, lit<, refl, sym, ap, ◌∙◌, if◌then◌else◌}
use Rattle.std.specs.List.{list_all}
use Rattle.std.proofs.lemmas.List.{drop_more}
use Rattle.serde_json.specs.Data.{Members, no_members, member, put}
use Rattle.base_json.specs.LentObjects.{part_view, put_all}
use Rattle.base_json.specs.declared.lent_object.LentMember.{LentMember}
use Rattle.cedar_conform_values.specs.Faults.{Told, fault_if}
use Rattle.cedar_conform_values.specs.Objects.{are_only}
use Rattle.cedar_conform_values.specs.Values.{extra_faults, is_declared}
use Rattle.cedar_conform_values.specs.declared.conform_fault.ConformFault.TheVariants.{ExtraAttribute}
use Rattle.cedar_conform_values.proofs.KindLemmas.{told_first}
use Rattle.cedar_conform_values.proofs.OnlyKeys.{are_only-put}

-- ---- whether each key is allowed

module _ (may : List ℕ → Bool) where
  abbrev all : List LentMember → Bool
  all ms = list_all (λ (m : LentMember). may m.key.now) ms

  joined : (a b c : Bool) → (if a then (if b then c else false) else false) ≡ (if b && a then c else false)
  joined true true c = refl
  joined true false c = refl
  joined false true c = refl
  joined false false c = refl

  only_put_all : (ms : List LentMember) (old : Members) → are_only may (put_all ms old) ≡ (if all ms then are_only may old else false)
  only_put_all [] old = refl
  only_put_all (m ∷ ms) old =
      only_put_all ms (put m.key.now (part_view m.value) old) ∙ ap (λ b. if all ms then b else false) (are_only-put may m.key.now (part_view m.value) old)
      ∙ joined (all ms) (may m.key.now) (are_only may old)

  -- the keys of an object are those of its members
  pub only_members : (ms : List LentMember) → are_only may (put_all ms no_members) ≡ all ms
  only_members ms = only_put_all ms no_members ∙ kept (all ms)
    where
      kept : (b : Bool) → (if b then true else false) ≡ b
      kept true = refl
      kept false = refl

-- ---- all members, one after another

module _ {A : Type 0} (test : A → Bool) (ms : List A) (i : ℕ) (m : A) (within : i < length ms) (is : m ≡ get_or ms i m) where
  first_left : list_all test (drop i ms) ≡ (test m && list_all test (drop (i + 1) ms))
  first_left = ap (list_all test) (drop_more ms i m within) ∙ ap (λ (x : A). test x && list_all test (drop (i + 1) ms)) (sym is)

  pub walk_on : test m ≡ true → list_all test (drop i ms) ≡ list_all test (drop (i + 1) ms)
  walk_on e = first_left ∙ ap (λ b. b && list_all test (drop (i + 1) ms)) e

  pub walk_ends : test m ≡ false → list_all test (drop i ms) ≡ false
  walk_ends e = first_left ∙ ap (λ b. b && list_all test (drop (i + 1) ms)) e

-- ---- what is not declared

module _ (names : List (List ℕ)) where
  none_at : (b : Bool) (ms : Members) → (are_only (is_declared names) ms ≡ true → extra_faults names ms ≡ []) → (if b then are_only (is_declared names) ms else false) ≡ true → fault_if (not b) ExtraAttribute ++ extra_faults names ms ≡ []
  none_at true ms later e = later e
  none_at false ms later e = cc

  pub none_extra : (ms : Members) → are_only (is_declared names) ms ≡ true → extra_faults names ms ≡ []
  none_extra no_members e = refl
  none_extra (member k d ms) e = none_at (is_declared names k) ms (none_extra ms) e

  extra_at : (b : Bool) (ms : Members) → (are_only (is_declared names) ms ≡ false → Told (extra_faults names ms) ExtraAttribute) → (if b then are_only (is_declared names) ms else false) ≡ false
      → Told (fault_if (not b) ExtraAttribute ++ extra_faults names ms) ExtraAttribute
  extra_at true ms later e = later e
  extra_at false ms later e = told_first (ExtraAttribute ∷ []) (extra_faults names ms) ExtraAttribute (λ n. (0, lit< tt, refl))

  pub one_extra : (ms : Members) → are_only (is_declared names) ms ≡ false → Told (extra_faults names ms) ExtraAttribute
  one_extra no_members e = cc
  one_extra (member k d ms) e = extra_at (is_declared names k) ms (one_extra ms) e
