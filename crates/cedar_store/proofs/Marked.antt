-- The uids with numbers that are marked, or below what is marked, in a list that gains them.
use Rattle.std.proofs.Common.{◌≡◌, ℕ, ◌+◌, ◌<◌, ◌≤◌, length, true, ⊎_elim, Bor, List, [], ◌∷◌, ◌++◌, Contains, Some, is_some, arith, refl, sym, ap, subst, ◌∙◌, Option, None, IsTrue}
use Rattle.std.proofs.lemmas.Bool.{cases_lt}
use Rattle.std.proofs.lemmas.List.{map-append}
use Rattle.std.proofs.lemmas.List.Quantifiers.{position-Some}
use Rattle.base_reach.proofs.Listed.{here, left_of, right_of}
use Rattle.base_reach.specs.Private.Lent.{lent}
use Rattle.cedar_value.specs.Datum.{same_uid}
use Rattle.cedar_value.specs.declared.uid.Uid.{Uid}
use Rattle.cedar_store.specs.Private.Based.{BaseTree, IsMarked}
use Rattle.cedar_store.specs.Private.Kept.{number_in}
use Rattle.cedar_store.proofs.Numbered.{number_apart}

abbrev pub Keeps : List (Bor Uid) → List (Bor Uid) → Type 0
Keeps old new = (p : Uid) → Contains (lent old) p → Contains (lent new) p

lent_more : (old : List (Bor Uid)) (u : Bor Uid) → lent (old ++ u ∷ []) ≡ lent old ++ u.now ∷ []
lent_more old u = map-append (λ (x : Bor Uid). x.now) old (u ∷ [])

pub pushed_keeps : (old new : List (Bor Uid)) (u : Bor Uid) → new ≡ old ++ u ∷ [] → Keeps old new
pushed_keeps old new u is p m = subst (λ us. Contains us p) (sym (ap lent is ∙ lent_more old u)) (left_of (lent old) (u.now ∷ []) p m)

pub pushed_there : (old new : List (Bor Uid)) (u : Bor Uid) → new ≡ old ++ u ∷ [] → Contains (lent new) u.now
pushed_there old new u is = subst (λ us. Contains us u.now) (sym (ap lent is ∙ lent_more old u)) (right_of (lent old) (u.now ∷ []) u.now (here u.now []))

module _ (b : BaseTree) (marks : List ℕ) where
  -- those of the first n numbers are there
  abbrev pub AreGathered : ℕ → List (Bor Uid) → Type 0
  AreGathered n found = (k : ℕ) (p : Uid) → k < n → number_in b.keys p ≡ Some k → IsMarked b marks p → Contains (lent found) p

  pub gather : (i : ℕ) (u : Uid) (old new : List (Bor Uid)) → number_in b.keys u ≡ Some i → AreGathered i old → Keeps old new → (IsMarked b marks u → Contains (lent new) u) → AreGathered (i + 1) new
  gather i u old new at gathered keeps one k p less numbered marked =
      ⊎_elim (λ before. keeps p (gathered k p before numbered marked))
      (λ after. (let same : k ≡ i = omega arith in
      let is : p ≡ u = number_apart b.keys p u i (numbered ∙ ap Some same) at in
      subst (Contains (lent new)) (sym is) (one (subst (IsMarked b marks) is marked))))
      (cases_lt k i)

  told : (found : List (Bor Uid)) (n : ℕ) (o : Option ℕ) (p : Uid) → AreGathered n found → number_in b.keys p ≡ o → ((k : ℕ) → o ≡ Some k → k < n) → is_some o ≡ true → IsMarked b marks p → Contains (lent found) p
  told found n None p gathered is within there marked = cc
  told found n (Some k) p gathered is within there marked = gathered k p (within k refl) is marked

  pub all_gathered : (found : List (Bor Uid)) (n : ℕ) → length b.keys ≤ n → AreGathered n found → (p : Uid) → IsTrue (is_some (number_in b.keys p)) → IsMarked b marks p → Contains (lent found) p
  all_gathered found n past gathered p there marked =
      told found n (number_in b.keys p) p gathered refl (λ k at. let inside = (position-Some (same_uid p) b.keys k p at).0 in omega arith) there marked
