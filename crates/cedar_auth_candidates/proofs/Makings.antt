-- Maps that are made key by key.
use Rattle.std.proofs.Common.{◌≡◌, ◌⊎◌, inl, inr, ⊎_elim, Bool, true, false, cond, List, [], ◌∷◌, Contains, Some, None, refl, sym, ap, subst, ◌∙◌}
use Rattle.std.specs.BTreeMap.{BTreeMap, get, is_at, Updates, IsEmpty}
use Rattle.std.specs.Cmp.{IsTotalOrder}
use Rattle.std.specs.Ordering.{is_eq}
use Rattle.std.specs.declared.cmp.Ordering.{Ordering}
use Rattle.std.specs.declared.cmp.Ordering.TheVariants.{Less, Equal, Greater}
use Rattle.std.proofs.lemmas.Cmp.{tied_itself}
use Rattle.base_reach.proofs.Listed.{first_or_later, nowhere}

-- what is there is right, and each key is there or left
pub record IsMaking {K V : Type 0} (R : K → K → Ordering) (Right : K → V → Type 0) (made : BTreeMap K V) (left all : List K) : Type 0 where
  pub right : (k : K) (v : V) → get R made k ≡ Some v → Right k v
  pub there : (k : K) → Contains all k → Contains left k ⊎ ((v : V) × (get R made k ≡ Some v))

equal_from : (x : Ordering) → is_eq x ≡ true → x ≡ Equal
equal_from Less h = cc
equal_from Equal h = refl
equal_from Greater h = cc

module _ {K V : Type 0} {R : K → K → Ordering} (o : IsTotalOrder R) (same_at : (a b : K) → R a b ≡ Equal → a ≡ b) (Right : K → V → Type 0) where
  pub making_start : (made : BTreeMap K V) (left all : List K) → left ≡ all → IsEmpty made → IsMaking R Right made left all
  making_start made left all is empty = record {
    right = λ k v h. let none : get R made k ≡ None = rw empty refl in let no : None ≡ Some v = sym none ∙ h in cc;
    there = λ k m. inl (subst (λ (ks : List K). Contains ks k) (sym is) m);
  }

  right_case : (old new : BTreeMap K V) (n k : K) (v x : V) (b : Bool) → is_at (R n) k ≡ b → get R new k ≡ cond b (Some v) (get R old k) → Right n v → ((x : V) → get R old k ≡ Some x → Right k x)
      → get R new k ≡ Some x → Right k x
  right_case old new n k v x true t e r before h =
      let is : Some v ≡ Some x = sym e ∙ h in
      let one : v ≡ x = cc in
      subst (λ (y : V). Right k y) one (subst (λ (y : K). Right y v) (same_at n k (equal_from (R n k) t)) r)
  right_case old new n k v x false t e r before h = before x (sym e ∙ h)

  there_case : (old new : BTreeMap K V) (n k : K) (v : V) (b : Bool) → get R new k ≡ cond b (Some v) (get R old k) → ((x : V) × (get R old k ≡ Some x)) → (x : V) × (get R new k ≡ Some x)
  there_case old new n k v true e h = (v, e)
  there_case old new n k v false e h = (h.0, e ∙ h.1)

  here_case : (old new : BTreeMap K V) (n : K) (v : V) → get R new n ≡ cond (is_at (R n) n) (Some v) (get R old n) → get R new n ≡ Some v
  here_case old new n v e = e ∙ ap (λ (x : Ordering). cond (is_eq x) (Some v) (get R old n)) (tied_itself o n)

  pub making_more : (old new : BTreeMap K V) (before left all : List K) (n : K) (v : V) → before ≡ n ∷ left → Updates R old new n (Some v) → Right n v → IsMaking R Right old before all → IsMaking R Right new left all
  making_more old new before left all n v is updates r m = record {
    right = λ k x h. right_case old new n k v x (is_at (R n) k) refl (updates.0 k) r (m.right k) h;
    there = λ k c. ⊎_elim
        (λ (b : Contains before k). ⊎_elim
        (λ (e : n ≡ k). inr (subst (λ (y : K). (x : V) × (get R new y ≡ Some x)) e (v, here_case old new n v (updates.0 n))))
        (λ (l : Contains left k). inl l)
        (first_or_later n left k (subst (λ (ks : List K). Contains ks k) is b)))
        (λ (h : (x : V) × (get R old k ≡ Some x)). inr (there_case old new n k v (is_at (R n) k) (updates.0 k) h))
        (m.there k c);
  }

  pub making_end : (made : BTreeMap K V) (left all : List K) → left ≡ [] → IsMaking R Right made left all → (k : K) → Contains all k → (v : V) × (get R made k ≡ Some v) × Right k v
  making_end made left all none m k c = ⊎_elim
      (λ (l : Contains left k). absurd (nowhere k (subst (λ (ks : List K). Contains ks k) none l)))
      (λ (h : (v : V) × (get R made k ≡ Some v)). (h.0, h.1, m.right k h.0 h.1))
      (m.there k c)
