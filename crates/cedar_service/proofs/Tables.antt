-- The map of jobs, read by its entries.
use Rattle.std.proofs.Common.{◌≡◌, ◌≢◌, ℕ, ◌==◌, nat_eq, Bool, true, false, cond, [], ◌∷◌, Option, Some, refl, sym, ap, ◌∙◌, arith}
use native.Mathlib.Decide.{ℕ_discrete}
use Rattle.std.proofs.lemmas.Bool.Decides.{nat_tests}
use Rattle.std.specs.HashMap.{HashMap, UpdatesBy}
use Rattle.std.specs.Map.{lookup, set_value}
use Rattle.cedar_service_law.specs.Jobs.{JobTree, Jobs, job_at, ChangesAt}

same_test : (a b : ℕ) → a ≡ b → (b == a) ≡ true
same_test a b e = grind (arith, nat_tests)

other_test : (a b : ℕ) → a ≢ b → (b == a) ≡ false
other_test a b n = grind (arith, nat_tests)

eq_test : (a b : ℕ) → nat_eq a b ≡ (b == a)
eq_test a b = by (ℕ_discrete a b)
  where
    by : Dec (a ≡ b) → nat_eq a b ≡ (b == a)
    by (yes e) = is_equal a b e ∙ sym (same_test a b e)
      where
        is_equal : (a b : ℕ) → a ≡ b → nat_eq a b ≡ true
        is_equal a b e = grind (arith, nat_tests)
    by (no n) = is_other a b n ∙ sym (other_test a b n)
      where
        is_other : (a b : ℕ) → a ≢ b → nat_eq a b ≡ false
        is_other a b n = grind (arith, nat_tests)

-- what the map has at a number
pub found_at : (es : Jobs) (k : ℕ) → lookup (nat_eq k) es ≡ job_at es k
found_at [] k = refl
found_at (e ∷ es) k =
    ap (λ (b : Bool). cond b (Some e.1) (lookup (nat_eq k) es)) (eq_test k e.0)
    ∙ ap (λ (o : Option JobTree). cond (e.0 == k) (Some e.1) o) (found_at es k)

-- a change of the map at one number
pub changed_at : {S : Type 0} → (m n : HashMap ℕ JobTree S) (k : ℕ) (job : Option JobTree) → UpdatesBy nat_eq (nat_eq k) m n job → ChangesAt m.entries k job n.entries
changed_at m n k job u = record {
  here = sym (found_at n.entries k) ∙ u.1;
  elsewhere = λ i other. sym (found_at n.entries i) ∙ u.2 i (eq_test k i ∙ other_test k i (λ e. other (sym e))) ∙ found_at m.entries i;
}

-- a job is written over one that is there
here_by : (b : Bool) (x : ℕ × JobTree) (es rest : Jobs) (k : ℕ) (v w : JobTree) → (x.0 == k) ≡ b → job_at (x ∷ es) k ≡ Some v
    → (job_at es k ≡ Some v → job_at rest k ≡ Some w) → job_at (cond b ((x.0, w) ∷ es) (x ∷ rest)) k ≡ Some w
here_by true x es rest k v w t e more = ap (λ (b : Bool). cond b (Some w) (job_at es k)) t
here_by false x es rest k v w t e more =
    ap (λ (b : Bool). cond b (Some x.1) (job_at rest k)) t ∙ more (sym (ap (λ (b : Bool). cond b (Some x.1) (job_at es k)) t) ∙ e)

set_here : (es : Jobs) (k : ℕ) (v w : JobTree) → job_at es k ≡ Some v → job_at (set_value (nat_eq k) es w) k ≡ Some w
set_here [] k v w e = absurd (cc e)
set_here (x ∷ es) k v w e =
    here_by (nat_eq k x.0) x es (set_value (nat_eq k) es w) k v w (sym (eq_test k x.0)) e (λ l. set_here es k v w l)

elsewhere_by : (b : Bool) (x : ℕ × JobTree) (es rest : Jobs) (k i : ℕ) (w : JobTree) → (x.0 == k) ≡ b → i ≢ k
    → job_at rest i ≡ job_at es i → job_at (cond b ((x.0, w) ∷ es) (x ∷ rest)) i ≡ job_at (x ∷ es) i
elsewhere_by true x es rest k i w t n more =
    let other : (x.0 == i) ≡ false = grind (arith, nat_tests) in
    ap (λ (b : Bool). cond b (Some w) (job_at es i)) other ∙ sym (ap (λ (b : Bool). cond b (Some x.1) (job_at es i)) other)
elsewhere_by false x es rest k i w t n more = ap (λ (o : Option JobTree). cond (x.0 == i) (Some x.1) o) more

set_elsewhere : (es : Jobs) (k : ℕ) (w : JobTree) (i : ℕ) → i ≢ k → job_at (set_value (nat_eq k) es w) i ≡ job_at es i
set_elsewhere [] k w i n = refl
set_elsewhere (x ∷ es) k w i n =
    elsewhere_by (nat_eq k x.0) x es (set_value (nat_eq k) es w) k i w (sym (eq_test k x.0)) n (set_elsewhere es k w i n)

pub set_changes : (es : Jobs) (k : ℕ) (v w : JobTree) → job_at es k ≡ Some v → ChangesAt es k (Some w) (set_value (nat_eq k) es w)
set_changes es k v w e = record { here = set_here es k v w e; elsewhere = set_elsewhere es k w }

-- what is there is written over itself
same_by : (b : Bool) (x : ℕ × JobTree) (es rest : Jobs) (k : ℕ) (v : JobTree) → (x.0 == k) ≡ b → job_at (x ∷ es) k ≡ Some v
    → (job_at es k ≡ Some v → rest ≡ es) → cond b ((x.0, v) ∷ es) (x ∷ rest) ≡ x ∷ es
same_by true x es rest k v t e more =
    let here : Some x.1 ≡ Some v = sym (ap (λ (b : Bool). cond b (Some x.1) (job_at es k)) t) ∙ e in
    let same : x.1 ≡ v = cc here in
    ap (λ (y : JobTree). (x.0, y) ∷ es) (sym same)
same_by false x es rest k v t e more = ap (λ (l : Jobs). x ∷ l) (more (sym (ap (λ (b : Bool). cond b (Some x.1) (job_at es k)) t) ∙ e))

pub set_same : (es : Jobs) (k : ℕ) (v : JobTree) → job_at es k ≡ Some v → set_value (nat_eq k) es v ≡ es
set_same [] k v e = absurd (cc e)
set_same (x ∷ es) k v e =
    same_by (nat_eq k x.0) x es (set_value (nat_eq k) es v) k v (sym (eq_test k x.0)) e (λ l. set_same es k v l)
