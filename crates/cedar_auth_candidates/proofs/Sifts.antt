-- Positions that were sifted.
use Rattle.std.proofs.Common.{◌≡◌, ◌↔◌, ℕ, zero, suc, ◌+◌, ◌<◌, ◌≤◌, ⊎_elim, get_or, List, [], ◌∷◌, ◌++◌, length, take, Contains, Option, Some, None, arith, refl, sym, ap, subst, ◌∙◌, add-one}
use Rattle.std.specs.List.{slice_get, range_with_len}
use Rattle.std.proofs.lemmas.List.{take_all, take_more}
use Rattle.std.proofs.lemmas.List.Elements.{Contains-get_or}
use Rattle.std.proofs.lemmas.List.FromFn.{length-range_with_len, get_or-range_with_len}
use Rattle.cedar_ast.specs.PolicyTree.{PolicyTree}
use Rattle.cedar_auth_spec.specs.Candidates.{Ascend}
use Rattle.cedar_auth_candidates.specs.Private.Sifting.{OfPolicy, Sifted, none_left, keeps, drops, SiftedBy}
use Rattle.base_reach.proofs.Listed.{here, there, first_or_later, nowhere}

-- ---- one more position

pub kept_more : {Q : ℕ → Type 0} (xs ks : List ℕ) (k : ℕ) → Sifted Q xs ks → Q k → Sifted Q (xs ++ k ∷ []) (ks ++ k ∷ [])
kept_more [] [] k none_left q = keeps k [] [] q none_left
kept_more [] (y ∷ ys) k s q = elim s [ ]
kept_more (x ∷ xs) (y ∷ ys) k (keeps z zs js p s) q = keeps x (xs ++ k ∷ []) (ys ++ k ∷ []) p (kept_more xs ys k s q)
kept_more (x ∷ xs) ks k (drops z zs js p s) q = drops x (xs ++ k ∷ []) (ks ++ k ∷ []) p (kept_more xs ks k s q)

pub dropped_more : {Q : ℕ → Type 0} (xs ks : List ℕ) (k : ℕ) → Sifted Q xs ks → ¬ Q k → Sifted Q (xs ++ k ∷ []) ks
dropped_more [] [] k none_left q = drops k [] [] q none_left
dropped_more [] (y ∷ ys) k s q = elim s [ ]
dropped_more (x ∷ xs) (y ∷ ys) k (keeps z zs js p s) q = keeps x (xs ++ k ∷ []) ys p (dropped_more xs ys k s q)
dropped_more (x ∷ xs) ks k (drops z zs js p s) q = drops x (xs ++ k ∷ []) ks p (dropped_more xs ks k s q)

pub sifted_kept : (ps : List PolicyTree) (P : PolicyTree → Type 0) (xs ks ks' : List ℕ) (i : ℕ) → i < length xs → SiftedBy ps P (take i xs) ks → OfPolicy P (slice_get ps (get_or xs i 0)) → ks' ≡ ks ++ get_or xs i 0 ∷ []
    → SiftedBy ps P (take (i + 1) xs) ks'
sifted_kept ps P xs ks ks' i low s h is =
    let Q : ℕ → Type 0 = λ k. OfPolicy P (slice_get ps k) in
    subst (λ (ys : List ℕ). Sifted Q ys ks') (sym (take_more xs i 0 low)) (subst (λ (zs : List ℕ). Sifted Q (take i xs ++ get_or xs i 0 ∷ []) zs) (sym is) (kept_more (take i xs) ks (get_or xs i 0) s h))

pub sifted_dropped : (ps : List PolicyTree) (P : PolicyTree → Type 0) (xs ks ks' : List ℕ) (i : ℕ) → i < length xs → SiftedBy ps P (take i xs) ks → ¬ OfPolicy P (slice_get ps (get_or xs i 0)) → ks' ≡ ks
    → SiftedBy ps P (take (i + 1) xs) ks'
sifted_dropped ps P xs ks ks' i low s h is =
    let Q : ℕ → Type 0 = λ k. OfPolicy P (slice_get ps k) in
    subst (λ (ys : List ℕ). Sifted Q ys ks') (sym (take_more xs i 0 low)) (subst (λ (zs : List ℕ). Sifted Q (take i xs ++ get_or xs i 0 ∷ []) zs) (sym is) (dropped_more (take i xs) ks (get_or xs i 0) s h))

pub sifted_all : (ps : List PolicyTree) (P : PolicyTree → Type 0) (xs ks : List ℕ) (i : ℕ) → length xs ≤ i → SiftedBy ps P (take i xs) ks → SiftedBy ps P xs ks
sifted_all ps P xs ks i past s = subst (λ (ys : List ℕ). Sifted (λ k. OfPolicy P (slice_get ps k)) ys ks) (take_all i xs past) s

-- ---- sifted twice

pub sifted_twice : {P Q : ℕ → Type 0} (xs ys zs : List ℕ) → Sifted P xs ys → Sifted Q ys zs → Sifted (λ k. P k × Q k) xs zs
sifted_twice [] [] [] none_left none_left = none_left
sifted_twice [] [] (z ∷ zs) s t = elim t [ ]
sifted_twice [] (y ∷ ys) zs s t = elim s [ ]
sifted_twice (x ∷ xs) (y ∷ ys) (z ∷ zs) (keeps _ _ _ p s) (keeps _ _ _ q t) = keeps x xs zs (p, q) (sifted_twice xs ys zs s t)
sifted_twice (x ∷ xs) (y ∷ ys) zs (keeps _ _ _ p s) (drops _ _ _ q t) = drops x xs zs (λ h. q h.1) (sifted_twice xs ys zs s t)
sifted_twice (x ∷ xs) ys zs (drops _ _ _ p s) t = drops x xs zs (λ h. p h.0) (sifted_twice xs ys zs s t)

pub sifted_alike : {P Q : ℕ → Type 0} (xs ks : List ℕ) → ((k : ℕ) → P k → Q k) → ((k : ℕ) → Q k → P k) → Sifted P xs ks → Sifted Q xs ks
sifted_alike [] [] f g none_left = none_left
sifted_alike [] (y ∷ ys) f g s = elim s [ ]
sifted_alike (x ∷ xs) (y ∷ ys) f g (keeps _ _ _ p s) = keeps x xs ys (f x p) (sifted_alike xs ys f g s)
sifted_alike (x ∷ xs) ks f g (drops _ _ _ p s) = drops x xs ks (λ q. p (g x q)) (sifted_alike xs ks f g s)

-- the same, where it is known of what is in the first list alone
pub sifted_within : {P Q : ℕ → Type 0} (xs ks : List ℕ) → ((k : ℕ) → Contains xs k → P k → Q k) → ((k : ℕ) → Contains xs k → Q k → P k) → Sifted P xs ks → Sifted Q xs ks
sifted_within [] [] f g none_left = none_left
sifted_within [] (y ∷ ys) f g s = elim s [ ]
sifted_within (x ∷ xs) (y ∷ ys) f g (keeps _ _ _ p s) = keeps x xs ys (f x (here x xs) p) (sifted_within xs ys (λ k m. f k (there x xs k m)) (λ k m. g k (there x xs k m)) s)
sifted_within (x ∷ xs) ks f g (drops _ _ _ p s) = drops x xs ks (λ q. p (g x (here x xs) q)) (sifted_within xs ks (λ k m. f k (there x xs k m)) (λ k m. g k (there x xs k m)) s)

of_both : (P Q : PolicyTree → Type 0) (o : Option PolicyTree) → OfPolicy P o × OfPolicy Q o → OfPolicy (λ p. P p × Q p) o
of_both P Q None h = h.0
of_both P Q (Some p) h = h

of_each : (P Q : PolicyTree → Type 0) (o : Option PolicyTree) → OfPolicy (λ p. P p × Q p) o → OfPolicy P o × OfPolicy Q o
of_each P Q None h = absurd h
of_each P Q (Some p) h = h

pub both_sifted : (ps : List PolicyTree) (P Q : PolicyTree → Type 0) (xs ys zs : List ℕ) → SiftedBy ps P xs ys → SiftedBy ps Q ys zs → SiftedBy ps (λ p. P p × Q p) xs zs
both_sifted ps P Q xs ys zs s t = sifted_alike xs zs (λ k. of_both P Q (slice_get ps k)) (λ k. of_each P Q (slice_get ps k)) (sifted_twice xs ys zs s t)

pub of_alike : (P Q : PolicyTree → Type 0) → ((p : PolicyTree) → P p → Q p) → (o : Option PolicyTree) → OfPolicy P o → OfPolicy Q o
of_alike P Q f None h = h
of_alike P Q f (Some p) h = f p h

pub alike_sifted : (ps : List PolicyTree) (P Q : PolicyTree → Type 0) (xs ks : List ℕ) → ((p : PolicyTree) → P p → Q p) → ((p : PolicyTree) → Q p → P p) → SiftedBy ps P xs ks → SiftedBy ps Q xs ks
alike_sifted ps P Q xs ks f g s = sifted_alike xs ks (λ k. of_alike P Q f (slice_get ps k)) (λ k. of_alike Q P g (slice_get ps k)) s

-- ---- what is there

pub from_sifted : {Q : ℕ → Type 0} (xs ks : List ℕ) → Sifted Q xs ks → (j : ℕ) → Contains ks j → Contains xs j × Q j
from_sifted [] [] none_left j m = absurd (nowhere j m)
from_sifted [] (y ∷ ys) s j m = elim s [ ]
from_sifted {Q} (x ∷ xs) (y ∷ ys) (keeps _ _ _ q s) j m = ⊎_elim
    (λ (e : y ≡ j). (subst (λ (z : ℕ). Contains (x ∷ xs) z) e (here x xs), subst Q e q))
    (λ r. let f = from_sifted xs ys s j r in (there x xs j f.0, f.1)) (first_or_later y ys j m)
from_sifted (x ∷ xs) ks (drops _ _ _ q s) j m = let f = from_sifted xs ks s j m in (there x xs j f.0, f.1)

pub in_sifted : {Q : ℕ → Type 0} (xs ks : List ℕ) → Sifted Q xs ks → (j : ℕ) → Contains xs j → Q j → Contains ks j
in_sifted [] [] none_left j m h = m
in_sifted [] (y ∷ ys) s j m h = elim s [ ]
in_sifted (x ∷ xs) (y ∷ ys) (keeps _ _ _ q s) j m h = ⊎_elim
    (λ (e : x ≡ j). subst (λ (z : ℕ). Contains (x ∷ ys) z) e (here x ys))
    (λ r. there x ys j (in_sifted xs ys s j r h)) (first_or_later x xs j m)
in_sifted {Q} (x ∷ xs) ks (drops _ _ _ q s) j m h = ⊎_elim
    (λ (e : x ≡ j). absurd (q (subst Q (sym e) h)))
    (λ r. in_sifted xs ks s j r h) (first_or_later x xs j m)

in_range : (n j : ℕ) → j < n → Contains (range_with_len 0 n) j
in_range n j low =
    subst (λ (k : ℕ). Contains (range_with_len 0 n) k) (get_or-range_with_len 0 n j 0 low ∙ omega arith)
    (Contains-get_or (range_with_len 0 n) j 0 (omega (arith, length-range_with_len 0 n)))

pub from_range : (n j : ℕ) → Contains (range_with_len 0 n) j → j < n
from_range n j (i, low, e) =
    let inside : i < n = omega (arith, low, length-range_with_len 0 n) in
    let same : 0 + i ≡ j = sym (get_or-range_with_len 0 n i j inside) ∙ e in
    omega (arith, inside, same)

of_some : (P : PolicyTree → Type 0) (o : Option PolicyTree) → OfPolicy P o → (p : PolicyTree) × (o ≡ Some p) × P p
of_some P None h = absurd h
of_some P (Some p) h = (p, refl, h)

within : (ps : List PolicyTree) (i : ℕ) (p : PolicyTree) → slice_get ps i ≡ Some p → i < length ps
within [] i p e = cc
within (x ∷ xs) zero p e = omega arith
within (x ∷ xs) (suc i) p e = omega (arith, within xs i p e)

-- the positions of just those policies
pub sifted_exactly : (ps : List PolicyTree) (P : PolicyTree → Type 0) (ks : List ℕ) → SiftedBy ps P (range_with_len 0 (length ps)) ks
    → (i : ℕ) → Contains ks i ↔ ((p : PolicyTree) × (slice_get ps i ≡ Some p) × P p)
sifted_exactly ps P ks s i = (
  λ m. of_some P (slice_get ps i) (from_sifted (range_with_len 0 (length ps)) ks s i m).1,
  λ h. in_sifted (range_with_len 0 (length ps)) ks s i (in_range (length ps) i (within ps i h.0 h.1)) (subst (λ (o : Option PolicyTree). OfPolicy P o) (sym h.1) h.2),
)

-- ---- all positions

range_suc : (a n : ℕ) → range_with_len a (suc n) ≡ range_with_len a n ++ (a + n) ∷ []
range_suc a zero = let e : a ≡ a + 0 = omega arith in ap (λ (k : ℕ). k ∷ []) e
range_suc a (suc n) =
    let e : (a + 1) + n ≡ a + suc n = omega arith in
    ap (λ (ks : List ℕ). a ∷ ks) (range_suc (a + 1) n ∙ ap (λ (k : ℕ). range_with_len (a + 1) n ++ k ∷ []) e)

pub range_more : (n : ℕ) → range_with_len 0 (n + 1) ≡ range_with_len 0 n ++ n ∷ []
range_more n = let e : 0 + n ≡ n = omega arith in rw add-one (range_suc 0 n ∙ ap (λ (k : ℕ). range_with_len 0 n ++ k ∷ []) e)

-- ---- they ascend

ascend_lower : (ks : List ℕ) (low low' high : ℕ) → low ≤ low' → Ascend low' high ks → Ascend low high ks
ascend_lower [] low low' high h a = tt
ascend_lower (k ∷ ks) low low' high h a = (omega (arith, a.0), a.1, a.2)

ascends : {Q : ℕ → Type 0} (n i low high : ℕ) (ks : List ℕ) → low ≡ i → high ≡ i + n → Sifted Q (range_with_len i n) ks → Ascend low high ks
ascends zero i low high [] e d none_left = tt
ascends zero i low high (k ∷ ks) e d s = elim s [ ]
ascends (suc n) i low high (k ∷ ks) e d (keeps _ _ _ q s) =
    (omega arith, omega arith, ascends n (i + 1) (suc i) high ks (omega arith) (omega arith) s)
ascends (suc n) i low high ks e d (drops _ _ _ q s) =
    ascend_lower ks low (suc low) high (omega arith) (ascends n (i + 1) (suc low) high ks (omega arith) (omega arith) s)

pub sifted_ascends : (ps : List PolicyTree) (P : PolicyTree → Type 0) (ks : List ℕ) → SiftedBy ps P (range_with_len 0 (length ps)) ks → Ascend 0 (length ps) ks
sifted_ascends ps P ks s = ascends (length ps) 0 0 (length ps) ks refl (omega arith) s
