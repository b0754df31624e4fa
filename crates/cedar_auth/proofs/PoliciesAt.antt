-- The policies at positions.
use Rattle.std.proofs.Common.{◌≡◌, ℕ, zero, suc, ◌+◌, ◌<◌, get_or, List, [], ◌∷◌, ◌++◌, length, drop, take, Option, Some, None, arith, refl, ap, ◌∙◌, add-one}
use Rattle.std.specs.List.{slice_get, range_with_len, cons_option}
use Rattle.std.proofs.lemmas.List.{take_more}
use Rattle.std.proofs.lemmas.List.Elements.{filter_map-append}
use Rattle.cedar_ast.specs.PolicyTree.{PolicyTree}
use Rattle.cedar_auth.specs.Private.Selected.{policies_at}

pub at_drop : (all : List PolicyTree) (i : ℕ) (p : PolicyTree) (rest : List PolicyTree) → drop i all ≡ p ∷ rest → (slice_get all i ≡ Some p) × (drop (suc i) all ≡ rest)
at_drop [] zero p rest e = absurd (cc e)
at_drop [] (suc i) p rest e = absurd (cc e)
at_drop (x ∷ xs) zero p rest e =
    let first : x ≡ p = cc e in
    let behind : xs ≡ rest = cc e in
    (ap Some first, behind)
at_drop (x ∷ xs) (suc i) p rest e = at_drop xs i p rest e

-- all positions are those of all policies
all_from : (all ps : List PolicyTree) (i : ℕ) → drop i all ≡ ps → policies_at all (range_with_len i (length ps)) ≡ ps
all_from all [] i e = refl
all_from all (p ∷ ps) i e =
    let d = at_drop all i p ps e in
    ap (λ (o : Option PolicyTree). cons_option o (policies_at all (range_with_len (i + 1) (length ps)))) d.0
    ∙ ap (λ (xs : List PolicyTree). p ∷ xs) (all_from all ps (i + 1) (rw add-one d.1))

pub policies_at-all : (ps : List PolicyTree) → policies_at ps (range_with_len 0 (length ps)) ≡ ps
policies_at-all ps = all_from ps ps 0 refl

-- one more position
pub policies_at-more : (ps : List PolicyTree) (ks : List ℕ) (i : ℕ) → i < length ks
    → policies_at ps (take (i + 1) ks) ≡ policies_at ps (take i ks) ++ cons_option (slice_get ps (get_or ks i 0)) []
policies_at-more ps ks i low = ap (policies_at ps) (take_more ks i 0 low) ∙ filter_map-append (slice_get ps) (take i ks) (get_or ks i 0 ∷ [])

-- a place past the last policy has none
pub not_past : (ps : List PolicyTree) (i : ℕ) → slice_get ps i ≡ None → i < length ps → ⊥
not_past [] i e lt = absurd (omega arith)
not_past (p ∷ ps) zero e lt = cc
not_past (p ∷ ps) (suc i) e lt = not_past ps i e (omega arith)
