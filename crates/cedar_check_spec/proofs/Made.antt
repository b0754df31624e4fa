-- What the record of pairs has.
use Rattle.std.proofs.Common.{◌≡◌, ℕ, zero, suc, Bool, true, false, cond, List, [], ◌∷◌, map, Contains, Option, Some, None, arith, refl, sym, ap, subst, ◌∙◌}
use Rattle.std.specs.Str.{bytes_eq}
use Rattle.std.specs.declared.cmp.Ordering.{Ordering}
use Rattle.std.specs.declared.cmp.Ordering.TheVariants.{Less, Equal, Greater}
use Rattle.std.specs.Ordering.{match_ordering, ordering_then}
use Rattle.cedar_value.specs.Datum.{Datum}
use Rattle.cedar_value.specs.Ascending.{insert_in}
use Rattle.cedar_value.specs.Order.{datum_cmp, pair_cmp, text_cmp}
use Rattle.cedar_value.specs.Private.Same.{text_same}
use Rattle.cedar_value.specs.Records.{value_at, record_from}
use Rattle.cedar_ast_expressions.specs.Keys.{AreDistinct}
use Rattle.cedar_check_spec.proofs.Members.{text_from_same, same_text_itself, crossed}
use Rattle.base_reach.proofs.Listed.{here, there}

abbrev Pair : Type 0
Pair = List ℕ × Datum

abbrev pub keys : List Pair → List (List ℕ)
keys ps = map (λ p. p.0) ps

pub distinct_tail : (k : List ℕ) (ks : List (List ℕ)) → AreDistinct (k ∷ ks) → AreDistinct ks
distinct_tail k ks h = λ i j d lt m. h (suc i) (suc j) d (omega arith) (omega arith)

pub distinct_head : (k l : List ℕ) (ks : List (List ℕ)) → AreDistinct (k ∷ ks) → Contains ks l → k ≡ l → ⊥
distinct_head k l ks h (j, lt, e) p = h zero (suc j) l (omega arith) (omega arith) (p ∙ sym e)

absent_step : (b : Bool) (k : List ℕ) (p : Pair) (o : Option Datum) → bytes_eq p.0 k ≡ b → (p.0 ≡ k → ⊥) → o ≡ None → cond b (Some p.1) o ≡ None
absent_step true k p o e n h = absurd (n (text_from_same p.0 k e))
absent_step false k p o e n h = h

-- no value at what is not a key
pub absent : (k : List ℕ) (ps : List Pair) → (Contains (keys ps) k → ⊥) → value_at k ps ≡ None
absent k [] n = refl
absent k (p ∷ ps) n =
    absent_step (bytes_eq p.0 k) k p (value_at k ps) refl
    (λ e. n (subst (λ (x : List ℕ). Contains (keys (p ∷ ps)) x) e (here p.0 (keys ps))))
    (absent k ps (λ m. n (there p.0 (keys ps) k m)))

none_here : (b : Bool) (x : Datum) (o : Option Datum) → cond b (Some x) o ≡ None → (b ≡ false) × (o ≡ None)
none_here true x o e = cc
none_here false x o e = (refl, e)

then_first : (o p : Ordering) → ordering_then o p ≡ Equal → o ≡ Equal
then_first Less p h = cc
then_first Equal p h = refl
then_first Greater p h = cc

differ : (r p : Pair) → bytes_eq r.0 p.0 ≡ false → r.0 ≡ p.0 → ⊥
differ r p a e = let b : bytes_eq r.0 p.0 ≡ true = ap (bytes_eq r.0) (sym e) ∙ same_text_itself r.0 in let c : true ≡ false = sym b ∙ a in cc

value_step : (k : List ℕ) (o : Ordering) (p r : Pair) (ps new : List Pair) → pair_cmp p r ≡ o → bytes_eq r.0 p.0 ≡ false → value_at k new ≡ cond (bytes_eq p.0 k) (Some p.1) (value_at k ps)
    → value_at k (match_ordering o (p ∷ r ∷ ps) (r ∷ ps) (r ∷ new)) ≡ cond (bytes_eq p.0 k) (Some p.1) (cond (bytes_eq r.0 k) (Some r.1) (value_at k ps))
value_step k Less p r ps new e a rest = refl
value_step k Equal p r ps new e a rest = absurd (differ r p a (sym (text_same p.0 r.0 (then_first (text_cmp p.0 r.0) (datum_cmp p.1 r.1) e))))
value_step k Greater p r ps new e a rest =
    ap (λ o. cond (bytes_eq r.0 k) (Some r.1) o) rest
    ∙ crossed (bytes_eq r.0 k) (bytes_eq p.0 k) (Some r.1) (Some p.1) (value_at k ps) (λ x y. differ r p a (text_from_same r.0 k x ∙ sym (text_from_same p.0 k y)))

insert_value : (k : List ℕ) (p : Pair) (ps : List Pair) → value_at p.0 ps ≡ None → value_at k (insert_in pair_cmp p ps) ≡ cond (bytes_eq p.0 k) (Some p.1) (value_at k ps)
insert_value k p [] n = refl
insert_value k p (r ∷ ps) n =
    let apart = none_here (bytes_eq r.0 p.0) r.1 (value_at p.0 ps) n in
    value_step k (pair_cmp p r) p r ps (insert_in pair_cmp p ps) refl apart.0 (insert_value k p ps apart.1)

record_value : (k : List ℕ) (ps : List Pair) → AreDistinct (keys ps) → value_at k (record_from ps) ≡ value_at k ps
record_value k [] h = refl
record_value k (p ∷ ps) h =
    let rest = distinct_tail p.0 (keys ps) h in
    let none : value_at p.0 ps ≡ None = absent p.0 ps (λ m. distinct_head p.0 p.0 (keys ps) h m refl) in
    insert_value k p (record_from ps) (record_value p.0 ps rest ∙ none)
    ∙ ap (λ o. cond (bytes_eq p.0 k) (Some p.1) o) (record_value k ps rest)

-- the pairs put before those that are done, one after another
abbrev pub onto : List Pair → List Pair → List Pair
onto done [] = done
onto done (p ∷ ps) = onto (p ∷ done) ps

abbrev or_else : Option Datum → Option Datum → Option Datum
or_else (Some v) o = Some v
or_else None o = o

onto_step : (b : Bool) (p : Pair) (k : List ℕ) (o d : Option Datum) → bytes_eq p.0 k ≡ b → (p.0 ≡ k → o ≡ None) → or_else o (cond b (Some p.1) d) ≡ or_else (cond b (Some p.1) o) d
onto_step true p k o d e n = ap (λ x. or_else x (Some p.1)) (n (text_from_same p.0 k e))
onto_step false p k o d e n = refl

onto_value : (k : List ℕ) (done ps : List Pair) → AreDistinct (keys ps) → value_at k (onto done ps) ≡ or_else (value_at k ps) (value_at k done)
onto_value k done [] h = refl
onto_value k done (p ∷ ps) h =
    onto_value k (p ∷ done) ps (distinct_tail p.0 (keys ps) h)
    ∙ onto_step (bytes_eq p.0 k) p k (value_at k ps) (value_at k done) refl (λ e. absent k ps (λ m. distinct_head p.0 k (keys ps) h m e))

nothing_else : (o : Option Datum) → or_else o None ≡ o
nothing_else None = refl
nothing_else (Some v) = refl

-- the record of pairs whose keys are distinct has what the pairs have
pub record_onto : (k : List ℕ) (ps : List Pair) → AreDistinct (keys ps) → value_at k (onto [] ps) ≡ value_at k (record_from ps)
record_onto k ps h = onto_value k [] ps h ∙ nothing_else (value_at k ps) ∙ sym (record_value k ps h)
