-- The test of matching decides whether a text can be cut.
use Rattle.std.proofs.Common.{◌≡◌, ℕ, Bool, true, false, List, [], ◌∷◌, ◌++◌, refl, sym, ap, ◌∙◌, ◌↔◌, ◌⊎◌, inl, inr}
use Rattle.std.specs.Prelude.{IsTrue, ◌&&◌, nat_eq}
use Rattle.std.specs.Bool.{Decides}
use Rattle.std.specs.Cmp.Derive.{both_true}
use Rattle.std.proofs.lemmas.Bool.{or_left, or_right, or_cases, eqb-true, eq-eqb}
use Rattle.cedar_ext.specs.declared.pattern.Element.{Element}
use Rattle.cedar_ext.specs.declared.pattern.Element.TheVariants.{Character, Star}
use Rattle.cedar_ext.specs.Matching.{IsMatch, is_match, on_some_rest}

-- some rest of the characters passes
abbrev HasRest : (List ℕ → Bool) → List ℕ → Type 0
HasRest test cs = (piece rest : List ℕ) × (cs ≡ piece ++ rest) × (test rest ≡ true)

found_rest : (test : List ℕ → Bool) (piece rest : List ℕ) → test rest ≡ true → on_some_rest test (piece ++ rest) ≡ true
found_rest test [] [] e = e
found_rest test [] (c ∷ rest) e = or_left (test (c ∷ rest)) _ e
found_rest test (c ∷ piece) rest e = or_right (test (c ∷ piece ++ rest)) _ (found_rest test piece rest e)

rest_at : (test : List ℕ → Bool) (c : ℕ) (cs : List ℕ) → (test (c ∷ cs) ≡ true) ⊎ HasRest test cs → HasRest test (c ∷ cs)
rest_at test c cs (inl e) = ([], c ∷ cs, refl, e)
rest_at test c cs (inr r) = (c ∷ r.0, r.1, ap (λ t. c ∷ t) r.2, r.3)

or_rest : (test : List ℕ → Bool) (cs : List ℕ) (x y : Bool) → (y ≡ true → HasRest test cs) → (x ≡ true) ⊎ (y ≡ true) → (x ≡ true) ⊎ HasRest test cs
or_rest test cs x y go (inl e) = inl e
or_rest test cs x y go (inr e) = inr (go e)

rest_of : (test : List ℕ → Bool) (cs : List ℕ) → on_some_rest test cs ≡ true → HasRest test cs
rest_of test [] e = ([], [], refl, e)
rest_of test (c ∷ cs) e = rest_at test c cs (or_rest test cs (test (c ∷ cs)) (on_some_rest test cs) (rest_of test cs) (or_cases (test (c ∷ cs)) (on_some_rest test cs) e))

both_of : (x y : Bool) → (x && y) ≡ true → (x ≡ true) × (y ≡ true)
both_of true y e = (refl, e)
both_of false y e = absurd (cc e)

cut-tested : (es : List Element) (cs : List ℕ) → IsMatch es cs → is_match es cs ≡ true
cut-tested [] [] m = refl
cut-tested [] (c ∷ cs) m = absurd (cc m)
cut-tested (Character c ∷ es) cs m =
    let e : cs ≡ c ∷ m.1 = m.2 ∙ ap (λ p. p ++ m.1) m.3 in
    rw e (both_true (eq-eqb c c refl) (cut-tested es m.1 m.4))
cut-tested (Star ∷ es) cs m = rw m.2 (found_rest (is_match es) m.0 m.1 (cut-tested es m.1 m.4))

tested-cut : (es : List Element) (cs : List ℕ) → is_match es cs ≡ true → IsMatch es cs
tested-cut [] [] e = refl
tested-cut [] (c ∷ cs) e = absurd (cc e)
tested-cut (Character c ∷ es) [] e = absurd (cc e)
tested-cut (Character c ∷ es) (d ∷ cs) e =
    let both = both_of (nat_eq c d) (is_match es cs) e in
    (d ∷ [], cs, refl, ap (λ x. x ∷ []) (sym (eqb-true c d both.0)), tested-cut es cs both.1)
tested-cut (Star ∷ es) cs e =
    let r = rest_of (is_match es) cs e in
    (r.0, r.1, r.2, tt, tested-cut es r.1 r.3)

same_truth : (x y : Bool) → (x ≡ true → y ≡ true) → (y ≡ true → x ≡ true) → x ≡ y
same_truth true y go back = sym (go refl)
same_truth false true go back = back refl
same_truth false false go back = refl

-- what answers whether a text can be cut answers as the test does
pub is_match-gives : (b : Bool) (es : List Element) (cs : List ℕ) → (IsTrue b ↔ IsMatch es cs) → b ≡ is_match es cs
is_match-gives b es cs both = same_truth b (is_match es cs) (λ e. cut-tested es cs (both.0 e)) (λ e. both.1 (tested-cut es cs e))

pub is_match-Decides : (es : List Element) (cs : List ℕ) → Decides (is_match es cs) (IsMatch es cs)
is_match-Decides es cs = (tested-cut es cs, cut-tested es cs)
