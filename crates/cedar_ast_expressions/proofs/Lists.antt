-- Expressions and entries as lists, and how deep their members nest.
use Rattle.std.proofs.Common.{◌≡◌, Bool, true, false, not, ℕ, zero, suc, ◌<◌, ◌≤◌, ◌+◌, List, [], ◌∷◌, ◌++◌, length, get_or, take, arith, refl, ap, ap₂, sym, ◌∙◌}
use Rattle.cedar_ast_expressions.specs.Expression.{Expression, Expressions, no_more, and_then, Entries, no_entries, entry, expressions_of, entries_of}
use Rattle.cedar_ast_expressions.specs.Private.Depth.{depth, list_depth, pairs_depth}

abbrev pub list_of : Expressions → List Expression
list_of no_more = []
list_of (and_then e es) = e ∷ list_of es

abbrev pub pairs_of : Entries → List (List ℕ × Expression)
pairs_of no_entries = []
pairs_of (entry k e fs) = (k, e) ∷ pairs_of fs

list_back : (es : List Expression) → list_of (expressions_of es) ≡ es
list_back [] = refl
list_back (e ∷ es) = ap (λ l. e ∷ l) (list_back es)

pairs_back : (ps : List (List ℕ × Expression)) → pairs_of (entries_of ps) ≡ ps
pairs_back [] = refl
pairs_back (p ∷ ps) = ap (λ l. p ∷ l) (pairs_back ps)

pub same_list : (es fs : List Expression) → expressions_of es ≡ expressions_of fs → es ≡ fs
same_list es fs e = sym (list_back es) ∙ ap list_of e ∙ list_back fs

pub same_pairs_list : (ps qs : List (List ℕ × Expression)) → entries_of ps ≡ entries_of qs → ps ≡ qs
same_pairs_list ps qs e = sym (pairs_back ps) ∙ ap pairs_of e ∙ pairs_back qs

pub member_depth : (es : List Expression) (i : ℕ) (e : Expression) → i < length es → e ≡ get_or es i e → depth e + 1 ≤ list_depth es
member_depth [] i e h is = absurd (omega arith)
member_depth (f ∷ es) zero e h is = omega (arith, ap depth is)
member_depth (f ∷ es) (suc i) e h is = omega (arith, member_depth es i e (omega arith) is)

pub pair_depth : (ps : List (List ℕ × Expression)) (i : ℕ) (p : List ℕ × Expression) → i < length ps → p ≡ get_or ps i p → depth p.1 + 1 ≤ pairs_depth ps
pair_depth [] i p h is = absurd (omega arith)
pair_depth (r ∷ ps) zero p h is = let e : depth p.1 ≡ depth r.1 = ap (λ (x : List ℕ × Expression). depth x.1) is in omega arith
pair_depth (r ∷ ps) (suc i) p h is = omega (arith, pair_depth ps i p (omega arith) is)

taken_more : {A : Type 0} (xs : List A) (i : ℕ) (x : A) → i < length xs → x ≡ get_or xs i x → take (i + 1) xs ≡ take i xs ++ x ∷ []
taken_more [] i x h e = absurd (omega arith)
taken_more (y ∷ ys) zero x h e = ap (λ z. z ∷ []) (sym e)
taken_more (y ∷ ys) (suc i) x h e = let n : suc i + 1 ≡ suc (i + 1) = omega arith in ap (λ k. take k (y ∷ ys)) n ∙ ap (λ l. y ∷ l) (taken_more ys i x (omega arith) e)

pub taken_both : {A : Type 0} (xs ys : List A) (i : ℕ) (x y : A) → i < length xs → i < length ys → x ≡ get_or xs i x → y ≡ get_or ys i y → x ≡ y → take i xs ≡ take i ys → take (i + 1) xs ≡ take (i + 1) ys
taken_both xs ys i x y h k p q e s = taken_more xs i x h p ∙ ap₂ (λ l z. l ++ z ∷ []) s e ∙ sym (taken_more ys i y k q)

pub equal_where : (b : Bool) → not b ≡ false → b ≡ true
equal_where true e = refl
equal_where false e = cc

pub pair_same : (p r : List ℕ × Expression) → p.0 ≡ r.0 → p.1 ≡ r.1 → p ≡ r
pair_same p r a b = λ i. (a i, b i)
