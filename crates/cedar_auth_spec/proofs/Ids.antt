-- The ids of the policies that pass a test.
use Rattle.std.proofs.Common.{◌≡◌, ℕ, suc, ◌==◌, Bool, true, false, not, ◌&&◌, ◌||◌, cond, if◌then◌else◌, List, [], ◌∷◌, ◌++◌, length, map, filter, refl, ap, ap₂, ◌∙◌, arith}
use Rattle.std.specs.List.{list_any}
use Rattle.std.proofs.lemmas.List.{map-append}
use Rattle.std.proofs.lemmas.List.Elements.{filter-append}
use Rattle.cedar_value.specs.World.{World}
use Rattle.cedar_value.specs.declared.request.Request.{Request}
use Rattle.cedar_ast.specs.PolicyTree.{PolicyTree}
use Rattle.cedar_ast.specs.Response.{permits, forbids, allows}

abbrev pub ids_where : (PolicyTree → Bool) → List PolicyTree → List (List ℕ)
ids_where test ps = map (λ p. p.id) (filter test ps)

-- ---- one more policy

one_id : (b : Bool) (p : PolicyTree) → map (λ (p : PolicyTree). p.id) (if b then p ∷ [] else []) ≡ (if b then p.id ∷ [] else [])
one_id true p = refl
one_id false p = refl

pub ids_where-append : (test : PolicyTree → Bool) (ps : List PolicyTree) (p : PolicyTree)
    → ids_where test (ps ++ p ∷ []) ≡ ids_where test ps ++ (if test p then p.id ∷ [] else [])
ids_where-append test ps p =
    ap (map (λ (p : PolicyTree). p.id)) (filter-append test ps (p ∷ []))
    ∙ map-append (λ (p : PolicyTree). p.id) (filter test ps) (filter test (p ∷ []))
    ∙ ap (λ (ids : List (List ℕ)). ids_where test ps ++ ids) (one_id (test p) p)

-- one that may pass, before policies of the same ids
pub ids_first : (b : Bool) (p : PolicyTree) (xs ys : List PolicyTree) → map (λ (p : PolicyTree). p.id) xs ≡ map (λ (p : PolicyTree). p.id) ys
    → map (λ (p : PolicyTree). p.id) (cond b (p ∷ xs) xs) ≡ map (λ (p : PolicyTree). p.id) (cond b (p ∷ ys) ys)
ids_first true p xs ys e = ap (λ (ids : List (List ℕ)). p.id ∷ ids) e
ids_first false p xs ys e = e

-- ---- none

not_zero : (n : ℕ) → (suc n == 0) ≡ false
not_zero n = grind arith

none_by : (b any : Bool) (p : PolicyTree) (rest : List PolicyTree) → (length (map (λ (p : PolicyTree). p.id) rest) == 0) ≡ not any
    → (length (map (λ (p : PolicyTree). p.id) (cond b (p ∷ rest) rest)) == 0) ≡ not (b || any)
none_by true any p rest h = not_zero (length (map (λ (p : PolicyTree). p.id) rest))
none_by false any p rest h = h

-- there is no id where no policy passes
none_where : (test : PolicyTree → Bool) (ps : List PolicyTree) → (length (ids_where test ps) == 0) ≡ not (list_any test ps)
none_where test [] = refl
none_where test (p ∷ ps) = none_by (test p) (list_any test ps) p (filter test ps) (none_where test ps)

not_not : (b : Bool) → not (not b) ≡ b
not_not true = refl
not_not false = refl

-- a request is allowed where no forbid is satisfied and some permit is
pub allows_is : (q : Request) (w : World) (ps : List PolicyTree) → ((length (ids_where (forbids q w) ps) == 0) && not (length (ids_where (permits q w) ps) == 0)) ≡ allows q w ps
allows_is q w ps = ap₂ (λ (x y : Bool). x && y) (none_where (forbids q w) ps) (ap not (none_where (permits q w) ps) ∙ not_not (list_any (permits q w) ps))
