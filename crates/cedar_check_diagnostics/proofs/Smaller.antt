-- A part is less deep than the expression.
use Rattle.std.proofs.Common.{◌≡◌, ℕ, zero, suc, ◌<◌, ◌≤◌, Bool, true, false, ◌⊎◌, inl, inr, ⊎_elim, Option, Some, None, max, ap, arith}
use Rattle.std.specs.Prelude.{nat_eq, slice_get, if◌then◌else◌}
use Rattle.cedar_ast_expressions.specs.Expression.{Expression, literal, variable, and, or, if_else, unary, binary, set_with, record_with, Expressions, no_more, and_then, Entries, no_entries, entry}
use Rattle.cedar_ast_expressions.specs.Private.Depth.{depth, all_depth, entries_depth}
use Rattle.cedar_check_diagnostics.specs.Paths.{members_of, values_of, part_of, only_one, one_of_two, one_of_three}

either : (b : Bool) (x p : Expression) (r : Option Expression) → (if b then Some x else r) ≡ Some p → (depth p ≡ depth x) ⊎ (r ≡ Some p)
either true x p r e = let d : p ≡ x = cc in inl (ap depth d)
either false x p r e = inr e

only : (a p : Expression) (n : ℕ) → only_one a n ≡ Some p → depth p ≤ depth a
only a p n e = ⊎_elim (λ d. omega (arith, d)) (λ r. absurd cc) (either (nat_eq n 0) a p None e)

of_two : (a b p : Expression) (n : ℕ) → one_of_two a b n ≡ Some p → depth p ≤ max (depth a) (depth b)
of_two a b p n e =
    ⊎_elim (λ d. omega (arith, d)) (λ r. ⊎_elim (λ d. omega (arith, d)) (λ q. absurd cc) (either (nat_eq n 1) b p None r)) (either (nat_eq n 0) a p (if nat_eq n 1 then Some b else None) e)

of_three : (c a b p : Expression) (n : ℕ) → one_of_three c a b n ≡ Some p → depth p ≤ max (depth c) (max (depth a) (depth b))
of_three c a b p n e =
    ⊎_elim (λ d. omega (arith, d))
    (λ r. ⊎_elim (λ d. omega (arith, d)) (λ q. ⊎_elim (λ d. omega (arith, d)) (λ z. absurd cc) (either (nat_eq n 2) b p None q)) (either (nat_eq n 1) a p (if nat_eq n 2 then Some b else None) r))
    (either (nat_eq n 0) c p (if nat_eq n 1 then Some a else (if nat_eq n 2 then Some b else None)) e)

member : (es : Expressions) (n : ℕ) (p : Expression) → slice_get (members_of es) n ≡ Some p → suc (depth p) ≤ all_depth es
member no_more n p e = absurd cc
member (and_then f es) zero p e = let d : p ≡ f = cc in omega (arith, ap depth d)
member (and_then f es) (suc n) p e = omega (arith, member es n p e)

value : (fs : Entries) (n : ℕ) (p : Expression) → slice_get (values_of fs) n ≡ Some p → suc (depth p) ≤ entries_depth fs
value no_entries n p e = absurd cc
value (entry k f fs) zero p e = let d : p ≡ f = cc in omega (arith, ap depth d)
value (entry k f fs) (suc n) p e = omega (arith, value fs n p e)

pub part_is_smaller : (e : Expression) (n : ℕ) (p : Expression) → part_of e n ≡ Some p → depth p < depth e
part_is_smaller (literal v) n p is = absurd cc
part_is_smaller (variable x) n p is = absurd cc
part_is_smaller (and a b) n p is = omega (arith, of_two a b p n is)
part_is_smaller (or a b) n p is = omega (arith, of_two a b p n is)
part_is_smaller (if_else c a b) n p is = omega (arith, of_three c a b p n is)
part_is_smaller (unary op a) n p is = omega (arith, only a p n is)
part_is_smaller (binary op a b) n p is = omega (arith, of_two a b p n is)
part_is_smaller (set_with es) n p is = omega (arith, member es n p is)
part_is_smaller (record_with fs) n p is = omega (arith, value fs n p is)
