-- The tests of equality are exact, and so are those of capabilities and of keys.
use Rattle.std.proofs.Common.{◌≡◌, ◌≢◌, ℕ, zero, suc, ◌<◌, Bool, true, false, cond, not, ◌&&◌, ◌||◌, List, [], ◌∷◌, length, Contains, inl, inr, ⊎_elim, arith, refl, sym, ap, ap₂, subst, ◌∙◌}
use Rattle.std.specs.Prelude.{filter, Option, option_and_then}
use Rattle.std.specs.Bool.{Decides, one_answer}
use Rattle.std.specs.List.{list_any, slice_index_or}
use Rattle.std.specs.Str.{bytes_eq}
use Rattle.std.proofs.lemmas.Slice.Eq.{bytes_eq-Decides}
use Rattle.std.proofs.lemmas.List.Elements.{Contains-get_or}
use Rattle.cedar_ast_expressions.specs.Private.SameExpression.{same_expression, same_expression-Decides}
use Rattle.cedar_ast_expressions.specs.Keys.{AreDistinct}
use Rattle.cedar_ast_expressions.specs.Expression.{Expression}
use Rattle.cedar_ast_expressions.specs.declared.operator.UnaryOperator.{UnaryOperator}
use Rattle.cedar_ast_expressions.specs.declared.operator.UnaryOperator.TheVariants as operator
use Rattle.cedar_schema_spec.specs.SchemaTree.{SchemaTree}
use Rattle.cedar_schema_types.specs.Lookup.{attribute_at}
use Rattle.cedar_check_spec.specs.Capabilities.{Capability, Capabilities, Has, TellsHeld, AreKept}
use Rattle.cedar_check_spec.specs.Rows.{Typed, IsUnaryRow, has_row, get_row, unary_row}
use Rattle.cedar_check_spec.specs.Typing.{attributes_in}
use Rattle.cedar_check_spec.specs.declared.settings.Settings.{Settings}
use Rattle.cedar_check_spec.specs.Private.Checking.{same_capability, is_held, common, are_distinct, unary_type}
use Rattle.base_reach.proofs.Listed.{both_true, either_true, or_left, or_true, is_false, decides_as, any_decides}
use Rattle.cedar_check_spec.proofs.Made.{distinct_tail, distinct_head}

-- capabilities
pub cap_from_test : (x : Capability) (h : Capabilities) → is_held x h ≡ true → Has x h
cap_from_test x [] e = cc
cap_from_test x (y ∷ ys) e =
    ⊎_elim
    (λ d. let p = both_true (bytes_eq y.key x.key) (same_expression y.on x.on) d in
    inl (ap₂ (λ a b. let z : Capability = record { on = a; key = b } in z) ((same_expression-Decides y.on x.on).0 p.1) ((bytes_eq-Decides y.key x.key).0 p.0)))
    (λ d. inr (cap_from_test x ys d))
    (either_true (same_capability y x) (is_held x ys) e)

pub test_from_cap : (x : Capability) (h : Capabilities) → Has x h → is_held x h ≡ true
test_from_cap x [] m = absurd m
test_from_cap x (y ∷ ys) m =
    ⊎_elim
    (λ d. or_left (same_capability y x) (is_held x ys) (subst (λ z. same_capability y z ≡ true) d (ap₂ ◌&&◌ ((bytes_eq-Decides y.key y.key).1 refl) ((same_expression-Decides y.on y.on).1 refl))))
    (λ d. ap (λ b. same_capability y x || b) (test_from_cap x ys d) ∙ or_true (same_capability y x))
    m

pub no_cap_from_test : (x : Capability) (h : Capabilities) → is_held x h ≡ false → ¬ Has x h
no_cap_from_test x h e = λ m. let t = test_from_cap x h m in cc

pub held_told : (h : Capabilities) → TellsHeld (λ x. is_held x h) h
held_told h x = (cap_from_test x h, test_from_cap x h)

pub one_test : (holds : Capability → Bool) (h : Capabilities) → TellsHeld holds h → (x : Capability) → is_held x h ≡ holds x
one_test holds h told x = one_answer (is_held x h) (holds x) (held_told h x) (told x)

filter_as : (f g : Capability → Bool) → ((x : Capability) → f x ≡ g x) → (xs : Capabilities) → filter f xs ≡ filter g xs
filter_as f g e [] = refl
filter_as f g e (x ∷ xs) = ap (λ b. cond b (x ∷ filter f xs) (filter f xs)) (e x) ∙ ap (λ l. cond (g x) (x ∷ l) l) (filter_as f g e xs)

pub common_kept : (one two : Capabilities) → AreKept one two (common one two)
common_kept one two = record { by_test = λ holds told. filter_as (λ x. is_held x two) holds (one_test holds two told) one }

pub kept_common : (one two kept : Capabilities) → AreKept one two kept → kept ≡ common one two
kept_common one two kept h = h.by_test (λ x. is_held x two) (held_told two)

-- the rows of one operand
same_row : (settings : Settings) (s : SchemaTree) (h : Capabilities) (op : UnaryOperator) (e : Expression) (t : Typed) (holds : Capability → Bool) → TellsHeld holds h
    → unary_type settings s h op e t ≡ unary_row settings s holds op e t
same_row settings s h (operator.Has a) e t holds told =
    ap (λ b. option_and_then (λ at. has_row b e a t.ty (attribute_at a at)) (attributes_in s t.ty)) (one_test holds h told (record { on = e; key = a }))
same_row settings s h (operator.Get a) e t holds told =
    ap (λ b. option_and_then (λ at. get_row b (attribute_at a at)) (attributes_in s t.ty)) (one_test holds h told (record { on = e; key = a }))
same_row settings s h _ e t holds told = refl

pub unary_row_of : (settings : Settings) (s : SchemaTree) (h : Capabilities) (op : UnaryOperator) (e : Expression) (t : Typed) (typing : Option Typed)
    → typing ≡ unary_type settings s h op e t → IsUnaryRow settings s h op e t typing
unary_row_of settings s h op e t typing is = record { by_test = λ holds told. is ∙ same_row settings s h op e t holds told }

pub unary_row_is : (settings : Settings) (s : SchemaTree) (h : Capabilities) (op : UnaryOperator) (e : Expression) (t : Typed) (typing : Option Typed)
    → IsUnaryRow settings s h op e t typing → typing ≡ unary_type settings s h op e t
unary_row_is settings s h op e t typing row = row.by_test (λ x. is_held x h) (held_told h)

-- keys
not_false : (b : Bool) → not b ≡ true → b ≡ false
not_false true e = cc
not_false false e = refl

key_there : (k : List ℕ) (ks : List (List ℕ)) → Decides (list_any (λ l. bytes_eq l k) ks) (Contains ks k)
key_there k ks =
    decides_as (list_any (λ l. bytes_eq l k) ks) ((l : List ℕ) × Contains ks l × (l ≡ k)) (Contains ks k)
    (any_decides (λ l. bytes_eq l k) (λ l. l ≡ k) ks (λ l. bytes_eq-Decides l k))
    (λ h. subst (λ (x : List ℕ). Contains ks x) h.2 h.1)
    (λ m. (k, m, refl))

put_first : (k : List ℕ) (ks : List (List ℕ)) → (Contains ks k → ⊥) → AreDistinct ks → AreDistinct (k ∷ ks)
put_first k ks n h = λ i j d lt m. by i j d lt m
  where
    by : (i j : ℕ) (d : List ℕ) → i < j → j < length (k ∷ ks) → slice_index_or (k ∷ ks) i d ≢ slice_index_or (k ∷ ks) j d
    by i zero d lt m = absurd (omega arith)
    by zero (suc j) d lt m = λ p. n (subst (λ (x : List ℕ). Contains ks x) (sym p) (Contains-get_or ks j d (omega arith)))
    by (suc i) (suc j) d lt m = h i j d (omega arith) (omega arith)

pub distinct_from_test : (ks : List (List ℕ)) → are_distinct ks ≡ true → AreDistinct ks
distinct_from_test [] e = λ i j d lt m. absurd (omega arith)
distinct_from_test (k ∷ ks) e =
    let p = both_true (not (list_any (λ l. bytes_eq l k) ks)) (are_distinct ks) e in
    let none = not_false (list_any (λ l. bytes_eq l k) ks) p.0 in
    put_first k ks (λ m. let there_is = (key_there k ks).1 m in let c : true ≡ false = sym there_is ∙ none in cc) (distinct_from_test ks p.1)

pub test_from_distinct : (ks : List (List ℕ)) → AreDistinct ks → are_distinct ks ≡ true
test_from_distinct [] h = refl
test_from_distinct (k ∷ ks) h =
    ap₂ (λ x y. not x && y)
    (is_false (list_any (λ l. bytes_eq l k) ks) (λ e. distinct_head k k ks h ((key_there k ks).0 e) refl))
    (test_from_distinct ks (distinct_tail k ks h))
