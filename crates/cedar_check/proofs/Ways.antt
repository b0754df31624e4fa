-- Rows along the spine of an expression, and chains of `&&`.
use Rattle.std.proofs.Common.{◌≡◌, ℕ, ◌+◌, ◌<◌, ◌≤◌, List, [], ◌∷◌, ◌++◌, Option, Some, None, length, get_or, take, set, arith, refl, ap, sym, subst, ◌∙◌}
use Rattle.std.specs.Borrow.{Bor}
use Rattle.std.specs.Prelude.{option_and_then}
use Rattle.std.proofs.lemmas.List.{append_assoc, take_more, take_more_set}
use Rattle.cedar_schema_types.specs.declared.truth.Truth.{Truth}
use Rattle.cedar_schema_types.specs.declared.truth.Truth.TheVariants.{True, False, Any}
use Rattle.cedar_schema_types.specs.Types.{boolean}
use Rattle.cedar_ast_expressions.specs.Expression.{Expression, and, or, if_else, unary, binary}
use Rattle.cedar_ast_expressions.specs.Private.Depth.{depth}
use Rattle.cedar_schema_spec.specs.SchemaTree.{SchemaTree}
use Rattle.cedar_schema_spec.specs.declared.environment.Environment.{Environment}
use Rattle.cedar_check_spec.specs.Capabilities.{Capabilities}
use Rattle.cedar_check_spec.specs.Rows.{Typed, gaining, truth_in}
use Rattle.cedar_check_spec.specs.Private.Checking.{and_right, and_type, on_boolean, type_of_with}
use Rattle.cedar_check_spec.specs.declared.settings.Settings.{Settings}
use Rattle.cedar_check.specs.Private.Spine.{left_of, row_from, rows_from, Leads}

-- ---- the way down

-- one step further to the left
further : (e f l : Expression) (ps : List (Bor Expression)) (q : Bor Expression) → q.now ≡ f → left_of f ≡ Some l → Leads e ps f → Leads e (ps ++ q ∷ []) l
further e f l [] q is left way = (is ∙ sym way, (l, (ap left_of way ∙ left, refl)))
further e f l (p ∷ ps) q is left way = (way.0, (way.1.0, (way.1.1.0, further way.1.0 f l ps q is left way.1.1.1)))

-- the same, for what is put into the next place
pub led_further : (e l : Expression) (ps : List (Bor Expression)) (n : ℕ) (q : Bor Expression) → n < length ps → left_of q.now ≡ Some l → Leads e (take n ps) q.now → Leads e (take (n + 1) (set ps n q)) l
led_further e l ps n q low left way = subst (λ es. Leads e es l) (sym (take_more_set ps n q low)) (further e q.now l (take n ps) q refl left way)

-- ---- depths

left_lower : (e l : Expression) → left_of e ≡ Some l → depth l < depth e
left_lower (and a b) l is = let same : a ≡ l = cc in omega (arith, ap depth same)
left_lower (or a b) l is = let same : a ≡ l = cc in omega (arith, ap depth same)
left_lower (if_else i x y) l is = let same : i ≡ l = cc in omega (arith, ap depth same)
left_lower (unary op a) l is = let same : a ≡ l = cc in omega (arith, ap depth same)
left_lower (binary op a b) l is = let same : a ≡ l = cc in omega (arith, ap depth same)
left_lower _ l is = cc

-- the last part is as low as the expression
pub last_low : (e f : Expression) (ps : List (Bor Expression)) → Leads e ps f → depth f ≤ depth e
last_low e f [] way = let same : depth e ≡ depth f = ap depth way in omega arith
last_low e f (p ∷ ps) way = omega (arith, left_lower e way.1.0 way.1.1.0, last_low way.1.0 f ps way.1.1.1)

-- what leads there without the last step
pub shorter : (e f : Expression) (ps : List (Bor Expression)) (q : Bor Expression) → Leads e (ps ++ q ∷ []) f → Leads e ps q.now
shorter e f [] q way = sym way.0
shorter e f (p ∷ ps) q way = (way.0, (way.1.0, (way.1.1.0, shorter way.1.0 f ps q way.1.1.1)))

-- the places that are taken, with the last of them apart
pub split_taken : (ps : List (Bor Expression)) (n : ℕ) (q : Bor Expression) → n < length ps → q ≡ get_or ps n q → take (n + 1) ps ≡ take n ps ++ q ∷ []
split_taken ps n q low is = take_more ps n q low ∙ ap (λ x. take n ps ++ x ∷ []) (sym is)

-- one step up: what leads to the last place that is taken
pub way_up : (e f : Expression) (ps : List (Bor Expression)) (count n : ℕ) (q : Bor Expression) → count ≤ length ps → n + 1 ≡ count → q ≡ get_or ps n q → Leads e (take count ps) f → Leads e (take n ps) q.now
way_up e f ps count n q fits one is way =
    shorter e f (take n ps) q (subst (λ es. Leads e es f) (sym (ap (λ m. take m ps) one) ∙ split_taken ps n q (omega (arith, fits, one)) is) way)

-- ---- the way up

module _ (settings : Settings) (s : SchemaTree) (env : Environment) (h : Capabilities) where
  -- the row of an expression, from the type of its left part
  pub row_whole : (e l : Expression) → left_of e ≡ Some l → row_from settings s env h e (type_of_with settings s env h l) ≡ type_of_with settings s env h e
  row_whole (and a b) l is = let same : a ≡ l = cc in ap (λ z. row_from settings s env h (and a b) (type_of_with settings s env h z)) (sym same)
  row_whole (or a b) l is = let same : a ≡ l = cc in ap (λ z. row_from settings s env h (or a b) (type_of_with settings s env h z)) (sym same)
  row_whole (if_else i x y) l is = let same : i ≡ l = cc in ap (λ z. row_from settings s env h (if_else i x y) (type_of_with settings s env h z)) (sym same)
  row_whole (unary op a) l is = let same : a ≡ l = cc in ap (λ z. row_from settings s env h (unary op a) (type_of_with settings s env h z)) (sym same)
  row_whole (binary op a b) l is = let same : a ≡ l = cc in ap (λ z. row_from settings s env h (binary op a b) (type_of_with settings s env h z)) (sym same)
  row_whole _ l is = cc

  pub rows_whole : (e f : Expression) (ps : List (Bor Expression)) → Leads e ps f → rows_from settings s env h ps (type_of_with settings s env h f) ≡ type_of_with settings s env h e
  rows_whole e f [] way = ap (λ z. type_of_with settings s env h z) (sym way)
  rows_whole e f (p ∷ ps) way =
      ap (row_from settings s env h p.now) (rows_whole way.1.0 f ps way.1.1.1)
      ∙ ap (λ z. row_from settings s env h z (type_of_with settings s env h way.1.0)) way.0
      ∙ row_whole e way.1.0 way.1.1.0

  -- the row of the last of these, and then those of the others
  pub rows_appended : (ps : List (Bor Expression)) (q : Bor Expression) (t : Option Typed) → rows_from settings s env h (ps ++ q ∷ []) t ≡ rows_from settings s env h ps (row_from settings s env h q.now t)
  rows_appended [] q t = refl
  rows_appended (p ∷ ps) q t = ap (row_from settings s env h p.now) (rows_appended ps q t)

  -- one step up: the row of what is in the last place that is taken
  pub row_up : (e : Expression) (ps : List (Bor Expression)) (count n : ℕ) (q : Bor Expression) (t u : Option Typed) → count ≤ length ps → n + 1 ≡ count → q ≡ get_or ps n q → u ≡ row_from settings s env h q.now t
      → rows_from settings s env h (take count ps) t ≡ type_of_with settings s env h e → rows_from settings s env h (take n ps) u ≡ type_of_with settings s env h e
  row_up e ps count n q t u fits one is up whole =
      ap (rows_from settings s env h (take n ps)) up
      ∙ sym (rows_appended (take n ps) q t)
      ∙ ap (λ es. rows_from settings s env h es t) (sym (split_taken ps n q (omega (arith, fits, one)) is) ∙ ap (λ m. take m ps) one)
      ∙ whole

-- ---- chains of `&&`

module _ (f : Truth) (ga gb : Capabilities) where
  after_true : (gc : Capabilities) (o : Option Truth) → option_and_then (λ r. and_right f (ga ++ gb) r gc) o ≡ on_boolean (option_and_then (λ r. and_right True gb r gc) o) (and_right f ga)
  after_true gc None = refl
  after_true gc (Some False) = refl
  after_true gc (Some True) = ap (gaining (boolean f)) (append_assoc ga gb gc)
  after_true gc (Some Any) = ap (gaining (boolean Any)) (append_assoc ga gb gc)

  after_any : (gc : Capabilities) (o : Option Truth) → option_and_then (λ r. and_right Any (ga ++ gb) r gc) o ≡ on_boolean (option_and_then (λ r. and_right Any gb r gc) o) (and_right f ga)
  after_any gc None = refl
  after_any gc (Some False) = refl
  after_any gc (Some True) = ap (gaining (boolean Any)) (append_assoc ga gb gc)
  after_any gc (Some Any) = ap (gaining (boolean Any)) (append_assoc ga gb gc)

  third_true : (z : Option Typed) → on_boolean z (and_right f (ga ++ gb)) ≡ on_boolean (on_boolean z (and_right True gb)) (and_right f ga)
  third_true None = refl
  third_true (Some z) = after_true z.gained (truth_in z.ty)

  third_any : (z : Option Typed) → on_boolean z (and_right Any (ga ++ gb)) ≡ on_boolean (on_boolean z (and_right Any gb)) (and_right f ga)
  third_any None = refl
  third_any (Some z) = after_any z.gained (truth_in z.ty)

module _ (h : Capabilities) (c : Capabilities → Option Typed) where
  second_true : (ga gb : Capabilities) (o : Option Truth) → on_boolean (option_and_then (λ g. and_right True ga g gb) o) (and_type h c) ≡ on_boolean (option_and_then (λ g. and_type (h ++ ga) c g gb) o) (and_right True ga)
  second_true ga gb None = refl
  second_true ga gb (Some False) = refl
  second_true ga gb (Some True) = ap (λ k. on_boolean (c k) (and_right True (ga ++ gb))) (sym (append_assoc h ga gb)) ∙ third_true True ga gb (c (h ++ ga ++ gb))
  second_true ga gb (Some Any) = ap (λ k. on_boolean (c k) (and_right Any (ga ++ gb))) (sym (append_assoc h ga gb)) ∙ third_any True ga gb (c (h ++ ga ++ gb))

  second_any : (ga gb : Capabilities) (o : Option Truth) → on_boolean (option_and_then (λ g. and_right Any ga g gb) o) (and_type h c) ≡ on_boolean (option_and_then (λ g. and_type (h ++ ga) c g gb) o) (and_right Any ga)
  second_any ga gb None = refl
  second_any ga gb (Some False) = refl
  second_any ga gb (Some True) = ap (λ k. on_boolean (c k) (and_right Any (ga ++ gb))) (sym (append_assoc h ga gb)) ∙ third_true Any ga gb (c (h ++ ga ++ gb))
  second_any ga gb (Some Any) = ap (λ k. on_boolean (c k) (and_right Any (ga ++ gb))) (sym (append_assoc h ga gb)) ∙ third_any Any ga gb (c (h ++ ga ++ gb))

  from_true : (ga : Capabilities) (y : Option Typed) → on_boolean (on_boolean y (and_right True ga)) (and_type h c) ≡ on_boolean (on_boolean y (and_type (h ++ ga) c)) (and_right True ga)
  from_true ga None = refl
  from_true ga (Some y) = second_true ga y.gained (truth_in y.ty)

  from_any : (ga : Capabilities) (y : Option Typed) → on_boolean (on_boolean y (and_right Any ga)) (and_type h c) ≡ on_boolean (on_boolean y (and_type (h ++ ga) c)) (and_right Any ga)
  from_any ga None = refl
  from_any ga (Some y) = second_any ga y.gained (truth_in y.ty)

  first : (b : Capabilities → Option Typed) (ga : Capabilities) (o : Option Truth) → on_boolean (option_and_then (λ f. and_type h b f ga) o) (and_type h c) ≡ option_and_then (λ f. and_type h (λ k. on_boolean (b k) (and_type k c)) f ga) o
  first b ga None = refl
  first b ga (Some False) = refl
  first b ga (Some True) = from_true ga (b (h ++ ga))
  first b ga (Some Any) = from_any ga (b (h ++ ga))

  -- `(a && b) && c` has the type of `a && (b && c)`
  pub regrouped : (b : Capabilities → Option Typed) (t : Option Typed) → on_boolean (on_boolean t (and_type h b)) (and_type h c) ≡ on_boolean t (and_type h (λ k. on_boolean (b k) (and_type k c)))
  regrouped b None = refl
  regrouped b (Some t) = first b t.gained (truth_in t.ty)

-- ---- `&&` where nothing is held

-- the row of `&&` whose left side has this type, and is not known false
pub and_on : (f : Truth) (b : Capabilities → Option Typed) (t : Typed) → truth_in t.ty ≡ Some f → (f ≡ False → ⊥) → on_boolean (b t.gained) (and_right f t.gained) ≡ on_boolean (Some t) (and_type [] b)
and_on False b t is not = absurd (not refl)
and_on True b t is not = ap (option_and_then (λ (f : Truth). and_type [] b f t.gained)) (sym is)
and_on Any b t is not = ap (option_and_then (λ (f : Truth). and_type [] b f t.gained)) (sym is)
