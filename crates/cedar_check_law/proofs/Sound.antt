-- Typing is sound.
use Rattle.std.proofs.Common.{◌≡◌, ℕ, true, List, [], ◌∷◌, ◌⊎◌, inl, inr, ⊎_elim, Option, Some, refl, sym, ap, ap₂, subst, ◌∙◌}
use Rattle.std.specs.Prelude.{Ok, Err}
use Rattle.std.specs.List.{AllByRecursion}
use Rattle.std.specs.Str.{bytes_eq}
use Rattle.cedar_ext.specs.declared.extension.Extension.{Extension}
use Rattle.cedar_ext.specs.Matching.{is_match}
use Rattle.cedar_ext.specs.UnaryMethods.{unary_row_of}
use Rattle.cedar_ext.specs.Methods.{row_of}
use Rattle.cedar_ext.specs.Private.ExtensionLemmas.{extension_of-typed}
use Rattle.cedar_value.specs.Datum.{Datum, boolean, uid, record_of, extension, same, fields_of}
use Rattle.cedar_value.specs.Private.Lists.{pairs_of-fields_of}
use Rattle.cedar_value.specs.Records.{value_at, record_from}
use Rattle.cedar_value.specs.Sets.{has_member}
use Rattle.cedar_value.specs.World.{World}
use Rattle.cedar_value.specs.declared.request.Request.{Request}
use Rattle.cedar_ast_expressions.specs.declared.variable.Variable.TheVariants.{Action}
use Rattle.cedar_ast_expressions.specs.declared.operator.UnaryOperator.{UnaryOperator}
use Rattle.cedar_ast_expressions.specs.declared.operator.UnaryOperator.TheVariants as operator
use Rattle.cedar_ast_expressions.specs.declared.operator.BinaryOperator.{BinaryOperator}
use Rattle.cedar_ast_expressions.specs.declared.operator.BinaryOperator.TheVariants as binary_operator
use Rattle.cedar_ast_expressions.specs.Answer.{Answer, with_answer}
use Rattle.cedar_ast_expressions.specs.Expression.{Expression, literal, variable, and, or, if_else, unary, binary, set_with, record_with, Expressions, no_more, and_then, Entries, no_entries, entry}
use Rattle.cedar_ast_expressions.specs.Evaluation.{and_of, or_of, if_of, set_of_values, record_of_pairs, eval, eval_all, eval_entries}
use Rattle.cedar_ast_expressions.specs.Operators.{source, extension_or_error, is_empty, unary_of, binary_of}
use Rattle.cedar_ast.specs.Condition.{condition_of}
use Rattle.cedar_ast_expressions.specs.Keys.{AreDistinct, keys_in}
use Rattle.cedar_schema_types.specs.declared.truth.Truth.{Truth}
use Rattle.cedar_schema_types.specs.declared.truth.Truth.TheVariants.{True, False, Any}
use Rattle.cedar_schema_spec.specs.declared.environment.Environment.{Environment}
use Rattle.cedar_schema_types.specs.Types.{TypeTree, Attributes}
use Rattle.cedar_schema_types.specs.Types as kind
use Rattle.cedar_schema_spec.specs.SchemaTree.{SchemaTree}
use Rattle.cedar_schema_types.specs.Membership.{known, HasTruth, Member, At}
use Rattle.cedar_schema_spec.specs.WellFormed.{AreTypesApart}
use Rattle.cedar_schema_spec.specs.Conformance.{Conforms, FitsIn}
use Rattle.cedar_check_spec.specs.Capabilities.{Capability, Capabilities, Has, Hold}
use Rattle.cedar_check_spec.specs.Typing.{attributes_in, flipped, type_of_scalar, TypesWith, of_boolean, of_long, of_text, of_uid, of_principal, of_resource, of_context, of_not, and_false, and_then_false, and_then_true, and_then_any, or_true, or_false, or_any_true, or_any_false, or_any_any, if_true, if_false, if_any, of_negative, of_arithmetic, of_comparison, equal_literals, equal_joined, equal_apart, has_none, has_held, has_required, has_any, of_get, of_like, of_is, in_written, in_related, in_unrelated, of_contains, of_set_comparison, of_is_empty, of_set, of_record, of_constructor, of_any_string, of_method, JoinsOnto, joined_all, joined_more, AddsOnto, added_all, added_more, of_ordered, of_unary_method}
use Rattle.cedar_schema_types.specs.Lookup.{attribute_at}
use Rattle.cedar_schema_types.specs.declared.attribute.Attribute.{Attribute}
use Rattle.cedar_ast_expressions.specs.Replacement.{replace, replace_all, replace_entries}
use Rattle.cedar_check_spec.specs.Soundness.{GoodWith, IsTruth, SoundTypingWith, SoundReplacement, SoundAcceptanceWith}
use Rattle.cedar_check_law.proofs.Goodness.{then_good, good_weaker, then_good_after, holds_union, holds_common_left, holds_common_right}
use Rattle.cedar_check_spec.proofs.Members.{join_left, join_right, HaveAttributes, pair_fits}
use Rattle.cedar_check_spec.proofs.Made.{keys, onto, record_onto}
use Rattle.cedar_check_law.proofs.Operators.{Fine, nothing_held, plain, members, and_good, or_good, if_good, known_truth, not_good, negative_good, constructor_good, like_good, is_good, arithmetic_good, comparison_good, method_good, apart_good, contains_good, sets_good, set_good, related_good, unrelated_good, source_fits, has_none_good, has_good, has_required_good, get_good, written_good, ordered_good, unary_method_good}
use Rattle.cedar_check_spec.specs.declared.settings.Settings.{Settings}

-- all the premises
record Stands (s : SchemaTree) (env : Environment) (q : Request) (w : World) : Type 0 where
  apart : AreTypesApart s
  world : Conforms s w
  request : FitsIn s env q

module _ (settings : Settings) (s : SchemaTree) (env : Environment) (q : Request) (w : World) (stands : Stands s env q w) where
  -- one operand, two operands
  one : (op : UnaryOperator) (e : Expression) (t u : TypeTree) (g : Capabilities) → GoodWith settings (Fine q w t g) (eval e q w) → ((v : Datum) → Member t v → GoodWith settings (Member u) (unary_of w op v)) → GoodWith settings (Fine q w u []) (eval (unary op e) q w)
  one op e t u g h f = plain settings q w u (eval (unary op e) q w) (then_good settings (Fine q w t g) (Member u) (eval e q w) (unary_of w op) h (λ v m. f v m.belongs))

  two : (op : BinaryOperator) (a b : Expression) (t u n : TypeTree) (ga gb : Capabilities) → GoodWith settings (Fine q w t ga) (eval a q w) → GoodWith settings (Fine q w u gb) (eval b q w) → ((v x : Datum) → Member t v → Member u x → GoodWith settings (Member n) (binary_of w op v x)) → GoodWith settings (Fine q w n []) (eval (binary op a b) q w)
  two op a b t u n ga gb ha hb f =
      plain settings q w n (eval (binary op a b) q w)
      (then_good settings (Fine q w t ga) (Member n) (eval a q w) (λ v. with_answer (eval b q w) (binary_of w op v)) ha
      (λ v m. then_good settings (Fine q w u gb) (Member n) (eval b q w) (binary_of w op v) hb (λ x k. f v x m.belongs k.belongs)))

  -- a wider type, less gained
  wider : (t u : TypeTree) (g d : Capabilities) (o : Answer Datum) → GoodWith settings (Fine q w t g) o → ((v : Datum) → Member t v → Member u v) → (Hold q w g → Hold q w d) → GoodWith settings (Fine q w u d) o
  wider t u g d o h f k = good_weaker settings (Fine q w t g) (Fine q w u d) o h (λ v m. record { belongs = f v m.belongs; gains = λ e. k (m.gains e) })

  value_fine : (t : TypeTree) (v : Datum) → Member t v → Fine q w t [] v
  value_fine t v h = record { belongs = h; gains = λ e. nothing_held q w }

  -- where the test is known to hold
  held_true : (a : List ℕ) (e : Expression) → eval (unary (operator.Has a) e) q w ≡ Ok (boolean true) → GoodWith settings (Fine q w (kind.boolean True) []) (eval (unary (operator.Has a) e) q w)
  held_true a e d = subst (λ o. GoodWith settings (Fine q w (kind.boolean True) []) o) (sym d) (value_fine (kind.boolean True) (boolean true) refl)

  only_gain : (x : Capability) (v : Datum) (o : Answer Datum) → o ≡ eval (unary (operator.Has x.key) x.on) q w → o ≡ Ok v → v ≡ boolean true → Hold q w (x ∷ [])
  only_gain x v o d e k = λ y m. ⊎_elim (λ p. subst (λ (z : Capability). eval (unary (operator.Has z.key) z.on) q w ≡ Ok (boolean true)) p (sym d ∙ e ∙ ap (λ (u : Datum). let r : Answer Datum = Ok u in r) k)) (λ n. absurd n) m

  keep : (x : Capability) (o : Answer Datum) → o ≡ eval (unary (operator.Has x.key) x.on) q w → GoodWith settings (Fine q w (kind.boolean Any) []) o → GoodWith settings (Fine q w (kind.boolean Any) (x ∷ [])) o
  keep x (Ok v) d h = record { belongs = h.belongs; gains = λ k. only_gain x v (Ok v) d refl k }
  keep x (Err e) d h = h

  gets : (e : Expression) (t : TypeTree) (at : Attributes) (a : List ℕ) (d : Attribute) (g h : Capabilities) → GoodWith settings (Fine q w t g) (eval e q w) → attributes_in s t ≡ Some at → attribute_at a at ≡ Some d → Hold q w h → (d.required ≡ true) ⊎ Has (record { on = e; key = a }) h → GoodWith settings (Member d.ty) (eval (unary (operator.Get a) e) q w)
  gets e t at a d g h ih p f hold (inl r) = then_good settings (Fine q w t g) (Member d.ty) (eval e q w) (unary_of w (operator.Get a)) ih (λ v m. get_good settings a at d (source w v) (source_fits s w stands.apart stands.world t at v p m.belongs) f (inl r))
  gets e t at a d g h ih p f hold (inr m) =
      then_good_after settings (Fine q w t g) (Member d.ty) (eval e q w) (unary_of w (operator.Has a)) (unary_of w (operator.Get a)) (boolean true) ih (hold (record { on = e; key = a }) m)
      (λ v k j. get_good settings a at d (source w v) (source_fits s w stands.apart stands.world t at v p k.belongs) f (inr j))

  -- a record of the values found, whose keys are those written
  record Found (at : Attributes) (done : List (List ℕ × Datum)) (fs : Entries) (ps : List (List ℕ × Datum)) : Type 0 where
    have : HaveAttributes at (onto done ps)
    keyed : keys ps ≡ keys_in fs

  made : (at : Attributes) (fs : Entries) (ps : List (List ℕ × Datum)) → AreDistinct (keys_in fs) → Found at [] fs ps → Member (kind.record_of at) (record_of_pairs ps)
  made at fs ps d h = λ k.
      let apart : AreDistinct (keys ps) = subst AreDistinct (sym h.keyed) d in
      subst (λ xs. At at k (value_at k xs)) (sym (pairs_of-fields_of (record_from ps))) (subst (λ o. At at k o) (record_onto k ps apart) (h.have k))

  mutual
    sound : {h g : Capabilities} {e : Expression} {t : TypeTree} → TypesWith settings s env h e t g → Hold q w h → GoodWith settings (Fine q w t g) (eval e q w)
    sound (of_boolean {b = b}) held = value_fine (kind.boolean (known b)) (boolean b) (known_truth b)
    sound of_long held = value_fine kind.long _ tt
    sound of_text held = value_fine kind.string _ tt
    sound (of_uid {u = u} k) held = value_fine (kind.entity u.ty) (uid u) refl
    sound of_principal held = value_fine (kind.entity env.principal) (uid q.principal) stands.request.principal
    sound of_resource held = value_fine (kind.entity env.resource) (uid q.resource) stands.request.resource
    sound of_context held = value_fine env.context (record_of (fields_of q.context)) stands.request.context
    sound (of_not {g = g} {e = e} {f = f} d) held = one operator.Not e (kind.boolean f) (kind.boolean (flipped f)) g (sound d held) (not_good settings f)
    sound (and_false {g = g} {a = a} {b = b} d) held = and_good settings q w False False False g [] [] (eval a q w) (eval b q w) (sound d held) (λ p. cc) (λ p x k. k) (λ p. p) (λ x y. nothing_held q w)
    sound (and_then_false {h = h} {ga = ga} {gb = gb} {hb = hb} {a = a} {b = b} {f = f} da m u db) held =
        and_good settings q w f False False ga gb [] (eval a q w) (eval b q w) (sound da held) (λ p hg. sound db (holds_union q w h ga hb u held hg)) (λ p x k. k) (λ p. refl) (λ x y. nothing_held q w)
    sound (and_then_true {h = h} {ga = ga} {gb = gb} {hb = hb} {g = g} {a = a} {b = b} {f = f} da m u db k) held =
        and_good settings q w f True f ga gb g (eval a q w) (eval b q w) (sound da held) (λ p hg. sound db (holds_union q w h ga hb u held hg)) (λ p x r. subst (HasTruth f) (sym r) p) (λ p. p) (holds_union q w ga gb g k)
    sound (and_then_any {h = h} {ga = ga} {gb = gb} {hb = hb} {g = g} {a = a} {b = b} {f = f} da m u db k) held =
        and_good settings q w f Any Any ga gb g (eval a q w) (eval b q w) (sound da held) (λ p hg. sound db (holds_union q w h ga hb u held hg)) (λ p x r. tt) (λ p. tt) (holds_union q w ga gb g k)
    sound (or_true {g = g} {a = a} {b = b} d) held = or_good settings q w True True True g [] [] (eval a q w) (eval b q w) (sound d held) (λ p. cc) (λ p. refl) (λ p. cc) (λ p x. nothing_held q w) (λ p x. x)
    sound (or_false {ga = ga} {gb = gb} {a = a} {b = b} {f = f} da db) held = or_good settings q w False f f ga gb gb (eval a q w) (eval b q w) (sound da held) (λ p. sound db held) (λ p. cc) (λ p x k. k) (λ p. cc) (λ p x. x)
    sound (or_any_true {ga = ga} {gb = gb} {a = a} {b = b} da db) held = or_good settings q w Any True True ga gb [] (eval a q w) (eval b q w) (sound da held) (λ p. sound db held) (λ p. refl) (λ p x k. k) (λ p x. nothing_held q w) (λ p x. nothing_held q w)
    sound (or_any_false {ga = ga} {gb = gb} {a = a} {b = b} da db) held = or_good settings q w Any False Any ga gb ga (eval a q w) (eval b q w) (sound da held) (λ p. sound db held) (λ p. tt) (λ p x k. tt) (λ p x. x) (λ p. cc)
    sound (or_any_any {ga = ga} {gb = gb} {g = g} {a = a} {b = b} da db k) held = or_good settings q w Any Any Any ga gb g (eval a q w) (eval b q w) (sound da held) (λ p. sound db held) (λ p. tt) (λ p x r. tt) (λ p. holds_common_left q w ga gb g k) (λ p. holds_common_right q w ga gb g k)
    sound (if_true {h = h} {gc = gc} {gx = gx} {hx = hx} {g = g} {i = i} {x = x} {y = y} {t = t} di u dx k) held =
        if_good settings q w True gc g t (eval i q w) (eval x q w) (eval y q w) (sound di held)
        (λ p hg. wider t t gx g (eval x q w) (sound dx (holds_union q w h gc hx u held hg)) (λ v m. m) (holds_union q w gc gx g k hg))
        (λ p. cc)
    sound (if_false {gc = gc} {gy = gy} {i = i} {x = x} {y = y} {t = t} di dy) held =
        if_good settings q w False gc gy t (eval i q w) (eval x q w) (eval y q w) (sound di held) (λ p. cc) (λ p. sound dy held)
    sound (if_any {h = h} {gc = gc} {gx = gx} {gy = gy} {hx = hx} {gcx = gcx} {g = g} {i = i} {x = x} {y = y} {t = t} {u = u} {v = v} di r dx dy j k m) held =
        if_good settings q w Any gc g v (eval i q w) (eval x q w) (eval y q w) (sound di held)
        (λ p hg. wider t v gx g (eval x q w) (sound dx (holds_union q w h gc hx r held hg)) (join_left j) (λ more. holds_common_left q w gcx gy g m (holds_union q w gc gx gcx k hg more)))
        (λ p. wider u v gy g (eval y q w) (sound dy held) (join_right j) (holds_common_right q w gcx gy g m))
    sound (of_negative {g = g} {e = e} d) held = one operator.Negate e kind.long kind.long g (sound d held) (negative_good settings)
    sound (of_arithmetic {ga = ga} {gb = gb} {a = a} {b = b} {op = op} is da db) held = two op a b kind.long kind.long kind.long ga gb (sound da held) (sound db held) (λ v x m k. arithmetic_good settings w op v x is m k)
    sound (of_comparison {ga = ga} {gb = gb} {a = a} {b = b} {op = op} is da db) held = two op a b kind.long kind.long (kind.boolean Any) ga gb (sound da held) (sound db held) (λ v x m k. comparison_good settings w op v x is m k)
    sound (equal_literals {v = v} {w = x} da db) held = value_fine (kind.boolean (known (same v x))) (boolean (same v x)) (known_truth (same v x))
    sound (equal_joined {ga = ga} {gb = gb} {a = a} {b = b} {t = t} {u = u} n da db j) held = two binary_operator.Equal a b t u (kind.boolean Any) ga gb (sound da held) (sound db held) (λ v x m k. tt)
    sound (equal_apart {ga = ga} {gb = gb} {a = a} {b = b} {m = m} {n = n} l da db e) held = two binary_operator.Equal a b (kind.entity m) (kind.entity n) (kind.boolean False) ga gb (sound da held) (sound db held) (λ v x i k. apart_good settings m n v x i k e)
    sound (has_none {g = g} {e = e} {t = t} {at = at} {a = a} d p f) held = one (operator.Has a) e t (kind.boolean False) g (sound d held) (λ v m. has_none_good settings a at (source w v) (source_fits s w stands.apart stands.world t at v p m) f)
    sound (has_held {e = e} {a = a} d p f m) held = held_true a e (held (record { on = e; key = a }) m)
    sound (has_required {g = g} {e = e} {at = at} {a = a} {d = x} d f r) held = one (operator.Has a) e (kind.record_of at) (kind.boolean True) g (sound d held) (λ v m. has_required_good settings w a x at v m f r)
    sound (has_any {g = g} {e = e} {t = t} {at = at} {a = a} d p f n r) held =
        let o = eval (unary (operator.Has a) e) q w in
        let ok = one (operator.Has a) e t (kind.boolean Any) g (sound d held) (λ v m. has_good settings a at (source w v) (source_fits s w stands.apart stands.world t at v p m)) in
        keep (record { on = e; key = a }) o refl ok
    sound (of_get {h = h} {g = g} {e = e} {t = t} {at = at} {a = a} {d = d} dd p f r) held = plain settings q w d.ty (eval (unary (operator.Get a) e) q w) (gets e t at a d g h (sound dd held) p f held r)
    sound (of_like {g = g} {e = e} {p = p} d) held = one (operator.Like p) e kind.string (kind.boolean Any) g (sound d held) (like_good settings (is_match p))
    sound (of_is {g = g} {e = e} {m = m} {n = n} d k) held = one (operator.Is n) e (kind.entity m) (kind.boolean (known (bytes_eq m n))) g (sound d held) (is_good settings m n)
    sound (in_written {u = u} {b = b} {us = us} {r = r} da db k a p d) held = plain settings q w (kind.boolean (known r)) (eval (binary binary_operator.In (literal (uid u)) b) q w) (written_good s w stands.apart stands.world q settings u b us r a p d)
    sound (in_related {ga = ga} {gb = gb} {a = a} {b = b} {m = m} {n = n} {v = v} da db k e r) held = two binary_operator.In a b (kind.entity m) v (kind.boolean Any) ga gb (sound da held) (sound db held) (λ x y i j. related_good s w stands.apart stands.world settings m n v x y k i j)
    sound (in_unrelated {ga = ga} {gb = gb} {a = a} {b = b} {m = m} {n = n} {v = v} da db k e r) held = two binary_operator.In a b (kind.entity m) v (kind.boolean False) ga gb (sound da held) (sound db held) (λ x y i j. unrelated_good s w stands.apart stands.world settings m n v x y k i j r)
    sound (of_contains {ga = ga} {gb = gb} {a = a} {b = b} {t = t} {u = u} da db j) held = two binary_operator.Contains a b (kind.set t) u (kind.boolean Any) ga gb (sound da held) (sound db held) (λ v x m k. contains_good settings t (λ ms. has_member ms x) v m)
    sound (of_ordered {ga = ga} {gb = gb} {a = a} {b = b} {op = op} {x = x} is o da db) held = two op a b (kind.extension x) (kind.extension x) (kind.boolean Any) ga gb (sound da held) (sound db held) (λ v y m k. ordered_good settings w op x v y is o m k)
    sound (of_set_comparison {ga = ga} {gb = gb} {a = a} {b = b} {t = t} {u = u} {op = op} is da db j) held = two op a b (kind.set t) (kind.set u) (kind.boolean Any) ga gb (sound da held) (sound db held) (λ v x m k. sets_good settings w op t u v x is m k)
    sound (of_is_empty {g = g} {e = e} {t = t} d) held = one operator.IsEmpty e (kind.set t) (kind.boolean Any) g (sound d held) (contains_good settings t is_empty)
    sound (of_set {g = g} {e = e} {es = es} {t = t} {v = v} d ds) held =
        plain settings q w (kind.set v) (eval (set_with (and_then e es)) q w)
        (then_good settings (AllByRecursion (Member v)) (Member (kind.set v)) (eval_all (and_then e es) q w) (λ vs. Ok (set_of_values vs))
        (then_good settings (Fine q w t g) (AllByRecursion (Member v)) (eval e q w) (λ x. with_answer (eval_all es q w) (λ xs. Ok (x ∷ xs))) (sound d held)
        (λ x m. then_good settings (AllByRecursion (Member v)) (AllByRecursion (Member v)) (eval_all es q w) (λ xs. Ok (x ∷ xs)) (sound_onto ds held) (λ xs k. (onto_wider ds x m.belongs, k))))
        (λ vs m. set_good v vs m))
    sound (of_record {fs = fs} {at = at} d ds) held =
        plain settings q w (kind.record_of at) (eval (record_with fs) q w)
        (then_good settings (Found at [] fs) (Member (kind.record_of at)) (eval_entries fs q w) (λ ps. Ok (record_of_pairs ps)) (sound_entries ds held [] (λ k. tt)) (λ ps m. made at fs ps d m))
    sound (of_constructor {x = x} {t = t} {v = v} e) held =
        subst (λ (o : Option Extension). GoodWith settings (Fine q w (kind.extension x) []) (extension_or_error o)) (sym e) (value_fine (kind.extension x) (extension v) (extension_of-typed x t v e))
    sound (of_any_string {g = g} {x = x} {e = e} on n d) held = one (operator.Construct x) e kind.string (kind.extension x) g (sound d held) (λ v m. constructor_good settings x v on m)
    sound (of_unary_method {g = g} {e = e} {m = m} d) held = one (operator.Call m) e (kind.extension (unary_row_of m).operand) (type_of_scalar (unary_row_of m).result) g (sound d held) (λ v h. unary_method_good settings m v h)
    sound (of_method {ga = ga} {gb = gb} {a = a} {b = b} {m = m} da db) held =
        two (binary_operator.Call m) a b (kind.extension (row_of m).left) (kind.extension (row_of m).right) (type_of_scalar (row_of m).result) ga gb (sound da held) (sound db held) (λ v x h k. method_good settings m v x h k)

    -- a member of what is joined so far is one of the whole
    onto_wider : {h : Capabilities} {t v : TypeTree} {es : Expressions} → JoinsOnto settings s env h t es v → (x : Datum) → Member t x → Member v x
    onto_wider joined_all x m = m
    onto_wider (joined_more d j ds) x m = onto_wider ds x (join_left j x m)

    sound_onto : {h : Capabilities} {t v : TypeTree} {es : Expressions} → JoinsOnto settings s env h t es v → Hold q w h → GoodWith settings (AllByRecursion (Member v)) (eval_all es q w)
    sound_onto joined_all held = tt
    sound_onto (joined_more {g = g} {e = e} {es = es} {u = u} {w = n} d j ds) held =
        then_good settings (Fine q w u g) (AllByRecursion (Member n)) (eval e q w) (λ x. with_answer (eval_all es q w) (λ xs. Ok (x ∷ xs))) (sound d held)
        (λ x m. then_good settings (AllByRecursion (Member n)) (AllByRecursion (Member n)) (eval_all es q w) (λ xs. Ok (x ∷ xs)) (sound_onto ds held) (λ xs k. (onto_wider ds x (join_right j x m.belongs), k)))

    sound_entries : {h : Capabilities} {at more : Attributes} {fs : Entries} → AddsOnto settings s env h at fs more → Hold q w h → (done : List (List ℕ × Datum)) → HaveAttributes at done → GoodWith settings (Found more done fs) (eval_entries fs q w)
    sound_entries added_all held done have = record { have = have; keyed = refl }
    sound_entries (added_more {g = g} {k = k} {e = e} {fs = fs} {t = t} {at = at} {more = more} d ds) held done have =
        then_good settings (Fine q w t g) (Found more done (entry k e fs)) (eval e q w) (λ v. with_answer (eval_entries fs q w) (λ ps. Ok ((k, v) ∷ ps))) (sound d held)
        (λ v m. then_good settings (Found more ((k, v) ∷ done) fs) (Found more done (entry k e fs)) (eval_entries fs q w) (λ ps. Ok ((k, v) ∷ ps)) (sound_entries ds held ((k, v) ∷ done) (pair_fits k t at v done m.belongs have))
        (λ ps n. record { have = n.have; keyed = ap (λ l. k ∷ l) n.keyed }))

gained : (settings : Settings) (q : Request) (w : World) (t : TypeTree) (g : Capabilities) (o : Answer Datum) → GoodWith settings (Fine q w t g) o → o ≡ Ok (boolean true) → Hold q w g
gained settings q w t g (Ok v) r p = let d : v ≡ boolean true = cc in r.gains d
gained settings q w t g (Err e) r p = cc

pub sound_typing : (settings : Settings) → SoundTypingWith settings
sound_typing settings s env q w h g e t apart conforms fits held d =
    let r = sound settings s env q w (record { apart = apart; world = conforms; request = fits }) d held in
    record {
      value = members settings q w t g (eval e q w) r;
      gains = λ p. gained settings q w t g (eval e q w) r p;
    }

-- the variable `action` and its value
mutual
  pub replaced : SoundReplacement
  replaced q w (and a b) = ap₂ (λ x y. with_answer x (λ v. and_of v y)) (replaced q w a) (replaced q w b)
  replaced q w (or a b) = ap₂ (λ x y. with_answer x (λ v. or_of v y)) (replaced q w a) (replaced q w b)
  replaced q w (if_else i a b) =
      ap (λ x. with_answer x (λ v. if_of v (eval (replace q.action a) q w) (eval (replace q.action b) q w))) (replaced q w i)
      ∙ ap₂ (λ x y. with_answer (eval i q w) (λ v. if_of v x y)) (replaced q w a) (replaced q w b)
  replaced q w (unary op e) = ap (λ x. with_answer x (unary_of w op)) (replaced q w e)
  replaced q w (binary op a b) = ap₂ (λ x y. with_answer x (λ v. with_answer y (binary_of w op v))) (replaced q w a) (replaced q w b)
  replaced q w (set_with es) = ap (λ x. with_answer x (λ vs. Ok (set_of_values vs))) (replaced_all q w es)
  replaced q w (record_with fs) = ap (λ x. with_answer x (λ ps. Ok (record_of_pairs ps))) (replaced_entries q w fs)
  replaced q w (variable Action) = refl
  replaced q w _ = refl

  replaced_all : (q : Request) (w : World) (es : Expressions) → eval_all (replace_all q.action es) q w ≡ eval_all es q w
  replaced_all q w no_more = refl
  replaced_all q w (and_then e es) = ap₂ (λ x y. with_answer x (λ v. with_answer y (λ vs. Ok (v ∷ vs)))) (replaced q w e) (replaced_all q w es)

  replaced_entries : (q : Request) (w : World) (fs : Entries) → eval_entries (replace_entries q.action fs) q w ≡ eval_entries fs q w
  replaced_entries q w no_entries = refl
  replaced_entries q w (entry k e fs) = ap₂ (λ x y. with_answer x (λ v. with_answer y (λ ps. Ok ((k, v) ∷ ps)))) (replaced q w e) (replaced_entries q w fs)

any_truth : (f : Truth) (v : Datum) → Member (kind.boolean f) v → IsTruth v
any_truth f (boolean b) h = tt
any_truth f _ h = absurd h

pub sound_acceptance : (settings : Settings) → SoundAcceptanceWith settings
sound_acceptance settings s q w p apart conforms (env, fits) accepted =
    let (f, typed) = accepted env fits.listed in
    let (g, d) = typed in
    let e = condition_of p in
    let same_action : eval (replace env.action e) q w ≡ eval (replace q.action e) q w = ap (λ u. eval (replace u e) q w) (sym fits.action) in
    let r = (sound_typing settings s env q w [] g (replace env.action e) (kind.boolean f) apart conforms fits (nothing_held q w) d).value in
    subst (λ o. GoodWith settings IsTruth o) (same_action ∙ replaced q w e) (good_weaker settings (Member (kind.boolean f)) IsTruth (eval (replace env.action e) q w) r (any_truth f))
