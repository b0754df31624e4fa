-- A typing is the function's answer.
use Rattle.std.proofs.Common.{◌≡◌, ℕ, Bool, true, false, cond, not, ◌&&◌, ◌||◌, is_some, List, [], ◌∷◌, ◌++◌, ◌⊎◌, inl, inr, ⊎_elim, Option, Some, None, option_map, option_and_then, refl, sym, ap, ap₂, subst, ◌∙◌}
use Rattle.std.specs.Bool.{Decides, one_answer}
use Rattle.std.specs.List.{list_any}
use Rattle.std.specs.Str.{bytes_eq}
use Rattle.std.proofs.lemmas.Slice.Eq.{bytes_eq-Decides}
use Rattle.cedar_ext.specs.declared.extension.ExtensionType.{ExtensionType}
use Rattle.cedar_ext.specs.declared.method.BinaryMethod.{BinaryMethod}
use Rattle.cedar_ext.specs.Extensions.{same_type}
use Rattle.cedar_ext.specs.UnaryMethods.{unary_row_of}
use Rattle.cedar_ext.specs.Methods.{row_of, is_ordered}
use Rattle.cedar_ext.specs.Private.ExtensionLemmas.{same_type-Decides}
use Rattle.cedar_value.specs.Datum.{text, uid, same}
use Rattle.cedar_value.specs.declared.uid.Uid.{Uid}
use Rattle.cedar_ast_expressions.specs.declared.operator.UnaryOperator.{UnaryOperator}
use Rattle.cedar_ast_expressions.specs.declared.operator.UnaryOperator.TheVariants as operator
use Rattle.cedar_ast_expressions.specs.declared.operator.BinaryOperator.{BinaryOperator}
use Rattle.cedar_ast_expressions.specs.declared.operator.BinaryOperator.TheVariants as binary_operator
use Rattle.cedar_ast_expressions.specs.Expression.{Expression, literal, and, or, unary, binary, set_with, record_with, Expressions, and_then, Entries}
use Rattle.cedar_schema_types.specs.declared.truth.Truth.{Truth}
use Rattle.cedar_schema_types.specs.declared.truth.Truth.TheVariants.{True, False, Any}
use Rattle.cedar_schema_spec.specs.declared.environment.Environment.{Environment}
use Rattle.cedar_schema_types.specs.Types.{TypeTree, Attributes, is_record}
use Rattle.cedar_schema_types.specs.Types as kind
use Rattle.cedar_schema_types.specs.Joining.{only_if, join}
use Rattle.cedar_schema_types.specs.Joins.{Join}
use Rattle.cedar_check_spec.proofs.Members.{join_found}
use Rattle.cedar_schema_spec.specs.SchemaTree.{SchemaTree}
use Rattle.cedar_schema_types.specs.Membership.{known}
use Rattle.cedar_schema_spec.specs.Declarations.{IsAction, is_entity, is_entity_type, is_action, is_action_type, type_below}
use Rattle.cedar_check_spec.specs.Capabilities.{Capability, Capabilities, Has, IsUnion, IsCommon, AreSame}
use Rattle.cedar_check_spec.specs.Typing.{flipped, is_arithmetic, is_comparison, type_of_scalar, takes_any_string, is_set_comparison, MayHold, written_uids, AreWritten, IsInOne, Target, one_entity, entity_set, is_literal, TypesWith, of_uid, of_not, and_false, and_then_false, and_then_true, and_then_any, or_true, or_false, or_any_true, or_any_false, or_any_any, if_true, if_false, if_any, of_negative, of_arithmetic, of_comparison, equal_literals, equal_joined, equal_apart, has_none, has_held, has_required, has_any, of_get, of_like, of_is, in_written, in_related, in_unrelated, of_contains, of_set_comparison, of_is_empty, of_set, of_record, of_constructor, of_any_string, of_method, JoinsOnto, joined_all, joined_more, AddsOnto, added_all, added_more, of_ordered, of_unary_method}
use Rattle.cedar_schema_types.specs.Lookup.{attribute_at}
use Rattle.cedar_schema_types.specs.Ordered.{with_attribute}
use Rattle.cedar_check_spec.specs.Rows.{Typed, as_type, gaining, truth_in, entity_in, target_in, apart, any_or, equal_literal_type, any_if, names_action, is_or_descends, is_in_written, in_truth, any_where, binary_type, constructor_type}
use Rattle.cedar_check_spec.specs.Private.Checking.{is_held, common, on_boolean, on_two, and_right, and_type, or_type, if_type, has_type, get_type, unary_type, type_of_with, types_onto, types_entries, type_in_with}
use Rattle.base_reach.proofs.Listed.{both_true, or_right as by_right}
use Rattle.cedar_check_law.proofs.Descents.{is_action-Decides, is_action_type-Decides}
use Rattle.cedar_check_spec.proofs.Trees.{test_from_cap, cap_from_test, test_from_distinct}
use Rattle.cedar_ast.specs.Condition.{condition_of}
use Rattle.cedar_ast_expressions.specs.Replacement.{replace}
use Rattle.cedar_ast_expressions.specs.Keys.{keys_in}
use Rattle.cedar_check_spec.specs.Determined.{TypingIsOneWith}
use Rattle.cedar_check_law.specs.Private.Exactness.{FoundIsTypedWith, TypedIsFoundWith, FormIsFoundWith}
use Rattle.cedar_check_law.proofs.Found.{union_append, common_is, form_is, found, names_action-Decides, written-Decides, related-Decides}
use Rattle.cedar_check_spec.specs.declared.settings.Settings.{Settings}

nothing : AreSame [] []
nothing = record { each = λ x. (λ m. m, λ m. m) }

only : (c : Capability) → AreSame (c ∷ []) (c ∷ [])
only c = record { each = λ x. (λ m. m, λ m. m) }

pub same_union : (a b c x y : Capabilities) → IsUnion a b c → AreSame a x → AreSame b y → AreSame c (x ++ y)
same_union a b c x y u p q =
    let v = union_append x y in
    record {
      each = λ i. (
        λ m. (v.each i).1 (⊎_elim (λ l. inl ((p.each i).0 l)) (λ r. inr ((q.each i).0 r)) ((u.each i).0 m)),
        λ m. (u.each i).1 (⊎_elim (λ l. inl ((p.each i).1 l)) (λ r. inr ((q.each i).1 r)) ((v.each i).0 m)),
      );
    }

pub same_common : (a b c x y : Capabilities) → IsCommon a b c → AreSame a x → AreSame b y → AreSame c (common x y)
same_common a b c x y u p q =
    let v = common_is x y in
    record {
      each = λ i. (
        λ m. let d = (u.each i).0 m in (v.each i).1 ((p.each i).0 d.0, (q.each i).0 d.1),
        λ m. let d = (v.each i).0 m in (u.each i).1 ((p.each i).1 d.0, (q.each i).1 d.1),
      );
    }

test_same : (x : Capability) (h k : Capabilities) → AreSame h k → Has x h → is_held x k ≡ true
test_same x h k p m = test_from_cap x k ((p.each x).0 m)

test_false : (b : Bool) → (b ≡ true → ⊥) → b ≡ false
test_false true f = absurd (f refl)
test_false false f = refl

test_not : (x : Capability) (h k : Capabilities) → AreSame h k → ¬ Has x h → is_held x k ≡ false
test_not x h k p n = test_false (is_held x k) (λ e. n ((p.each x).1 (cap_from_test x k e)))

either : (a b : Bool) → (a ≡ true) ⊎ (b ≡ true) → (a || b) ≡ true
either a b m = ⊎_elim (λ e. ap (λ x. x || b) e) (λ e. by_right a b e) m

target_exact : {t : TypeTree} {n : List ℕ} → Target t n → target_in t ≡ Some n
target_exact one_entity = refl
target_exact entity_set = refl

and_may : (h : Capabilities) (b : Capabilities → Option Typed) (f : Truth) (ga : Capabilities) → MayHold f → and_type h b f ga ≡ on_boolean (b (h ++ ga)) (and_right f ga)
and_may h b True ga m = refl
and_may h b False ga m = absurd m
and_may h b Any ga m = refl

not_both : (t : TypeTree) (b : Bool) → (is_record t ≡ false) ⊎ (b ≡ false) → (is_record t && b) ≡ false
not_both t b (inl e) = ap (λ x. x && b) e
not_both (kind.record_of sh) b (inr e) = e
not_both _ b (inr e) = refl

module _ (settings : Settings) (s : SchemaTree) (env : Environment) where
  pub record Exact (k : Capabilities) (e : Expression) (t : TypeTree) (g : Capabilities) : Type 0 where
    pub gained : Capabilities
    pub gives : type_of_with settings s env k e ≡ Some (record { ty = t; gained = gained })
    pub same : AreSame g gained

  plainly : (k : Capabilities) (e : Expression) (t : TypeTree) → type_of_with settings s env k e ≡ as_type t → Exact k e t []
  plainly k e t p = record { gained = []; gives = p; same = nothing }

  one : (k : Capabilities) (op : UnaryOperator) (e : Expression) (t u : TypeTree) (g : Capabilities) → Exact k e t g → ((h : Capabilities) → unary_type settings s k op e (record { ty = t; gained = h }) ≡ as_type u) → Exact k (unary op e) u []
  one k op e t u g x f = plainly k (unary op e) u (ap (option_and_then (unary_type settings s k op e)) x.gives ∙ f x.gained)

  two : (k : Capabilities) (op : BinaryOperator) (a b : Expression) (t u v : TypeTree) (ga gb : Capabilities) → Exact k a t ga → Exact k b u gb → binary_type s op a b t u ≡ Some v → Exact k (binary op a b) v []
  two k op a b t u v ga gb x y e =
      plainly k (binary op a b) v
      (ap₂ (λ p q. on_two p q (binary_type s op a b)) x.gives y.gives ∙ ap (option_and_then as_type) e)

  and_exact : (k : Capabilities) (a b : Expression) (f fb fr : Truth) (ga gb g gr : Capabilities) (x : Exact k a (kind.boolean f) ga) → MayHold f → (y : Exact (k ++ x.gained) b (kind.boolean fb) gb) → and_right f x.gained fb y.gained ≡ Some (record { ty = kind.boolean fr; gained = gr }) → AreSame g gr → Exact k (and a b) (kind.boolean fr) g
  and_exact k a b f fb fr ga gb g gr x m y e same = record {
    gained = gr;
    gives =
        ap (λ r. on_boolean r (and_type k (λ h. type_of_with settings s env h b))) x.gives
        ∙ and_may k (λ h. type_of_with settings s env h b) f x.gained m
        ∙ ap (λ r. on_boolean r (and_right f x.gained)) y.gives
        ∙ e;
    same = same;
  }

  -- `in`
  not_written : (a b : Expression) → ¬ AreWritten s a b → (names_action s a && is_some (written_uids b)) ≡ false
  not_written a b w = test_false (names_action s a && is_some (written_uids b)) (λ e. let p = both_true (names_action s a) (is_some (written_uids b)) e in w ((names_action-Decides settings s env a).0 p.0, p.1))

  truth_by_types : (a b : Expression) (m n : List ℕ) (c : Bool) → ¬ AreWritten s a b → (bytes_eq m n || type_below s m n) ≡ c → in_truth s a b m n ≡ any_if c
  truth_by_types a b m n c w e = ap (λ x. cond x (known (is_in_written s a (written_uids b))) (any_if (bytes_eq m n || type_below s m n))) (not_written a b w) ∙ ap any_if e

  truth_written : (u : Uid) (b : Expression) (m n : List ℕ) (us : List Uid) (r : Bool) → IsAction s u → written_uids b ≡ Some us → Decides r (IsInOne s u us) → in_truth s (literal (uid u)) b m n ≡ known r
  truth_written u b m n us r act e d =
      ap₂ (λ x y. cond (x && is_some y) (known (is_in_written s (literal (uid u)) y)) (any_if (bytes_eq m n || type_below s m n))) ((is_action-Decides s u).1 act) e
      ∙ ap known (one_answer (list_any (is_or_descends s u) us) r (written-Decides settings s env u us) d)

  in_exact : (a b : Expression) (m n : List ℕ) (v : TypeTree) (f : Truth) → Target v n → in_truth s a b m n ≡ f → binary_type s binary_operator.In a b (kind.entity m) v ≡ Some (kind.boolean f)
  in_exact a b m n v f w e = ap (option_and_then (λ (x : List ℕ). let y : Option TypeTree = Some (kind.boolean (in_truth s a b m x)) in y)) (target_exact w) ∙ ap (λ x. Some (kind.boolean x)) e

  not_equal : (m n : List ℕ) → (m ≡ n → ⊥) → bytes_eq m n ≡ false
  not_equal m n d = test_false (bytes_eq m n) (λ e. d ((bytes_eq-Decides m n).0 e))

  -- operators that share a rule
  arithmetic_exact : (op : BinaryOperator) (a b : Expression) → is_arithmetic op ≡ true → binary_type s op a b kind.long kind.long ≡ Some kind.long
  arithmetic_exact binary_operator.Add a b e = refl
  arithmetic_exact binary_operator.Subtract a b e = refl
  arithmetic_exact binary_operator.Multiply a b e = refl
  arithmetic_exact _ a b e = cc

  comparison_exact : (op : BinaryOperator) (a b : Expression) → is_comparison op ≡ true → binary_type s op a b kind.long kind.long ≡ Some (kind.boolean Any)
  comparison_exact binary_operator.Less a b e = refl
  comparison_exact binary_operator.LessEqual a b e = refl
  comparison_exact _ a b e = cc

  sets_exact : (op : BinaryOperator) (a b : Expression) (t u v : TypeTree) → is_set_comparison op ≡ true → Join t u v → binary_type s op a b (kind.set t) (kind.set u) ≡ Some (kind.boolean Any)
  sets_exact binary_operator.ContainsAll a b t u v e j = ap any_where (join_found j)
  sets_exact binary_operator.ContainsAny a b t u v e j = ap any_where (join_found j)
  sets_exact _ a b t u v e j = cc

  constructor_exact : (x : ExtensionType) (e : Expression) → is_literal e ≡ false → takes_any_string settings x ≡ true → constructor_type settings x e kind.string ≡ as_type (kind.extension x)
  constructor_exact x (literal v) n on = cc
  constructor_exact x _ n on = ap (λ b. only_if (b && true) (as_type (kind.extension x))) on

  type_itself : (x : ExtensionType) → same_type x x ≡ true
  type_itself x = (same_type-Decides x x).1 refl

  ordered_exact : (op : BinaryOperator) (a b : Expression) (x : ExtensionType) → is_comparison op ≡ true → is_ordered x ≡ true → binary_type s op a b (kind.extension x) (kind.extension x) ≡ Some (kind.boolean Any)
  ordered_exact binary_operator.Less a b x e o = ap₂ (λ c d. let r : Option TypeTree = only_if (c && d) (Some (kind.boolean Any)) in r) o (type_itself x)
  ordered_exact binary_operator.LessEqual a b x e o = ap₂ (λ c d. let r : Option TypeTree = only_if (c && d) (Some (kind.boolean Any)) in r) o (type_itself x)
  ordered_exact _ a b x e o = cc

  method_exact : (m : BinaryMethod) (a b : Expression) → binary_type s (binary_operator.Call m) a b (kind.extension (row_of m).left) (kind.extension (row_of m).right) ≡ Some (type_of_scalar (row_of m).result)
  method_exact m a b =
      let made = type_of_scalar (row_of m).result in
      ap₂ (λ x y. let r : Option TypeTree = only_if (x && y) (Some made) in r) (type_itself (row_of m).left) (type_itself (row_of m).right)

  mutual
    pub exact : {h g : Capabilities} {e : Expression} {t : TypeTree} → TypesWith settings s env h e t g → (k : Capabilities) → AreSame h k → Exact k e t g
    exact (of_uid {u = u} m) k p = plainly k (literal (uid u)) (kind.entity u.ty) (ap (λ b. only_if b (as_type (kind.entity u.ty))) (either (is_entity s u) (is_action s u) (⊎_elim (λ z. inl (ap₂ (λ a b. a && b) z.0 z.1)) (λ z. inr ((is_action-Decides s u).1 z)) m)))
    exact (of_not {g = g} {e = e} {f = f} d) k p = one k operator.Not e (kind.boolean f) (kind.boolean (flipped f)) g (exact d k p) (λ h. refl)
    exact (and_false {a = a} {b = b} d) k p = let x = exact d k p in plainly k (and a b) (kind.boolean False) (ap (λ r. on_boolean r (and_type k (λ h. type_of_with settings s env h b))) x.gives)
    exact (and_then_false {h = h} {ga = ga} {gb = gb} {hb = hb} {a = a} {b = b} {f = f} da m u db) k p =
        let x = exact da k p in
        and_exact k a b f False False ga gb [] [] x m (exact db (k ++ x.gained) (same_union h ga hb k x.gained u p x.same)) refl nothing
    exact (and_then_true {h = h} {ga = ga} {gb = gb} {hb = hb} {g = g} {a = a} {b = b} {f = f} da m u db w) k p =
        let x = exact da k p in
        let y = exact db (k ++ x.gained) (same_union h ga hb k x.gained u p x.same) in
        and_exact k a b f True f ga gb g (x.gained ++ y.gained) x m y refl (same_union ga gb g x.gained y.gained w x.same y.same)
    exact (and_then_any {h = h} {ga = ga} {gb = gb} {hb = hb} {g = g} {a = a} {b = b} {f = f} da m u db w) k p =
        let x = exact da k p in
        let y = exact db (k ++ x.gained) (same_union h ga hb k x.gained u p x.same) in
        and_exact k a b f Any Any ga gb g (x.gained ++ y.gained) x m y refl (same_union ga gb g x.gained y.gained w x.same y.same)
    exact (or_true {a = a} {b = b} d) k p = let x = exact d k p in plainly k (or a b) (kind.boolean True) (ap (λ r. on_boolean r (or_type (type_of_with settings s env k b))) x.gives)
    exact (or_false {a = a} {b = b} {f = f} da db) k p =
        let x = exact da k p in let y = exact db k p in
        record { gained = y.gained; gives = ap₂ (λ r q. on_boolean r (or_type q)) x.gives y.gives; same = y.same }
    exact (or_any_true {a = a} {b = b} da db) k p =
        let x = exact da k p in let y = exact db k p in
        plainly k (or a b) (kind.boolean True) (ap₂ (λ r q. on_boolean r (or_type q)) x.gives y.gives)
    exact (or_any_false da db) k p =
        let x = exact da k p in let y = exact db k p in
        record { gained = x.gained; gives = ap₂ (λ r q. on_boolean r (or_type q)) x.gives y.gives; same = x.same }
    exact (or_any_any {ga = ga} {gb = gb} {g = g} da db w) k p =
        let x = exact da k p in let y = exact db k p in
        record { gained = common x.gained y.gained; gives = ap₂ (λ r q. on_boolean r (or_type q)) x.gives y.gives; same = same_common ga gb g x.gained y.gained w x.same y.same }
    exact (if_true {h = h} {gc = gc} {gx = gx} {hx = hx} {g = g} {x = a} {y = b} di u dx w) k p =
        let i = exact di k p in
        let x = exact dx (k ++ i.gained) (same_union h gc hx k i.gained u p i.same) in
        record {
          gained = i.gained ++ x.gained;
          gives =
              ap (λ r. on_boolean r (if_type (λ z. type_of_with settings s env (k ++ z) a) (type_of_with settings s env k b))) i.gives
              ∙ ap (option_map (λ (t : Typed). let y : Typed = record { ty = t.ty; gained = i.gained ++ t.gained } in y)) x.gives;
          same = same_union gc gx g i.gained x.gained w i.same x.same;
        }
    exact (if_false {x = a} {y = b} di dy) k p =
        let i = exact di k p in
        let y = exact dy k p in
        record {
          gained = y.gained;
          gives = ap (λ r. on_boolean r (if_type (λ z. type_of_with settings s env (k ++ z) a) (type_of_with settings s env k b))) i.gives ∙ y.gives;
          same = y.same;
        }
    exact (if_any {h = h} {gc = gc} {gx = gx} {gy = gy} {hx = hx} {gcx = gcx} {g = g} {x = a} {y = b} {t = t} {u = u} {v = v} di w dx dy j m n) k p =
        let i = exact di k p in
        let x = exact dx (k ++ i.gained) (same_union h gc hx k i.gained w p i.same) in
        let y = exact dy k p in
        let end = λ (c d : Typed) (z : TypeTree). let r : Typed = record { ty = z; gained = common (i.gained ++ c.gained) d.gained } in r in
        record {
          gained = common (i.gained ++ x.gained) y.gained;
          gives =
              ap (λ r. on_boolean r (if_type (λ z. type_of_with settings s env (k ++ z) a) (type_of_with settings s env k b))) i.gives
              ∙ ap₂ (λ q r. option_and_then (λ (c : Typed). option_and_then (λ (d : Typed). option_map (end c d) (join c.ty d.ty)) r) q) x.gives y.gives
              ∙ ap (option_map (end (record { ty = t; gained = x.gained }) (record { ty = u; gained = y.gained }))) (join_found j);
          same = same_common gcx gy g (i.gained ++ x.gained) y.gained n (same_union gc gx gcx i.gained x.gained m i.same x.same) y.same;
        }
    exact (of_negative {g = g} {e = e} d) k p = one k operator.Negate e kind.long kind.long g (exact d k p) (λ h. refl)
    exact (of_arithmetic {ga = ga} {gb = gb} {a = a} {b = b} {op = op} is da db) k p = two k op a b kind.long kind.long kind.long ga gb (exact da k p) (exact db k p) (arithmetic_exact op a b is)
    exact (of_comparison {ga = ga} {gb = gb} {a = a} {b = b} {op = op} is da db) k p = two k op a b kind.long kind.long (kind.boolean Any) ga gb (exact da k p) (exact db k p) (comparison_exact op a b is)
    exact (equal_literals {ga = ga} {gb = gb} {v = v} {w = w} {t = t} {u = u} da db) k p = two k binary_operator.Equal (literal v) (literal w) t u (kind.boolean (known (same v w))) ga gb (exact da k p) (exact db k p) refl
    exact (equal_joined {ga = ga} {gb = gb} {a = a} {b = b} {t = t} {u = u} n da db j) k p =
        two k binary_operator.Equal a b t u (kind.boolean Any) ga gb (exact da k p) (exact db k p)
        (ap₂ (λ x y. cond x (equal_literal_type a b) (any_or y (apart (entity_in t) (entity_in u)))) n (join_found j))
    exact (equal_apart {ga = ga} {gb = gb} {a = a} {b = b} {m = m} {n = n} l da db e) k p =
        two k binary_operator.Equal a b (kind.entity m) (kind.entity n) (kind.boolean False) ga gb (exact da k p) (exact db k p)
        (ap₂ (λ x y. cond x (equal_literal_type a b) (any_or (only_if y (Some (kind.entity m))) (only_if (not y) (Some (kind.boolean False))))) l (not_equal m n e))
    exact (has_none {g = g} {e = e} {t = t} {at = sh} {a = a} d at f) k p =
        one k (operator.Has a) e t (kind.boolean False) g (exact d k p) (λ h. ap (option_and_then (λ (x : Attributes). has_type k e a t (attribute_at a x))) at ∙ ap (has_type k e a t) f)
    exact (has_held {h = h} {g = g} {e = e} {t = t} {at = sh} {a = a} {d = d} de at f m) k p =
        one k (operator.Has a) e t (kind.boolean True) g (exact de k p)
        (λ i. ap (option_and_then (λ (x : Attributes). has_type k e a t (attribute_at a x))) at ∙ ap (has_type k e a t) f
        ∙ ap (λ b. cond (b || (is_record t && d.required)) (as_type (kind.boolean True)) (gaining (kind.boolean Any) (record { on = e; key = a } ∷ []))) (test_same (record { on = e; key = a }) h k p m))
    exact (has_required {g = g} {e = e} {at = sh} {a = a} {d = x} d f r) k p =
        one k (operator.Has a) e (kind.record_of sh) (kind.boolean True) g (exact d k p)
        (λ i. ap (has_type k e a (kind.record_of sh)) f
        ∙ ap (λ b. cond b (as_type (kind.boolean True)) (gaining (kind.boolean Any) (record { on = e; key = a } ∷ []))) (by_right (is_held (record { on = e; key = a }) k) x.required r))
    exact (has_any {h = h} {g = g} {e = e} {t = t} {at = sh} {a = a} {d = d} de at f n r) k p =
        let x = exact de k p in
        record {
          gained = record { on = e; key = a } ∷ [];
          gives =
              ap (option_and_then (unary_type settings s k (operator.Has a) e)) x.gives
              ∙ ap (option_and_then (λ (x : Attributes). has_type k e a t (attribute_at a x))) at ∙ ap (has_type k e a t) f
              ∙ ap₂ (λ b c. cond (b || c) (as_type (kind.boolean True)) (gaining (kind.boolean Any) (record { on = e; key = a } ∷ []))) (test_not (record { on = e; key = a }) h k p n) (not_both t d.required r);
          same = only (record { on = e; key = a });
        }
    exact (of_get {h = h} {g = g} {e = e} {t = t} {at = sh} {a = a} {d = d} de at f r) k p =
        one k (operator.Get a) e t d.ty g (exact de k p)
        (λ i. ap (option_and_then (λ (x : Attributes). get_type k e a (attribute_at a x))) at ∙ ap (get_type k e a) f
        ∙ ap (λ b. only_if b (as_type d.ty)) (either d.required (is_held (record { on = e; key = a }) k) (⊎_elim (λ q. inl q) (λ m. inr (test_same (record { on = e; key = a }) h k p m)) r)))
    exact (of_like {g = g} {e = e} {p = l} d) k p = one k (operator.Like l) e kind.string (kind.boolean Any) g (exact d k p) (λ h. refl)
    exact (of_is {g = g} {e = e} {m = m} {n = n} d c) k p =
        one k (operator.Is n) e (kind.entity m) (kind.boolean (known (bytes_eq m n))) g (exact d k p) (λ h. ap (λ b. only_if b (as_type (kind.boolean (known (bytes_eq m n))))) (either (is_entity_type s n) (is_action_type s n) (⊎_elim (λ z. inl z) (λ z. inr ((is_action_type-Decides s n).1 z)) c)))
    exact (in_written {ga = ga} {gb = gb} {u = u} {b = b} {m = m} {n = n} {v = v} {us = us} {r = r} da db w act e d) k p =
        two k binary_operator.In (literal (uid u)) b (kind.entity m) v (kind.boolean (known r)) ga gb (exact da k p) (exact db k p) (in_exact (literal (uid u)) b m n v (known r) w (truth_written u b m n us r act e d))
    exact (in_related {ga = ga} {gb = gb} {a = a} {b = b} {m = m} {n = n} {v = v} da db w e r) k p =
        two k binary_operator.In a b (kind.entity m) v (kind.boolean Any) ga gb (exact da k p) (exact db k p) (in_exact a b m n v Any w (truth_by_types a b m n true e ((related-Decides settings s env m n).1 r)))
    exact (in_unrelated {ga = ga} {gb = gb} {a = a} {b = b} {m = m} {n = n} {v = v} da db w e r) k p =
        two k binary_operator.In a b (kind.entity m) v (kind.boolean False) ga gb (exact da k p) (exact db k p) (in_exact a b m n v False w (truth_by_types a b m n false e (test_false (bytes_eq m n || type_below s m n) (λ c. r ((related-Decides settings s env m n).0 c)))))
    exact (of_contains {ga = ga} {gb = gb} {a = a} {b = b} {t = t} {u = u} da db j) k p = two k binary_operator.Contains a b (kind.set t) u (kind.boolean Any) ga gb (exact da k p) (exact db k p) (ap any_where (join_found j))
    exact (of_ordered {ga = ga} {gb = gb} {a = a} {b = b} {op = op} {x = x} is o da db) k p = two k op a b (kind.extension x) (kind.extension x) (kind.boolean Any) ga gb (exact da k p) (exact db k p) (ordered_exact op a b x is o)
    exact (of_set_comparison {ga = ga} {gb = gb} {a = a} {b = b} {t = t} {u = u} {v = v} {op = op} is da db j) k p = two k op a b (kind.set t) (kind.set u) (kind.boolean Any) ga gb (exact da k p) (exact db k p) (sets_exact op a b t u v is j)
    exact (of_is_empty {g = g} {e = e} {t = t} d) k p = one k operator.IsEmpty e (kind.set t) (kind.boolean Any) g (exact d k p) (λ h. refl)
    exact (of_set {g = g} {e = e} {es = es} {t = t} {v = v} d ds) k p =
        let x = exact d k p in
        plainly k (set_with (and_then e es)) (kind.set v)
        (ap (λ r. option_and_then (λ (t : TypeTree). as_type (kind.set t)) (option_and_then (λ (y : Typed). types_onto settings s env k y.ty es) r)) x.gives
        ∙ ap (option_and_then (λ (t : TypeTree). as_type (kind.set t))) (exact_onto ds k p))
    exact (of_record {fs = fs} {at = at} d ds) k p =
        plainly k (record_with fs) (kind.record_of at)
        (ap₂ (λ x y. only_if x (option_and_then (λ (at : Attributes). as_type (kind.record_of at)) y)) (test_from_distinct (keys_in fs) d) (exact_entries ds k p))
    exact (of_constructor {x = x} {t = t} e) k p = plainly k (unary (operator.Construct x) (literal (text t))) (kind.extension x) (ap (λ r. only_if (is_some r) (as_type (kind.extension x))) e)
    exact (of_any_string {g = g} {x = x} {e = e} on n d) k p = one k (operator.Construct x) e kind.string (kind.extension x) g (exact d k p) (λ h. constructor_exact x e n on)
    exact (of_unary_method {g = g} {e = e} {m = m} d) k p =
        let made = type_of_scalar (unary_row_of m).result in
        one k (operator.Call m) e (kind.extension (unary_row_of m).operand) made g (exact d k p) (λ h. ap (λ b. only_if b (as_type made)) (type_itself (unary_row_of m).operand))
    exact (of_method {ga = ga} {gb = gb} {a = a} {b = b} {m = m} da db) k p =
        two k (binary_operator.Call m) a b (kind.extension (row_of m).left) (kind.extension (row_of m).right) (type_of_scalar (row_of m).result) ga gb (exact da k p) (exact db k p) (method_exact m a b)
    exact _ k p = plainly k _ _ refl

    exact_onto : {h : Capabilities} {es : Expressions} {t v : TypeTree} → JoinsOnto settings s env h t es v → (k : Capabilities) → AreSame h k → types_onto settings s env k t es ≡ Some v
    exact_onto joined_all k p = refl
    exact_onto (joined_more {es = es} {t = t} {u = u} {v = v} d j ds) k p =
        let x = exact d k p in
        ap (option_and_then (λ (y : Typed). option_and_then (λ (v : TypeTree). types_onto settings s env k v es) (join t y.ty))) x.gives
        ∙ ap (option_and_then (λ (v : TypeTree). types_onto settings s env k v es)) (join_found j)
        ∙ exact_onto ds k p

    exact_entries : {h : Capabilities} {fs : Entries} {at more : Attributes} → AddsOnto settings s env h at fs more → (k : Capabilities) → AreSame h k → types_entries settings s env k at fs ≡ Some more
    exact_entries added_all k p = refl
    exact_entries (added_more {k = key} {fs = fs} {at = at} d ds) k p =
        let x = exact d k p in
        ap (option_and_then (λ (y : Typed). types_entries settings s env k (with_attribute key true y.ty at) fs)) x.gives ∙ exact_entries ds k p

pub found_is_typed : (settings : Settings) → FoundIsTypedWith settings
found_is_typed settings s env h e x r = found settings s env e h x r

pub typed_is_found : (settings : Settings) → TypedIsFoundWith settings
typed_is_found settings s env h g e t d =
    let x = exact settings s env d h (record { each = λ c. (λ m. m, λ m. m) }) in
    record { answer = record { ty = t; gained = x.gained }; given = x.gives; ty = refl; same = x.same }

-- the function has one answer
pub typing_is_one : (settings : Settings) → TypingIsOneWith settings
typing_is_one settings s env h one two e t u d f =
    let a = typed_is_found settings s env h one e t d in
    let b = typed_is_found settings s env h two e u f in
    let same : a.answer ≡ b.answer = let p = a.given in let q = b.given in cc in (
      sym a.ty ∙ ap (λ (x : Typed). x.ty) same ∙ b.ty,
      record {
        each = λ x. (
          λ m. (b.same.each x).1 (subst (λ (y : Typed). Has x y.gained) same ((a.same.each x).0 m)),
          λ m. (a.same.each x).1 (subst (λ (y : Typed). Has x y.gained) (sym same) ((b.same.each x).0 m)),
        );
      },
    )

-- a policy's form
form_from : (r : Option Typed) (f : Truth) → option_and_then (λ x. truth_in x.ty) r ≡ Some f → (x : Typed) × (r ≡ Some x) × (x.ty ≡ kind.boolean f)
form_from None f e = cc
form_from (Some x) f e = (x, refl, form_is x.ty f e)

pub form_is_found : (settings : Settings) → FormIsFoundWith settings
form_is_found settings s env p f = (
  λ h. let x = exact settings s env h.1 [] (record { each = λ c. (λ m. m, λ m. m) }) in ap (option_and_then (λ (y : Typed). truth_in y.ty)) x.gives,
  λ e. let r = form_from (type_in_with settings s env p) f e in (r.0.gained, subst (λ (t : TypeTree). TypesWith settings s env [] (replace env.action (condition_of p)) t r.0.gained) r.2 (found settings s env (replace env.action (condition_of p)) [] r.0 r.1)),
)
