-- One expression has one typing, whatever the order of what is held.
use Rattle.std.proofs.Common.{◌≡◌, ℕ, true, false, [], ◌++◌, inl, inr, ⊎_elim, Option, Some, None, append-nil, refl, sym, ap, subst, ◌∙◌}
use Rattle.cedar_value.specs.Datum.{boolean}
use Rattle.cedar_ast_expressions.specs.Expression.{Expression, literal, if_else}
use Rattle.cedar_schema_types.specs.declared.truth.Truth.{Truth}
use Rattle.cedar_schema_types.specs.declared.truth.Truth.TheVariants.{True, False, Any}
use Rattle.cedar_schema_types.specs.Types.{TypeTree}
use Rattle.cedar_schema_types.specs.Types as kind
use Rattle.cedar_schema_spec.specs.declared.environment.Environment.{Environment}
use Rattle.cedar_schema_spec.specs.SchemaTree.{SchemaTree}
use Rattle.cedar_check.specs.Typings.{IsTypingOf}
use Rattle.cedar_check_spec.specs.Capabilities.{Capabilities, IsUnion, AreSame}
use Rattle.cedar_check_spec.specs.Rows.{Typed, truth_in}
use Rattle.cedar_check_spec.specs.Typing.{MayHold, TypesWith, of_boolean, if_true}
use Rattle.cedar_check_spec.specs.Private.Checking.{type_of_with}
use Rattle.cedar_check_spec.specs.declared.settings.Settings.{Settings}
use Rattle.cedar_check_law.proofs.Exact.{found_is_typed, typed_is_found, typing_is_one}
use Rattle.cedar_check_law.proofs.Found.{form_is, map_some, union_append}
use Rattle.cedar_check_diagnostics.specs.Looking.{HasType, IsLookedAt, MayBeFalse, MayFail}
use Rattle.cedar_check_diagnostics.specs.Private.Truths.{may_fail, may_hold}
use Rattle.cedar_check_diagnostics.specs.Paths.{AreGainedBy, Gains, IsStep, guard_of}

pub same_itself : (h : Capabilities) → AreSame h h
same_itself h = record { each = λ x. (λ m. m, λ m. m) }

-- what is gained too keeps two sets the same
pub same_extended : (h one two : Capabilities) → AreSame one two → AreSame (h ++ one) (h ++ two)
same_extended h one two q =
    let u = union_append h one in
    let v = union_append h two in
    record {
      each = λ x. (
        λ m. (v.each x).1 (⊎_elim (λ l. inl l) (λ r. inr ((q.each x).0 r)) ((u.each x).0 m)),
        λ m. (u.each x).1 (⊎_elim (λ l. inl l) (λ r. inr ((q.each x).1 r)) ((v.each x).0 m)),
      );
    }

holding : (o : Option Truth) → may_hold o ≡ true → (f : Truth) × (o ≡ Some f) × MayHold f
holding (Some True) e = (True, refl, tt)
holding (Some Any) e = (Any, refl, tt)
holding (Some False) e = cc
holding None e = cc

not_holding : (f : Truth) → may_hold (Some f) ≡ false → ¬ MayHold f
not_holding True e = λ m. cc
not_holding Any e = λ m. cc
not_holding False e = λ m. m

not_failing : (f : Truth) → may_fail (Some f) ≡ false → ¬ MayFail f
not_failing False e = λ m. cc
not_failing Any e = λ m. cc
not_failing True e = λ m. m

module _ (settings : Settings) (s : SchemaTree) (env : Environment) where
  -- the function of typing gives the type
  pub found_type : (h : Capabilities) (e : Expression) (t : TypeTree) (g : Capabilities) → TypesWith settings s env h e t g → (x : Typed) × (type_of_with settings s env h e ≡ Some x) × (x.ty ≡ t)
  found_type h e t g d = let a = typed_is_found settings s env h g e t d in (a.answer, a.given, a.ty)

  pub has_type : (h : Capabilities) (e : Expression) (x : Typed) → type_of_with settings s env h e ≡ Some x → HasType settings s env h e
  has_type h e x is = record { ty = x.ty; gained = x.gained; typed = found_is_typed settings s env h e x is }

  -- the type of `if true then e else e` where some are held is that of e where the same ones are held
  pub type_stays : (h k : Capabilities) (e : Expression) → AreSame h k → HasType settings s env h e → HasType settings s env k e
  type_stays h k e q t =
      let u : IsUnion k [] h = record { each = λ x. (λ m. inl ((q.each x).0 m), λ m. ⊎_elim (λ l. (q.each x).1 l) (λ r. absurd r) m) } in
      let v : IsUnion [] t.gained t.gained = record { each = λ x. (λ m. inr m, λ m. ⊎_elim (λ l. absurd l) (λ r. r) m) } in
      let d : TypesWith settings s env k (if_else (literal (boolean true)) e e) t.ty t.gained = if_true (of_boolean {h = k} {b = true}) u t.typed v in
      let a = typed_is_found settings s env k t.gained (if_else (literal (boolean true)) e e) t.ty d in
      let r = map_some (λ (x : Typed). record { ty = x.ty; gained = [] ++ x.gained }) (type_of_with settings s env (k ++ []) e) a.answer a.given in
      subst (λ (c : Capabilities). HasType settings s env c e) (append-nil k) (has_type (k ++ []) e r.0 r.1)

  -- a guard gains one set of capabilities
  pub gained_once : (h : Capabilities) (o : Option Expression) (one two : Capabilities) → AreGainedBy settings s env h o one → AreGainedBy settings s env h o two → AreSame one two
  gained_once h None one two p q = subst (λ (x : Capabilities). AreSame one x) (p ∙ sym q) (same_itself one)
  gained_once h (Some a) one two p q = (typing_is_one settings s env h one two a (kind.boolean p.truth) (kind.boolean q.truth) p.typed q.typed).1

  pub step_once : (h : Capabilities) (e : Expression) (n : ℕ) (one two : Capabilities) (p q : Expression) → IsStep settings s env h e n one p → IsStep settings s env h e n two q → (p ≡ q) × AreSame one two
  step_once h e n one two p q x y =
      let here = x.here in
      let there = y.here in
      let same : p ≡ q = cc in
      (same, gained_once h (guard_of e n) one two x.before y.before)

  -- what was found to have a type has one wherever it is looked at
  pub looked_at_typed : (h : Capabilities) (e : Expression) (n : ℕ) (one two : Capabilities) (p q : Expression) → IsStep settings s env h e n one p → HasType settings s env (h ++ one) p → IsLookedAt settings s env h e n two q → HasType settings s env (h ++ two) q
  looked_at_typed h e n one two p q x t l =
      let same = step_once h e n one two p q x l.step in
      subst (λ (r : Expression). HasType settings s env (h ++ two) r) same.0 (type_stays (h ++ one) (h ++ two) p (same_extended h one two same.1) t)

  pub typing_has_type : (h : Capabilities) (e : Expression) (o : Option Typed) (x : Typed) → o ≡ Some x → IsTypingOf settings s env h e o → HasType settings s env h e
  typing_has_type h e None x is d = cc
  typing_has_type h e (Some y) x is d = record { ty = y.ty; gained = y.gained; typed = d }

  -- what is known of an expression is known of each of its typings
  truth_once : (h : Capabilities) (e : Expression) (t : TypeTree) (one two : Capabilities) (f : Truth) → TypesWith settings s env h e t one → TypesWith settings s env h e (kind.boolean f) two → truth_in t ≡ Some f
  truth_once h e t one two f d b = subst (λ (u : TypeTree). truth_in u ≡ Some f) (sym (typing_is_one settings s env h one two e t (kind.boolean f) d b).0) refl

  -- a Boolean that may be true gains what its typing says
  pub gains : (h : Capabilities) (e : Expression) (o : Option Typed) (x : Typed) → o ≡ Some x → IsTypingOf settings s env h e o → may_hold (truth_in x.ty) ≡ true → Gains settings s env h e x.gained
  gains h e None x is d may = cc
  gains h e (Some y) x is d may =
      let same : y ≡ x = cc in
      let there = subst (λ (z : Typed). TypesWith settings s env h e z.ty z.gained) same d in
      let f = holding (truth_in x.ty) may in
      record { truth = f.0; typed = subst (λ (t : TypeTree). TypesWith settings s env h e t x.gained) (form_is x.ty f.0 f.1) there; may = f.2 }

  -- another expression gains nothing
  pub gains_nothing : (h : Capabilities) (e : Expression) (o : Option Typed) (x : Typed) → o ≡ Some x → IsTypingOf settings s env h e o → may_hold (truth_in x.ty) ≡ false → (g : Capabilities) → ¬ Gains settings s env h e g
  gains_nothing h e None x is d may g = λ q. cc
  gains_nothing h e (Some y) x is d may g = λ q.
      let same : y ≡ x = cc in
      let there = subst (λ (z : Typed). TypesWith settings s env h e z.ty z.gained) same d in
      not_holding q.truth (sym (ap may_hold (truth_once h e x.ty x.gained g q.truth there q.typed)) ∙ may) q.may

  -- a Boolean that is known to be true, or an expression that is no Boolean, cannot be false
  pub never_false : (h : Capabilities) (e : Expression) (o : Option Typed) (x : Typed) → o ≡ Some x → IsTypingOf settings s env h e o → may_fail (truth_in x.ty) ≡ false → ¬ MayBeFalse settings s env h e
  never_false h e None x is d may = λ q. cc
  never_false h e (Some y) x is d may = λ q.
      let same : y ≡ x = cc in
      let there = subst (λ (z : Typed). TypesWith settings s env h e z.ty z.gained) same d in
      not_failing q.truth (sym (ap may_fail (truth_once h e x.ty x.gained q.gained q.truth there q.typed)) ∙ may) q.may
