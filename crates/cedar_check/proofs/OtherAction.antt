-- A condition on another action is known false in an environment of a declared one.
use Rattle.std.proofs.Common.{◌≡◌, true, false, [], ◌++◌, Option, Some, None, option_map, option_and_then, refl, ap, ◌∙◌}
use Rattle.cedar_value.specs.Datum.{same_uid}
use Rattle.cedar_value.specs.declared.uid.Uid.{Uid}
use Rattle.cedar_ast_expressions.specs.Expression.{Expression, and}
use Rattle.cedar_ast_expressions.specs.Replacement.{replace}
use Rattle.cedar_schema_types.specs.declared.truth.Truth.{Truth}
use Rattle.cedar_schema_types.specs.declared.truth.Truth.TheVariants.{True, False, Any}
use Rattle.cedar_schema_types.specs.Joining.{only_if}
use Rattle.cedar_schema_types.specs.Membership.{known}
use Rattle.cedar_schema_types.specs.Types as kind
use Rattle.cedar_schema_spec.specs.SchemaTree.{SchemaTree}
use Rattle.cedar_schema_spec.specs.Declarations.{is_action, is_entity}
use Rattle.cedar_schema_spec.specs.declared.environment.Environment.{Environment}
use Rattle.cedar_check_spec.specs.Capabilities.{Capabilities}
use Rattle.cedar_check_spec.specs.Rows.{Typed, as_type, truth_in}
use Rattle.cedar_check_spec.specs.Private.Checking.{and_right, and_type, on_boolean, on_two, type_of_with}
use Rattle.cedar_check_spec.specs.declared.settings.Settings.{Settings}
use Rattle.base_reach.proofs.Listed.{or_right as by_right}
use Rattle.cedar_check.specs.Private.Condition.{IsNamed}
use Rattle.cedar_check.specs.Private.Signatures.{form_with}

module _ (settings : Settings) (s : SchemaTree) (env : Environment) (asks rest : Expression) (u : Uid) (named : IsNamed s asks u) (declared : is_action s env.action ≡ true) (differ : same_uid env.action u ≡ false) where
  -- the comparison, with the environment's action in place of the variable
  asked_false : (h : Capabilities) → type_of_with settings s env h (replace env.action asks) ≡ as_type (kind.boolean False)
  asked_false h =
      let at = by_right (is_entity s env.action) (is_action s env.action) declared in
      ap (λ e. type_of_with settings s env h (replace env.action e)) named.0
      ∙ (λ i. on_two (only_if (at i) (as_type (kind.entity env.action.ty))) (only_if (named.1 i) (as_type (kind.entity u.ty))) (λ t v. Some (kind.boolean (known (differ i)))))

  abbrev second : Capabilities → Option Typed
  second h = type_of_with settings s env h (replace env.action (and asks rest))

  second_false : (h : Capabilities) → second h ≡ as_type (kind.boolean False)
  second_false h = ap (λ r. on_boolean r (and_type h (λ k. type_of_with settings s env k (replace env.action rest)))) (asked_false h)

  by_truth : (g : Capabilities) (f : Option Truth) → option_and_then (λ x. truth_in x.ty) (option_and_then (λ k. and_type [] second k g) f) ≡ option_map (λ k. False) f
  by_truth g None = refl
  by_truth g (Some False) = refl
  by_truth g (Some True) = ap (λ r. option_and_then (λ x. truth_in x.ty) (on_boolean r (and_right True g))) (second_false ([] ++ g))
  by_truth g (Some Any) = ap (λ r. option_and_then (λ x. truth_in x.ty) (on_boolean r (and_right Any g))) (second_false ([] ++ g))

  by_first : (r : Option Typed) → option_and_then (λ x. truth_in x.ty) (on_boolean r (and_type [] second)) ≡ option_map (λ k. False) (option_and_then (λ x. truth_in x.ty) r)
  by_first None = refl
  by_first (Some x) = by_truth x.gained (truth_in x.ty)

  -- the condition has a form where its condition on the principal has one
  pub shut_out : (p : Expression) → form_with settings s env (and p (and asks rest)) ≡ option_map (λ k. False) (form_with settings s env p)
  shut_out p = by_first (type_of_with settings s env [] (replace env.action p))
