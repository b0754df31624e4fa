-- The language has no part in typing: settings that take the same choices give the same types and the same report.
use Rattle.std.proofs.Common.{◌≡◌, true, sym, ◌∙◌, List, ℕ}
use Rattle.cedar_ext.specs.declared.extension.ExtensionType.{ExtensionType}
use Rattle.cedar_ext.specs.declared.extension.ExtensionType.TheVariants as extension_type
use Rattle.cedar_ast_expressions.specs.Expression.{Expression, Expressions, Entries}
use Rattle.cedar_ast.specs.PolicyTree.{PolicyTree}
use Rattle.cedar_schema_types.specs.Types.{TypeTree, Attributes}
use Rattle.cedar_schema_types.specs.declared.truth.Truth.{Truth}
use Rattle.cedar_schema_spec.specs.SchemaTree.{SchemaTree, environments_of}
use Rattle.cedar_schema_spec.specs.declared.environment.Environment.{Environment}
use Rattle.cedar_check_spec.specs.declared.settings.Settings.{Settings}
use Rattle.cedar_check_spec.specs.Acceptance.{HasFormWith, IsAcceptedInWith, IsAcceptedWith, IsImpossibleWith}
use Rattle.cedar_check_spec.specs.Capabilities.{Capabilities}
use Rattle.cedar_check_spec.specs.Reports.{AreFaultsInWith, AreFaultsWith, AreWarningsWith, FaultTree, in_none, in_accepted, in_refused, of_none, of_more, on_none, on_satisfiable, on_impossible}
use Rattle.cedar_check_spec.specs.Typing.{takes_any_string, TypesWith, JoinsOnto, AddsOnto, of_boolean, of_long, of_text, of_uid, of_principal, of_resource, of_context, of_not, and_false, and_then_false, and_then_true, and_then_any, or_true, or_false, or_any_true, or_any_false, or_any_any, if_true, if_false, if_any, of_negative, of_arithmetic, of_comparison, of_ordered, equal_literals, equal_joined, equal_apart, has_none, has_held, has_required, has_any, of_get, of_like, of_is, in_written, in_related, in_unrelated, of_contains, of_set_comparison, of_is_empty, of_set, of_record, of_constructor, of_any_string, of_unary_method, of_method, joined_all, joined_more, added_all, added_more}

module _ (a b : Settings) (same : a.any_decimal ≡ b.any_decimal) (s : SchemaTree) where
  takes : (x : ExtensionType) → takes_any_string a x ≡ true → takes_any_string b x ≡ true
  takes extension_type.Decimal h = sym same ∙ h
  takes extension_type.Ip h = absurd cc
  takes extension_type.Datetime h = absurd cc
  takes extension_type.Duration h = absurd cc

  mutual
    pub types : {env : Environment} {h g : Capabilities} {e : Expression} {t : TypeTree} → TypesWith a s env h e t g → TypesWith b s env h e t g
    types of_boolean = of_boolean
    types of_long = of_long
    types of_text = of_text
    types (of_uid x0) = of_uid x0
    types of_principal = of_principal
    types of_resource = of_resource
    types of_context = of_context
    types (of_not x0) = of_not (types x0)
    types (and_false x0) = and_false (types x0)
    types (and_then_false x0 x1 x2 x3) = and_then_false (types x0) x1 x2 (types x3)
    types (and_then_true x0 x1 x2 x3 x4) = and_then_true (types x0) x1 x2 (types x3) x4
    types (and_then_any x0 x1 x2 x3 x4) = and_then_any (types x0) x1 x2 (types x3) x4
    types (or_true x0) = or_true (types x0)
    types (or_false x0 x1) = or_false (types x0) (types x1)
    types (or_any_true x0 x1) = or_any_true (types x0) (types x1)
    types (or_any_false x0 x1) = or_any_false (types x0) (types x1)
    types (or_any_any x0 x1 x2) = or_any_any (types x0) (types x1) x2
    types (if_true x0 x1 x2 x3) = if_true (types x0) x1 (types x2) x3
    types (if_false x0 x1) = if_false (types x0) (types x1)
    types (if_any x0 x1 x2 x3 x4 x5 x6) = if_any (types x0) x1 (types x2) (types x3) x4 x5 x6
    types (of_negative x0) = of_negative (types x0)
    types (of_arithmetic x0 x1 x2) = of_arithmetic x0 (types x1) (types x2)
    types (of_comparison x0 x1 x2) = of_comparison x0 (types x1) (types x2)
    types (of_ordered x0 x1 x2 x3) = of_ordered x0 x1 (types x2) (types x3)
    types (equal_literals x0 x1) = equal_literals (types x0) (types x1)
    types (equal_joined x0 x1 x2 x3) = equal_joined x0 (types x1) (types x2) x3
    types (equal_apart x0 x1 x2 x3) = equal_apart x0 (types x1) (types x2) x3
    types (has_none x0 x1 x2) = has_none (types x0) x1 x2
    types (has_held x0 x1 x2 x3) = has_held (types x0) x1 x2 x3
    types (has_required x0 x1 x2) = has_required (types x0) x1 x2
    types (has_any x0 x1 x2 x3 x4) = has_any (types x0) x1 x2 x3 x4
    types (of_get x0 x1 x2 x3) = of_get (types x0) x1 x2 x3
    types (of_like x0) = of_like (types x0)
    types (of_is x0 x1) = of_is (types x0) x1
    types (in_written x0 x1 x2 x3 x4 x5) = in_written (types x0) (types x1) x2 x3 x4 x5
    types (in_related x0 x1 x2 x3 x4) = in_related (types x0) (types x1) x2 x3 x4
    types (in_unrelated x0 x1 x2 x3 x4) = in_unrelated (types x0) (types x1) x2 x3 x4
    types (of_contains x0 x1 x2) = of_contains (types x0) (types x1) x2
    types (of_set_comparison x0 x1 x2 x3) = of_set_comparison x0 (types x1) (types x2) x3
    types (of_is_empty x0) = of_is_empty (types x0)
    types (of_set x0 x1) = of_set (types x0) (joins x1)
    types (of_record x0 x1) = of_record x0 (adds x1)
    types (of_constructor x0) = of_constructor x0
    types (of_any_string t l p) = of_any_string (takes _ t) l (types p)
    types (of_unary_method x0) = of_unary_method (types x0)
    types (of_method x0 x1) = of_method (types x0) (types x1)

    joins : {env : Environment} {h : Capabilities} {t u : TypeTree} {es : Expressions} → JoinsOnto a s env h t es u → JoinsOnto b s env h t es u
    joins joined_all = joined_all
    joins (joined_more x0 x1 x2) = joined_more (types x0) x1 (joins x2)

    adds : {env : Environment} {h : Capabilities} {at more : Attributes} {fs : Entries} → AddsOnto a s env h at fs more → AddsOnto b s env h at fs more
    adds added_all = added_all
    adds (added_more x0 x1) = added_more (types x0) (adds x1)

  form : (env : Environment) (p : PolicyTree) (f : Truth) → HasFormWith a s env p f → HasFormWith b s env p f
  form env p f h = (h.0, types h.1)

  accepted_in : (env : Environment) (p : PolicyTree) → IsAcceptedInWith a s env p → IsAcceptedInWith b s env p
  accepted_in env p h = (h.0, form env p h.0 h.1)

  pub accepted : (p : PolicyTree) → IsAcceptedWith a s p → IsAcceptedWith b s p
  accepted p h = λ env c. accepted_in env p (h env c)

  impossible : (p : PolicyTree) → IsImpossibleWith a s p → IsImpossibleWith b s p
  impossible p h = λ env c. form env p _ (h env c)

module _ (a b : Settings) (same : a.any_decimal ≡ b.any_decimal) (s : SchemaTree) where
  faults_in : (p : PolicyTree) {envs : List Environment} {faults : List FaultTree} → AreFaultsInWith a s p envs faults → AreFaultsInWith b s p envs faults
  faults_in p in_none = in_none
  faults_in p (in_accepted {env = env} h more) = in_accepted (accepted_in a b same s env p h) (faults_in p more)
  faults_in p (in_refused {env = env} h more) = in_refused (λ is. h (accepted_in b a (sym same) s env p is)) (faults_in p more)

  pub faults : {ps : List PolicyTree} {found : List FaultTree} → AreFaultsWith a s ps found → AreFaultsWith b s ps found
  faults of_none = of_none
  faults (of_more {p = p} h more) = of_more (faults_in p h) (faults more)

  pub warnings : {ps : List PolicyTree} {ids : List (List ℕ)} → AreWarningsWith a s ps ids → AreWarningsWith b s ps ids
  warnings on_none = on_none
  warnings (on_satisfiable {p = p} h more) = on_satisfiable (λ is. h (impossible b a (sym same) s p is)) (warnings more)
  warnings (on_impossible {p = p} h more) = on_impossible (impossible a b same s p h) (warnings more)
