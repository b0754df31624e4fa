-- Expressions are typed alike in environments with the same types.
use Rattle.std.proofs.Common.{◌≡◌, true, false, Some, ap, sym, ◌∙◌}
use Rattle.std.specs.Prelude.{◌++◌, [], option_and_then}
use Rattle.cedar_ast_expressions.specs.declared.variable.Variable.{Variable}
use Rattle.cedar_ast_expressions.specs.declared.variable.Variable.TheVariants.{Principal, Action, Resource, Context}
use Rattle.cedar_ast_expressions.specs.Expression.{Expression, literal, variable, and, or, if_else, unary, binary, set_with, record_with, Expressions, no_more, and_then, Entries, no_entries, entry}
use Rattle.cedar_ast_expressions.specs.Keys.{keys_in}
use Rattle.cedar_schema_types.specs.Types.{TypeTree, Attributes, no_attributes}
use Rattle.cedar_schema_types.specs.Types as kind
use Rattle.cedar_schema_types.specs.Joining.{only_if, join}
use Rattle.cedar_schema_types.specs.Ordered.{with_attribute}
use Rattle.cedar_schema_spec.specs.SchemaTree.{SchemaTree}
use Rattle.cedar_schema_spec.specs.declared.environment.Environment.{Environment}
use Rattle.cedar_check_spec.specs.Capabilities.{Capabilities}
use Rattle.cedar_check_spec.specs.Rows.{Typed, as_type, truth_in, binary_type}
use Rattle.cedar_check_spec.specs.Private.Checking.{type_of_with, types_all, types_onto, types_entries, on_boolean, on_two, and_type, or_type, if_type, unary_type, variable_type, are_distinct}
use Rattle.cedar_check_spec.specs.declared.settings.Settings.{Settings}
use Rattle.cedar_check.specs.Private.Mention.{mentions}
use Rattle.cedar_check.specs.Private.Signatures.{AreAlike, form_with}
use Rattle.cedar_check.proofs.Unmentioned.{unmentioned}

module _ (settings : Settings) (s : SchemaTree) (one two : Environment) (alike : AreAlike one two) where
  variables_alike : (x : Variable) → variable_type one x ≡ variable_type two x
  variables_alike Principal = λ i. as_type (kind.entity (alike.principal i))
  variables_alike Action = λ i. variable_type one Action
  variables_alike Resource = λ i. as_type (kind.entity (alike.resource i))
  variables_alike Context = λ i. as_type (alike.context i)

  mutual
    pub typed_alike : (h : Capabilities) (e : Expression) → type_of_with settings s one h e ≡ type_of_with settings s two h e
    typed_alike h (literal v) = λ i. type_of_with settings s one h (literal v)
    typed_alike h (variable x) = variables_alike x
    typed_alike h (and a b) = λ i. on_boolean (typed_alike h a i) (and_type h (λ k. typed_alike k b i))
    typed_alike h (or a b) = λ i. on_boolean (typed_alike h a i) (or_type (typed_alike h b i))
    typed_alike h (if_else c x y) = λ i. on_boolean (typed_alike h c i) (if_type (λ g. typed_alike (h ++ g) x i) (typed_alike h y i))
    typed_alike h (unary op e) = λ i. option_and_then (unary_type settings s h op e) (typed_alike h e i)
    typed_alike h (binary op a b) = λ i. on_two (typed_alike h a i) (typed_alike h b i) (binary_type s op a b)
    typed_alike h (set_with es) = λ i. option_and_then (λ t. as_type (kind.set t)) (all_alike h es i)
    typed_alike h (record_with fs) = λ i. only_if (are_distinct (keys_in fs)) (option_and_then (λ at. as_type (kind.record_of at)) (entries_alike h no_attributes fs i))

    all_alike : (h : Capabilities) (es : Expressions) → types_all settings s one h es ≡ types_all settings s two h es
    all_alike h no_more = λ i. types_all settings s one h no_more
    all_alike h (and_then e es) = λ i. option_and_then (λ (x : Typed). onto_alike h x.ty es i) (typed_alike h e i)

    onto_alike : (h : Capabilities) (t : TypeTree) (es : Expressions) → types_onto settings s one h t es ≡ types_onto settings s two h t es
    onto_alike h t no_more = λ i. Some t
    onto_alike h t (and_then e es) = λ i. option_and_then (λ (x : Typed). option_and_then (λ v. onto_alike h v es i) (join t x.ty)) (typed_alike h e i)

    entries_alike : (h : Capabilities) (at : Attributes) (fs : Entries) → types_entries settings s one h at fs ≡ types_entries settings s two h at fs
    entries_alike h at no_entries = λ i. Some at
    entries_alike h at (entry k e fs) = λ i. option_and_then (λ (x : Typed). entries_alike h (with_attribute k true x.ty at) fs i) (typed_alike h e i)

  -- a condition that does not name the action has one form in both
  pub form_alike : (e : Expression) → mentions e ≡ false → form_with settings s one e ≡ form_with settings s two e
  form_alike e h =
      ap (λ x. option_and_then (λ (t : Typed). truth_in t.ty) (type_of_with settings s one [] x)) (unmentioned one.action e h)
      ∙ ap (option_and_then (λ (t : Typed). truth_in t.ty)) (typed_alike [] e)
      ∙ sym (ap (λ x. option_and_then (λ (t : Typed). truth_in t.ty) (type_of_with settings s two [] x)) (unmentioned two.action e h))
