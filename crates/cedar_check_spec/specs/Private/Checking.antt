-- Strict typing as a function, which the checker computes: the type and what is gained, or none.
use Rattle.std.specs.Prelude.{ℕ, Bool, true, false, not, ◌&&◌, ◌||◌, List, [], ◌∷◌, ◌++◌, Option, Some, None, filter, option_map, option_and_then}
use Rattle.std.specs.List.{list_any}
use Rattle.std.specs.Str.{bytes_eq}
use Rattle.cedar_value.specs.Datum.{Datum, boolean, long, text, uid}
use Rattle.cedar_ast_expressions.specs.declared.variable.Variable.{Variable}
use Rattle.cedar_ast_expressions.specs.declared.variable.Variable.TheVariants.{Principal, Action, Resource, Context}
use Rattle.cedar_ast_expressions.specs.declared.operator.UnaryOperator.{UnaryOperator}
use Rattle.cedar_ast_expressions.specs.Expression.{Expression, literal, variable, and, or, if_else, unary, binary, set_with, record_with, Expressions, no_more, and_then, Entries, no_entries, entry}
use Rattle.cedar_ast_expressions.specs.Private.SameExpression.{same_expression}
use Rattle.cedar_ast.specs.PolicyTree.{PolicyTree}
use Rattle.cedar_ast.specs.Condition.{condition_of}
use Rattle.cedar_schema_types.specs.declared.truth.Truth.{Truth}
use Rattle.cedar_schema_types.specs.declared.truth.Truth.TheVariants.{True, False, Any}
use Rattle.cedar_schema_spec.specs.declared.environment.Environment.{Environment}
use Rattle.cedar_schema_types.specs.Types.{TypeTree, Attributes, no_attributes}
use Rattle.cedar_schema_types.specs.Types as kind
use Rattle.cedar_schema_types.specs.Joining.{only_if, join}
use Rattle.cedar_schema_spec.specs.SchemaTree.{SchemaTree}
use Rattle.cedar_schema_types.specs.Membership.{known}
use Rattle.cedar_schema_spec.specs.Declarations.{is_entity, is_action}
use Rattle.cedar_check_spec.specs.Capabilities.{Capability, Capabilities}
use Rattle.cedar_check_spec.specs.Rows.{Typed, as_type, gaining, truth_in, has_row, get_row, unary_row, binary_type}
use Rattle.cedar_check_spec.specs.declared.settings.Settings.{Settings}
use Rattle.cedar_schema_types.specs.declared.attribute.Attribute.{Attribute}
use Rattle.cedar_schema_types.specs.Ordered.{with_attribute}
use Rattle.cedar_ast_expressions.specs.Replacement.{replace}
use Rattle.cedar_ast_expressions.specs.Keys.{keys_in}

-- Whether two capabilities are equal.
abbrev pub same_capability : Capability → Capability → Bool
same_capability x y = bytes_eq x.key y.key && same_expression x.on y.on

-- Whether the capability is one of these.
abbrev pub is_held : Capability → Capabilities → Bool
is_held x [] = false
is_held x (y ∷ ys) = same_capability y x || is_held x ys

-- Those of the first list that the second has.
abbrev pub common : Capabilities → Capabilities → Capabilities
common xs ys = filter (λ x. is_held x ys) xs

-- Whether no key is repeated.
abbrev pub are_distinct : List (List ℕ) → Bool
are_distinct [] = true
are_distinct (k ∷ ks) = not (list_any (λ l. bytes_eq l k) ks) && are_distinct ks

-- Goes on with what is known of a Boolean, and what it gains.
abbrev pub on_boolean : Option Typed → (Truth → Capabilities → Option Typed) → Option Typed
on_boolean r k = option_and_then (λ t. option_and_then (λ f. k f t.gained) (truth_in t.ty)) r

-- Goes on with the types of two operands.
abbrev pub on_two : Option Typed → Option Typed → (TypeTree → TypeTree → Option TypeTree) → Option Typed
on_two a b k = option_and_then (λ t. option_and_then (λ u. option_and_then as_type (k t.ty u.ty)) b) a

-- The row of literals.
abbrev pub literal_type : SchemaTree → Datum → Option Typed
literal_type s (boolean b) = as_type (kind.boolean (known b))
literal_type s (long n) = as_type kind.long
literal_type s (text t) = as_type kind.string
literal_type s (uid u) = only_if (is_entity s u || is_action s u) (as_type (kind.entity u.ty))
literal_type s _ = None

-- The row of variables.
abbrev pub variable_type : Environment → Variable → Option Typed
variable_type env Principal = as_type (kind.entity env.principal)
variable_type env Action = None
variable_type env Resource = as_type (kind.entity env.resource)
variable_type env Context = as_type env.context

-- The row of `&&` where the left side is not known false: what the right side gives.
abbrev pub and_right : Truth → Capabilities → Truth → Capabilities → Option Typed
and_right f ga False gb = as_type (kind.boolean False)
and_right f ga True gb = gaining (kind.boolean f) (ga ++ gb)
and_right f ga Any gb = gaining (kind.boolean Any) (ga ++ gb)

-- The row of `&&`, from the left side: the right side is typed where the gains of the left are held.
abbrev pub and_type : Capabilities → (Capabilities → Option Typed) → Truth → Capabilities → Option Typed
and_type h b False ga = as_type (kind.boolean False)
and_type h b True ga = on_boolean (b (h ++ ga)) (and_right True ga)
and_type h b Any ga = on_boolean (b (h ++ ga)) (and_right Any ga)

-- The row of `||` where nothing is known of the left side: what the right side gives.
abbrev pub or_right : Capabilities → Truth → Capabilities → Option Typed
or_right ga True gb = as_type (kind.boolean True)
or_right ga False gb = gaining (kind.boolean Any) ga
or_right ga Any gb = gaining (kind.boolean Any) (common ga gb)

-- The row of `||`, from the left side.
abbrev pub or_type : Option Typed → Truth → Capabilities → Option Typed
or_type b True ga = as_type (kind.boolean True)
or_type b False ga = on_boolean b (λ f gb. gaining (kind.boolean f) gb)
or_type b Any ga = on_boolean b (or_right ga)

-- The row of `if`, from the condition: the first branch is typed where the gains of the condition are held.
abbrev pub if_type : (Capabilities → Option Typed) → Option Typed → Truth → Capabilities → Option Typed
if_type x y True gi = option_map (λ t. record { ty = t.ty; gained = gi ++ t.gained }) (x gi)
if_type x y False gi = y
if_type x y Any gi = option_and_then (λ t. option_and_then (λ u. option_map (λ v. record { ty = v; gained = common (gi ++ t.gained) u.gained }) (join t.ty u.ty)) y) (x gi)

-- The row of `has`, from what is declared.
abbrev pub has_type : Capabilities → Expression → List ℕ → TypeTree → Option Attribute → Option Typed
has_type h e a t o = has_row (is_held (record { on = e; key = a }) h) e a t o

-- The row of `.`, from what is declared.
abbrev pub get_type : Capabilities → Expression → List ℕ → Option Attribute → Option Typed
get_type h e a o = get_row (is_held (record { on = e; key = a }) h) o

-- The rows of the operators on one operand, where these capabilities are held.
abbrev pub unary_type : Settings → SchemaTree → Capabilities → UnaryOperator → Expression → Typed → Option Typed
unary_type settings s h op e t = unary_row settings s (λ x. is_held x h) op e t

-- The type of an expression under these settings, in an environment of a schema, where these capabilities are held, and what
-- it gains; none where no rule types it (Cedar documentation, strict validation).
abbrev mutual
  pub type_of_with : Settings → SchemaTree → Environment → Capabilities → Expression → Option Typed
  type_of_with settings s env h (literal v) = literal_type s v
  type_of_with settings s env h (variable x) = variable_type env x
  type_of_with settings s env h (and a b) = on_boolean (type_of_with settings s env h a) (and_type h (λ k. type_of_with settings s env k b))
  type_of_with settings s env h (or a b) = on_boolean (type_of_with settings s env h a) (or_type (type_of_with settings s env h b))
  type_of_with settings s env h (if_else i x y) = on_boolean (type_of_with settings s env h i) (if_type (λ g. type_of_with settings s env (h ++ g) x) (type_of_with settings s env h y))
  type_of_with settings s env h (unary op e) = option_and_then (unary_type settings s h op e) (type_of_with settings s env h e)
  type_of_with settings s env h (binary op a b) = on_two (type_of_with settings s env h a) (type_of_with settings s env h b) (binary_type s op a b)
  type_of_with settings s env h (set_with es) = option_and_then (λ t. as_type (kind.set t)) (types_all settings s env h es)
  type_of_with settings s env h (record_with fs) = only_if (are_distinct (keys_in fs)) (option_and_then (λ at. as_type (kind.record_of at)) (types_entries settings s env h no_attributes fs))

  -- What the types of one or more members join to.
  pub types_all : Settings → SchemaTree → Environment → Capabilities → Expressions → Option TypeTree
  types_all settings s env h no_more = None
  types_all settings s env h (and_then e es) = option_and_then (λ x. types_onto settings s env h x.ty es) (type_of_with settings s env h e)

  -- What a type and those of further members join to, from the left.
  pub types_onto : Settings → SchemaTree → Environment → Capabilities → TypeTree → Expressions → Option TypeTree
  types_onto settings s env h t no_more = Some t
  types_onto settings s env h t (and_then e es) = option_and_then (λ x. option_and_then (λ v. types_onto settings s env h v es) (join t x.ty)) (type_of_with settings s env h e)

  -- The attributes with those of the entries, each required.
  pub types_entries : Settings → SchemaTree → Environment → Capabilities → Attributes → Entries → Option Attributes
  types_entries settings s env h at no_entries = Some at
  types_entries settings s env h at (entry k e fs) = option_and_then (λ x. types_entries settings s env h (with_attribute k true x.ty at) fs) (type_of_with settings s env h e)

-- The typing of a policy's condition in an environment, with the environment's action in place of the variable, from no held
-- capabilities.
abbrev pub type_in_with : Settings → SchemaTree → Environment → PolicyTree → Option Typed
type_in_with settings s env p = type_of_with settings s env [] (replace env.action (condition_of p))

-- What is known of the condition there, where its type is Boolean.
abbrev pub form_in_with : Settings → SchemaTree → Environment → PolicyTree → Option Truth
form_in_with settings s env p = option_and_then (λ x. truth_in x.ty) (type_in_with settings s env p)
