-- The rules of single operators as functions of their operands' types, which the functions of cedar_check_operators compute (Cedar
-- documentation, strict validation).
use Rattle.std.specs.Prelude.{◌≡◌, ℕ, Bool, true, false, not, ◌&&◌, ◌||◌, cond, List, [], ◌∷◌, Option, Some, None, is_some, option_map, option_and_then}
use Rattle.std.specs.List.{list_any}
use Rattle.std.specs.Str.{bytes_eq}
use Rattle.cedar_ext.specs.declared.extension.ExtensionType.{ExtensionType}
use Rattle.cedar_ext.specs.declared.method.BinaryMethod.{BinaryMethod}
use Rattle.cedar_ext.specs.Extensions.{extension_of, same_type}
use Rattle.cedar_ext.specs.UnaryMethods.{unary_row_of}
use Rattle.cedar_ext.specs.declared.unary_method.UnaryMethod.{UnaryMethod}
use Rattle.cedar_ext.specs.Methods.{row_of, is_ordered}
use Rattle.cedar_value.specs.Datum.{Datum, text, uid, same, same_uid}
use Rattle.cedar_value.specs.declared.uid.Uid.{Uid}
use Rattle.cedar_ast_expressions.specs.declared.operator.UnaryOperator.{UnaryOperator}
use Rattle.cedar_ast_expressions.specs.declared.operator.UnaryOperator.TheVariants as operator
use Rattle.cedar_ast_expressions.specs.declared.operator.BinaryOperator.{BinaryOperator}
use Rattle.cedar_ast_expressions.specs.declared.operator.BinaryOperator.TheVariants as binary_operator
use Rattle.cedar_ast_expressions.specs.Expression.{Expression, literal}
use Rattle.cedar_schema_types.specs.declared.truth.Truth.{Truth}
use Rattle.cedar_schema_types.specs.declared.truth.Truth.TheVariants.{True, False, Any}
use Rattle.cedar_schema_types.specs.Types.{TypeTree, is_record}
use Rattle.cedar_schema_types.specs.Types as kind
use Rattle.cedar_schema_types.specs.Joining.{only_if, join}
use Rattle.cedar_schema_spec.specs.SchemaTree.{SchemaTree}
use Rattle.cedar_schema_types.specs.Membership.{known}
use Rattle.cedar_schema_spec.specs.Declarations.{is_entity_type, is_action, is_action_type, action_below, type_below}
use Rattle.cedar_check_spec.specs.Capabilities.{Capability, Capabilities, TellsHeld}
use Rattle.cedar_check_spec.specs.declared.settings.Settings.{Settings}
use Rattle.cedar_check_spec.specs.Typing.{attributes_in, flipped, type_of_scalar, takes_any_string, two_literals, written_uids}
use Rattle.cedar_schema_types.specs.Lookup.{attribute_at}
use Rattle.cedar_schema_types.specs.declared.attribute.Attribute.{Attribute}

-- The type of an expression, and the capabilities that it gains (cedar-spec, Lean: Cedar.Validation, typechecker).
pub record Typed : Type 0 where
  pub ty : TypeTree
  pub gained : Capabilities

-- This type, which gains nothing (own).
abbrev pub as_type : TypeTree → Option Typed
as_type t = Some (record { ty = t; gained = [] })

-- This type, which gains these capabilities (own).
abbrev pub gaining : TypeTree → Capabilities → Option Typed
gaining t g = Some (record { ty = t; gained = g })

-- What is known of a Boolean type, and None for another type (Cedar documentation, strict validation).
abbrev pub truth_in : TypeTree → Option Truth
truth_in (kind.boolean f) = Some f
truth_in _ = None

-- The name of an entity type, and None for another type (Cedar documentation, strict validation).
abbrev pub entity_in : TypeTree → Option (List ℕ)
entity_in (kind.entity n) = Some n
entity_in _ = None

-- The type of a set's members, and None for another type (Cedar documentation, strict validation).
abbrev pub element_in : TypeTree → Option TypeTree
element_in (kind.set t) = Some t
element_in _ = None

-- The entity type that the right operand of `in` has: that of one entity, or of a set's members (Cedar language reference,
-- `in`).
abbrev pub target_in : TypeTree → Option (List ℕ)
target_in (kind.entity n) = Some n
target_in (kind.set t) = entity_in t
target_in _ = None

-- Whether it is the type of whole numbers (Cedar language reference, Long).
abbrev pub is_long : TypeTree → Bool
is_long kind.long = true
is_long _ = false

-- Whether it is the type of strings (Cedar language reference, String).
abbrev pub is_string : TypeTree → Bool
is_string kind.string = true
is_string _ = false

-- Whether it is that extension type (Cedar language reference, data types, extension types).
abbrev pub is_extension : ExtensionType → TypeTree → Bool
is_extension x (kind.extension y) = same_type x y
is_extension x _ = false

-- The row of `has`: false where nothing is declared, true where the attribute is held or a record has to have it, and else a
-- Boolean that gains the capability (Cedar documentation, strict validation: `has`).
abbrev pub has_row : Bool → Expression → List ℕ → TypeTree → Option Attribute → Option Typed
has_row held e a t None = as_type (kind.boolean False)
has_row held e a t (Some d) = cond (held || (is_record t && d.required)) (as_type (kind.boolean True)) (gaining (kind.boolean Any) (record { on = e; key = a } ∷ []))

-- The row of `.`: the declared type, where the attribute is required or held (Cedar documentation, strict validation:
-- attribute access).
abbrev pub get_row : Bool → Option Attribute → Option Typed
get_row held None = None
get_row held (Some d) = only_if (d.required || held) (as_type d.ty)

-- The row of a constructor for a literal: its type, where the literal is a string that writes a value of it (Cedar
-- documentation, strict validation: extension functions).
abbrev pub constructed_literal_type : ExtensionType → Datum → Option Typed
constructed_literal_type x (text t) = only_if (is_some (extension_of x t)) (as_type (kind.extension x))
constructed_literal_type x _ = None

-- The row of a constructor: for one string literal that writes a value of its type, and where the settings speak of it for any
-- string that is not a literal (Cedar documentation, strict validation: extension functions; own: the settings).
abbrev pub constructor_type : Settings → ExtensionType → Expression → TypeTree → Option Typed
constructor_type settings x (literal v) t = constructed_literal_type x v
constructor_type settings x _ t = only_if (takes_any_string settings x && is_string t) (as_type (kind.extension x))

-- The row of a method that takes no argument: the type of what it gives, for an operand of the type that its row takes (Cedar
-- documentation, strict validation: extension functions).
abbrev pub unary_method_type : UnaryMethod → TypeTree → Option Typed
unary_method_type m t = only_if (is_extension (unary_row_of m).operand t) (as_type (type_of_scalar (unary_row_of m).result))

-- The rows of the operators on one operand, given its expression and its typing, with a test of which capabilities are held
-- (Cedar documentation, strict validation).
abbrev pub unary_row : Settings → SchemaTree → (Capability → Bool) → UnaryOperator → Expression → Typed → Option Typed
unary_row settings s holds operator.Not e t = option_and_then (λ f. as_type (kind.boolean (flipped f))) (truth_in t.ty)
unary_row settings s holds operator.Negate e t = only_if (is_long t.ty) (as_type kind.long)
unary_row settings s holds (operator.Has a) e t = option_and_then (λ at. has_row (holds (record { on = e; key = a })) e a t.ty (attribute_at a at)) (attributes_in s t.ty)
unary_row settings s holds (operator.Get a) e t = option_and_then (λ at. get_row (holds (record { on = e; key = a })) (attribute_at a at)) (attributes_in s t.ty)
unary_row settings s holds (operator.Like p) e t = only_if (is_string t.ty) (as_type (kind.boolean Any))
unary_row settings s holds (operator.Is n) e t = option_and_then (λ m. only_if (is_entity_type s n || is_action_type s n) (as_type (kind.boolean (known (bytes_eq m n))))) (entity_in t.ty)
unary_row settings s holds (operator.Construct x) e t = constructor_type settings x e t.ty
unary_row settings s holds operator.IsEmpty e t = option_and_then (λ m. as_type (kind.boolean Any)) (element_in t.ty)
unary_row settings s holds (operator.Call m) e t = unary_method_type m t.ty

-- The typing is what the rows of the operators on one operand give where these capabilities are held (Cedar documentation,
-- strict validation).
pub record IsUnaryRow (settings : Settings) (s : SchemaTree) (held : Capabilities) (op : UnaryOperator) (e : Expression) (t : Typed) (typing : Option Typed) : Type 0 where
  pub by_test : (holds : Capability → Bool) → TellsHeld holds held → typing ≡ unary_row settings s holds op e t

-- Known false for two entity types that differ, and None for others (Cedar documentation, strict validation: `==`).
abbrev pub apart : Option (List ℕ) → Option (List ℕ) → Option TypeTree
apart (Some m) (Some n) = only_if (not (bytes_eq m n)) (Some (kind.boolean False))
apart _ _ = None

-- Any Boolean where there is a join, and else the second answer (own).
abbrev pub any_or : Option TypeTree → Option TypeTree → Option TypeTree
any_or (Some v) r = Some (kind.boolean Any)
any_or None r = r

-- The row of `==` for two literals: their values say what is known (Cedar documentation, strict validation: `==`).
abbrev pub equal_literal_type : Expression → Expression → Option TypeTree
equal_literal_type (literal v) (literal x) = Some (kind.boolean (known (same v x)))
equal_literal_type _ _ = None

-- The row of `==`: two literals are known, types that join give any Boolean, two entity types that differ false (Cedar
-- documentation, strict validation: `==`).
abbrev pub equal_type : Expression → Expression → TypeTree → TypeTree → Option TypeTree
equal_type a b t u = cond (two_literals a b) (equal_literal_type a b) (any_or (join t u) (apart (entity_in t) (entity_in u)))

-- Any Boolean where the test holds, and else known false (own).
abbrev pub any_if : Bool → Truth
any_if true = Any
any_if false = False

-- Whether an expression is the literal of a declared action (Cedar documentation, strict validation: `in`).
abbrev pub names_action : SchemaTree → Expression → Bool
names_action s (literal (uid u)) = is_action s u
names_action s _ = false

-- Whether an action is the other, or descends from it (Cedar language reference, `in`).
abbrev pub is_or_descends : SchemaTree → Uid → Uid → Bool
is_or_descends s u v = same_uid u v || action_below s u v

-- Whether the action that is written is one of the uids, or descends from one (Cedar language reference, `in`).
abbrev pub is_in_written : SchemaTree → Expression → Option (List Uid) → Bool
is_in_written s (literal (uid u)) (Some vs) = list_any (is_or_descends s u) vs
is_in_written s _ _ = false

-- What is known of `in`, from its operands as written and from their entity types (Cedar documentation, strict validation:
-- `in`).
abbrev pub in_truth : SchemaTree → Expression → Expression → List ℕ → List ℕ → Truth
in_truth s a b m n = cond (names_action s a && is_some (written_uids b)) (known (is_in_written s a (written_uids b))) (any_if (bytes_eq m n || type_below s m n))

-- Any Boolean, where there is an answer (own).
abbrev pub any_where : Option TypeTree → Option TypeTree
any_where r = option_map (λ v. kind.boolean Any) r

-- The row of `containsAll` and `containsAny`: any Boolean for two sets whose members' types join (Cedar documentation, strict
-- validation: set operators).
abbrev pub sets_type : TypeTree → TypeTree → Option TypeTree
sets_type t u = option_and_then (λ m. option_and_then (λ n. any_where (join m n)) (element_in u)) (element_in t)

-- This type, for two whole numbers (Cedar documentation, strict validation: arithmetic).
abbrev pub longs_type : TypeTree → TypeTree → TypeTree → Option TypeTree
longs_type v t u = only_if (is_long t && is_long u) (Some v)

-- Whether `<` and `<=` compare values of the two types: two whole numbers, two datetimes or two durations (Cedar language reference,
-- comparison operators).
abbrev pub compares : TypeTree → TypeTree → Bool
compares kind.long u = is_long u
compares (kind.extension x) u = is_ordered x && is_extension x u
compares _ u = false

-- The row of `<` and `<=`: any Boolean, for types whose values they compare (Cedar documentation, strict validation: comparison).
abbrev pub comparison_type : TypeTree → TypeTree → Option TypeTree
comparison_type t u = only_if (compares t u) (Some (kind.boolean Any))

-- The type of what a method gives, for operands of the types that its row takes (Cedar documentation, strict validation:
-- extension functions).
abbrev pub method_type : BinaryMethod → TypeTree → TypeTree → Option TypeTree
method_type m t u = only_if (is_extension (row_of m).left t && is_extension (row_of m).right u) (Some (type_of_scalar (row_of m).result))

-- The rows of the operators on two operands, given their expressions and their types (Cedar documentation, strict validation).
abbrev pub binary_type : SchemaTree → BinaryOperator → Expression → Expression → TypeTree → TypeTree → Option TypeTree
binary_type s binary_operator.Equal a b t u = equal_type a b t u
binary_type s binary_operator.Less a b t u = comparison_type t u
binary_type s binary_operator.LessEqual a b t u = comparison_type t u
binary_type s binary_operator.Add a b t u = longs_type kind.long t u
binary_type s binary_operator.Subtract a b t u = longs_type kind.long t u
binary_type s binary_operator.Multiply a b t u = longs_type kind.long t u
binary_type s binary_operator.In a b t u = option_and_then (λ m. option_and_then (λ n. Some (kind.boolean (in_truth s a b m n))) (target_in u)) (entity_in t)
binary_type s binary_operator.Contains a b t u = option_and_then (λ m. any_where (join m u)) (element_in t)
binary_type s binary_operator.ContainsAll a b t u = sets_type t u
binary_type s binary_operator.ContainsAny a b t u = sets_type t u
binary_type s (binary_operator.Call m) a b t u = method_type m t u
