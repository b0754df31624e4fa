-- Strict typing, rule by rule (Cedar documentation, strict validation; cedar-spec, Lean: Cedar.Validation, typechecker).
use Rattle.std.specs.Prelude.{◌≡◌, ◌≢◌, ℕ, ℤ, Bool, true, false, ◌&&◌, List, [], ◌∷◌, Option, Some, None, Contains, IsSome, ◌⊎◌}
use Rattle.std.specs.Bool.{Decides}
use Rattle.std.specs.Str.{bytes_eq}
use Rattle.cedar_ext.specs.declared.extension.Extension.{Extension}
use Rattle.cedar_ext.specs.declared.extension.ExtensionType.{ExtensionType}
use Rattle.cedar_ext.specs.declared.extension.ExtensionType.TheVariants as extension_type
use Rattle.cedar_ext.specs.declared.method.BinaryMethod.{BinaryMethod}
use Rattle.cedar_ext.specs.declared.pattern.Element.{Element}
use Rattle.cedar_ext.specs.declared.scalar.ScalarType.{ScalarType}
use Rattle.cedar_ext.specs.declared.scalar.ScalarType.TheVariants as scalar_type
use Rattle.cedar_ext.specs.declared.unary_method.UnaryMethod.{UnaryMethod}
use Rattle.cedar_ext.specs.Extensions.{extension_of}
use Rattle.cedar_ext.specs.UnaryMethods.{unary_row_of}
use Rattle.cedar_ext.specs.Methods.{row_of, is_ordered}
use Rattle.cedar_value.specs.Datum.{Datum, boolean, long, text, uid, same}
use Rattle.cedar_value.specs.declared.uid.Uid.{Uid}
use Rattle.cedar_ast_expressions.specs.declared.variable.Variable.TheVariants.{Principal, Resource, Context}
use Rattle.cedar_ast_expressions.specs.declared.operator.UnaryOperator.TheVariants as operator
use Rattle.cedar_ast_expressions.specs.declared.operator.BinaryOperator.{BinaryOperator}
use Rattle.cedar_ast_expressions.specs.declared.operator.BinaryOperator.TheVariants as binary_operator
use Rattle.cedar_ast_expressions.specs.Expression.{Expression, literal, variable, and, or, if_else, unary, binary, set_with, record_with, Expressions, no_more, and_then, Entries, no_entries, entry}
use Rattle.cedar_ast_expressions.specs.Keys.{AreDistinct, keys_in}
use Rattle.cedar_schema_types.specs.declared.truth.Truth.{Truth}
use Rattle.cedar_schema_types.specs.declared.truth.Truth.TheVariants.{True, False, Any}
use Rattle.cedar_schema_spec.specs.declared.environment.Environment.{Environment}
use Rattle.cedar_schema_types.specs.Types.{TypeTree, Attributes, no_attributes, is_record}
use Rattle.cedar_schema_types.specs.Types as kind
use Rattle.cedar_schema_types.specs.Joins.{Join}
use Rattle.cedar_schema_types.specs.Lookup.{attribute_at}
use Rattle.cedar_schema_types.specs.Ordered.{with_attribute}
use Rattle.cedar_schema_types.specs.declared.attribute.Attribute.{Attribute}
use Rattle.cedar_schema_spec.specs.SchemaTree.{SchemaTree, shape_of}
use Rattle.cedar_schema_spec.specs.Descents.{ActionDescends, TypeDescends}
use Rattle.cedar_schema_types.specs.Membership.{known}
use Rattle.cedar_schema_spec.specs.Declarations.{IsEntityType, IsEntity, IsAction, IsActionType}
use Rattle.cedar_check_spec.specs.Capabilities.{Capabilities, Has, IsUnion, IsCommon}
use Rattle.cedar_check_spec.specs.declared.settings.Settings.{Settings}

-- The attributes of an entity type's shape. A type to which the schema gives no shape, which is an action's, has none (Cedar
-- documentation, JSON schema format: shape).
abbrev pub shape_attributes : Option TypeTree → Option Attributes
shape_attributes None = Some no_attributes
shape_attributes (Some (kind.record_of a)) = Some a
shape_attributes (Some _) = None

-- The attributes that a record type declares, or those of the shape of an entity type. No other type has any (Cedar
-- documentation, strict validation: attribute access).
abbrev pub attributes_in : SchemaTree → TypeTree → Option Attributes
attributes_in s (kind.record_of a) = Some a
attributes_in s (kind.entity n) = shape_attributes (shape_of s n)
attributes_in s _ = None

-- What is known of `!e` from what is known of e (Cedar language reference, `!`).
abbrev pub flipped : Truth → Truth
flipped True = False
flipped False = True
flipped Any = Any

-- The Boolean is not known to be false (Cedar documentation, strict validation: `&&`).
abbrev pub MayHold : Truth → Type 0
MayHold False = ⊥
MayHold _ = Unit {0}

-- `+`, `-` and `*` (Cedar language reference, arithmetic operators).
abbrev pub is_arithmetic : BinaryOperator → Bool
is_arithmetic binary_operator.Add = true
is_arithmetic binary_operator.Subtract = true
is_arithmetic binary_operator.Multiply = true
is_arithmetic _ = false

-- `<` and `<=` (Cedar language reference, comparison operators).
abbrev pub is_comparison : BinaryOperator → Bool
is_comparison binary_operator.Less = true
is_comparison binary_operator.LessEqual = true
is_comparison _ = false

-- The type of what a method of an extension type gives, as validation has it (Cedar documentation, strict validation: extension
-- functions).
abbrev pub type_of_scalar : ScalarType → TypeTree
type_of_scalar scalar_type.Boolean = kind.boolean Any
type_of_scalar scalar_type.Long = kind.long
type_of_scalar (scalar_type.Extension x) = kind.extension x

-- Whether the settings have the constructor of a type take any string, and not literals alone: `any_decimal` has that of
-- decimals do so (own).
abbrev pub takes_any_string : Settings → ExtensionType → Bool
takes_any_string settings extension_type.Decimal = settings.any_decimal
takes_any_string settings _ = false

-- `containsAll` and `containsAny` (Cedar language reference, set operators).
abbrev pub is_set_comparison : BinaryOperator → Bool
is_set_comparison binary_operator.ContainsAll = true
is_set_comparison binary_operator.ContainsAny = true
is_set_comparison _ = false

-- Whether an expression is a literal (Cedar language reference, policy grammar: LITERAL).
abbrev pub is_literal : Expression → Bool
is_literal (literal v) = true
is_literal _ = false

-- Whether both expressions are literals (Cedar documentation, strict validation: `==`).
abbrev pub two_literals : Expression → Expression → Bool
two_literals a b = is_literal a && is_literal b

-- The uid that a literal writes, if it writes one (Cedar language reference, policy grammar: Entity).
abbrev pub one_uid : Expression → Option Uid
one_uid (literal (uid u)) = Some u
one_uid _ = None

-- The one uid before the others, where there are both (own).
abbrev pub joined_uids : Option Uid → Option (List Uid) → Option (List Uid)
joined_uids (Some u) (Some us) = Some (u ∷ us)
joined_uids _ _ = None

-- The uids of expressions that are all literal uids (Cedar language reference, policy grammar: Entity).
abbrev pub all_uids : Expressions → Option (List Uid)
all_uids no_more = Some []
all_uids (and_then e es) = joined_uids (one_uid e) (all_uids es)

-- The uids that are written on the right of `in`: one literal, or a set of literals (Cedar documentation, strict
-- validation: `in`).
abbrev pub written_uids : Expression → Option (List Uid)
written_uids (literal (uid u)) = Some (u ∷ [])
written_uids (set_with es) = all_uids es
written_uids _ = None

-- The expression is the literal of a declared action (Cedar documentation, strict validation: `in`).
abbrev pub NamesAction : SchemaTree → Expression → Type 0
NamesAction s (literal (uid u)) = IsAction s u
NamesAction s _ = ⊥

-- The one is the literal of a declared action, and the other writes uids (Cedar documentation, strict validation: `in`).
abbrev pub AreWritten : SchemaTree → Expression → Expression → Type 0
AreWritten s a b = NamesAction s a × IsSome (written_uids b)

-- The action is one of these, or descends from one according to the schema's links (Cedar language reference, `in`).
abbrev pub IsInOne : SchemaTree → Uid → List Uid → Type 0
IsInOne s u vs = (v : Uid) × Contains vs v × ((u ≡ v) ⊎ ActionDescends s u v)

-- The one type is the other, or descends from it (Cedar documentation, JSON schema format: memberOfTypes).
abbrev pub IsOrDescends : SchemaTree → List ℕ → List ℕ → Type 0
IsOrDescends s m n = (m ≡ n) ⊎ TypeDescends s m n

-- The type is one of entities of this name, or of sets of them (Cedar language reference, `in`).
pub data Target : TypeTree → List ℕ → Type 0 where
  one_entity : {n : List ℕ} → Target (kind.entity n) n
  entity_set : {n : List ℕ} → Target (kind.set (kind.entity n)) n

mutual
  -- Under these settings, in an environment of a schema, where these capabilities are held, the expression has the type and
  -- gains the capabilities, which hold where it is true. There is one rule for each row of the table of strict validation
  -- (Cedar documentation, strict validation; cedar-spec, Lean: Cedar.Validation, typechecker).
  pub data TypesWith (settings : Settings) (s : SchemaTree) (env : Environment) : Capabilities → Expression → TypeTree → Capabilities → Type 0 where
    -- a literal has its own type: what is known of a Boolean, whole numbers, strings
    of_boolean : {h : Capabilities} {b : Bool} → TypesWith settings s env h (literal (boolean b)) (kind.boolean (known b)) []
    of_long : {h : Capabilities} {n : ℤ} → TypesWith settings s env h (literal (long n)) kind.long []
    of_text : {h : Capabilities} {t : List ℕ} → TypesWith settings s env h (literal (text t)) kind.string []
    -- a uid has its entity type, which is declared and has it, or the uid is that of a declared action (Cedar RFC 53)
    of_uid : {h : Capabilities} {u : Uid} → IsEntity s u ⊎ IsAction s u → TypesWith settings s env h (literal (uid u)) (kind.entity u.ty) []
    -- the variables have the types of the environment; `action` has no rule, since its uid replaces it
    of_principal : {h : Capabilities} → TypesWith settings s env h (variable Principal) (kind.entity env.principal) []
    of_resource : {h : Capabilities} → TypesWith settings s env h (variable Resource) (kind.entity env.resource) []
    of_context : {h : Capabilities} → TypesWith settings s env h (variable Context) env.context []
    -- `!`: true becomes false, false becomes true, and any stays
    of_not : {h g : Capabilities} {e : Expression} {f : Truth} → TypesWith settings s env h e (kind.boolean f) g → TypesWith settings s env h (unary operator.Not e) (kind.boolean (flipped f)) []
    -- `&&`: after a left side that is known false nothing is typed; else the right side is typed where the gains of the left
    -- are held, and both gain where the right side is not known false
    and_false : {h g : Capabilities} {a b : Expression} → TypesWith settings s env h a (kind.boolean False) g → TypesWith settings s env h (and a b) (kind.boolean False) []
    and_then_false : {h ga gb hb : Capabilities} {a b : Expression} {f : Truth} → TypesWith settings s env h a (kind.boolean f) ga → MayHold f → IsUnion h ga hb → TypesWith settings s env hb b (kind.boolean False) gb → TypesWith settings s env h (and a b) (kind.boolean False) []
    and_then_true : {h ga gb hb g : Capabilities} {a b : Expression} {f : Truth} → TypesWith settings s env h a (kind.boolean f) ga → MayHold f → IsUnion h ga hb → TypesWith settings s env hb b (kind.boolean True) gb → IsUnion ga gb g → TypesWith settings s env h (and a b) (kind.boolean f) g
    and_then_any : {h ga gb hb g : Capabilities} {a b : Expression} {f : Truth} → TypesWith settings s env h a (kind.boolean f) ga → MayHold f → IsUnion h ga hb → TypesWith settings s env hb b (kind.boolean Any) gb → IsUnion ga gb g → TypesWith settings s env h (and a b) (kind.boolean Any) g
    -- `||`: after a left side that is known true nothing is typed; after one that is known false the right side decides; else
    -- the gains of both sides are gained
    or_true : {h g : Capabilities} {a b : Expression} → TypesWith settings s env h a (kind.boolean True) g → TypesWith settings s env h (or a b) (kind.boolean True) []
    or_false : {h ga gb : Capabilities} {a b : Expression} {f : Truth} → TypesWith settings s env h a (kind.boolean False) ga → TypesWith settings s env h b (kind.boolean f) gb → TypesWith settings s env h (or a b) (kind.boolean f) gb
    or_any_true : {h ga gb : Capabilities} {a b : Expression} → TypesWith settings s env h a (kind.boolean Any) ga → TypesWith settings s env h b (kind.boolean True) gb → TypesWith settings s env h (or a b) (kind.boolean True) []
    or_any_false : {h ga gb : Capabilities} {a b : Expression} → TypesWith settings s env h a (kind.boolean Any) ga → TypesWith settings s env h b (kind.boolean False) gb → TypesWith settings s env h (or a b) (kind.boolean Any) ga
    or_any_any : {h ga gb g : Capabilities} {a b : Expression} → TypesWith settings s env h a (kind.boolean Any) ga → TypesWith settings s env h b (kind.boolean Any) gb → IsCommon ga gb g → TypesWith settings s env h (or a b) (kind.boolean Any) g
    -- `if`: where the condition is known, only one branch is typed; else the branches join, and what both branches gain is
    -- gained
    if_true : {h gc gx hx g : Capabilities} {i x y : Expression} {t : TypeTree} → TypesWith settings s env h i (kind.boolean True) gc → IsUnion h gc hx → TypesWith settings s env hx x t gx → IsUnion gc gx g → TypesWith settings s env h (if_else i x y) t g
    if_false : {h gc gy : Capabilities} {i x y : Expression} {t : TypeTree} → TypesWith settings s env h i (kind.boolean False) gc → TypesWith settings s env h y t gy → TypesWith settings s env h (if_else i x y) t gy
    if_any : {h gc gx gy hx gcx g : Capabilities} {i x y : Expression} {t u v : TypeTree} → TypesWith settings s env h i (kind.boolean Any) gc → IsUnion h gc hx → TypesWith settings s env hx x t gx → TypesWith settings s env h y u gy → Join t u v → IsUnion gc gx gcx → IsCommon gcx gy g → TypesWith settings s env h (if_else i x y) v g
    -- negation, `+`, `-` and `*`: whole numbers of whole numbers
    of_negative : {h g : Capabilities} {e : Expression} → TypesWith settings s env h e kind.long g → TypesWith settings s env h (unary operator.Negate e) kind.long []
    of_arithmetic : {h ga gb : Capabilities} {a b : Expression} {op : BinaryOperator} → is_arithmetic op ≡ true → TypesWith settings s env h a kind.long ga → TypesWith settings s env h b kind.long gb → TypesWith settings s env h (binary op a b) kind.long []
    -- `<` and `<=`: any Boolean, of whole numbers
    of_comparison : {h ga gb : Capabilities} {a b : Expression} {op : BinaryOperator} → is_comparison op ≡ true → TypesWith settings s env h a kind.long ga → TypesWith settings s env h b kind.long gb → TypesWith settings s env h (binary op a b) (kind.boolean Any) []
    -- and of two datetimes or two durations
    of_ordered : {h ga gb : Capabilities} {a b : Expression} {op : BinaryOperator} {x : ExtensionType} → is_comparison op ≡ true → is_ordered x ≡ true → TypesWith settings s env h a (kind.extension x) ga → TypesWith settings s env h b (kind.extension x) gb → TypesWith settings s env h (binary op a b) (kind.boolean Any) []
    -- `==`: of two literals it is known; else any Boolean where the types join, and known false of two entity types
    equal_literals : {h ga gb : Capabilities} {v w : Datum} {t u : TypeTree} → TypesWith settings s env h (literal v) t ga → TypesWith settings s env h (literal w) u gb → TypesWith settings s env h (binary binary_operator.Equal (literal v) (literal w)) (kind.boolean (known (same v w))) []
    equal_joined : {h ga gb : Capabilities} {a b : Expression} {t u v : TypeTree} → two_literals a b ≡ false → TypesWith settings s env h a t ga → TypesWith settings s env h b u gb → Join t u v → TypesWith settings s env h (binary binary_operator.Equal a b) (kind.boolean Any) []
    equal_apart : {h ga gb : Capabilities} {a b : Expression} {m n : List ℕ} → two_literals a b ≡ false → TypesWith settings s env h a (kind.entity m) ga → TypesWith settings s env h b (kind.entity n) gb → m ≢ n → TypesWith settings s env h (binary binary_operator.Equal a b) (kind.boolean False) []
    -- `has`: false of an attribute that is not declared, true of one that is held or that a record type requires, and else
    -- gained
    has_none : {h g : Capabilities} {e : Expression} {t : TypeTree} {at : Attributes} {a : List ℕ} → TypesWith settings s env h e t g → attributes_in s t ≡ Some at → attribute_at a at ≡ None → TypesWith settings s env h (unary (operator.Has a) e) (kind.boolean False) []
    has_held : {h g : Capabilities} {e : Expression} {t : TypeTree} {at : Attributes} {a : List ℕ} {d : Attribute} → TypesWith settings s env h e t g → attributes_in s t ≡ Some at → attribute_at a at ≡ Some d → Has (record { on = e; key = a }) h → TypesWith settings s env h (unary (operator.Has a) e) (kind.boolean True) []
    has_required : {h g : Capabilities} {e : Expression} {at : Attributes} {a : List ℕ} {d : Attribute} → TypesWith settings s env h e (kind.record_of at) g → attribute_at a at ≡ Some d → d.required ≡ true → TypesWith settings s env h (unary (operator.Has a) e) (kind.boolean True) []
    has_any : {h g : Capabilities} {e : Expression} {t : TypeTree} {at : Attributes} {a : List ℕ} {d : Attribute} → TypesWith settings s env h e t g → attributes_in s t ≡ Some at → attribute_at a at ≡ Some d → ¬ Has (record { on = e; key = a }) h → (is_record t ≡ false) ⊎ (d.required ≡ false) → TypesWith settings s env h (unary (operator.Has a) e) (kind.boolean Any) (record { on = e; key = a } ∷ [])
    -- `.`: the attribute's type, where it is required or held
    of_get : {h g : Capabilities} {e : Expression} {t : TypeTree} {at : Attributes} {a : List ℕ} {d : Attribute} → TypesWith settings s env h e t g → attributes_in s t ≡ Some at → attribute_at a at ≡ Some d → (d.required ≡ true) ⊎ Has (record { on = e; key = a }) h → TypesWith settings s env h (unary (operator.Get a) e) d.ty []
    -- `like`: any Boolean, of a string
    of_like : {h g : Capabilities} {e : Expression} {p : List Element} → TypesWith settings s env h e kind.string g → TypesWith settings s env h (unary (operator.Like p) e) (kind.boolean Any) []
    -- `is`: known by the entity's type; the name is that of a declared entity type or of the type of a declared action
    of_is : {h g : Capabilities} {e : Expression} {m n : List ℕ} → TypesWith settings s env h e (kind.entity m) g → IsEntityType s n ⊎ IsActionType s n → TypesWith settings s env h (unary (operator.Is n) e) (kind.boolean (known (bytes_eq m n))) []
    -- `in`: of a declared action and of uids that are written, the schema's links say what is known; else any Boolean where the
    -- one type is or descends from the other, and known false where not
    in_written : {h ga gb : Capabilities} {u : Uid} {b : Expression} {m n : List ℕ} {v : TypeTree} {us : List Uid} {r : Bool} → TypesWith settings s env h (literal (uid u)) (kind.entity m) ga → TypesWith settings s env h b v gb → Target v n → IsAction s u → written_uids b ≡ Some us → Decides r (IsInOne s u us) → TypesWith settings s env h (binary binary_operator.In (literal (uid u)) b) (kind.boolean (known r)) []
    in_related : {h ga gb : Capabilities} {a b : Expression} {m n : List ℕ} {v : TypeTree} → TypesWith settings s env h a (kind.entity m) ga → TypesWith settings s env h b v gb → Target v n → ¬ AreWritten s a b → IsOrDescends s m n → TypesWith settings s env h (binary binary_operator.In a b) (kind.boolean Any) []
    in_unrelated : {h ga gb : Capabilities} {a b : Expression} {m n : List ℕ} {v : TypeTree} → TypesWith settings s env h a (kind.entity m) ga → TypesWith settings s env h b v gb → Target v n → ¬ AreWritten s a b → ¬ IsOrDescends s m n → TypesWith settings s env h (binary binary_operator.In a b) (kind.boolean False) []
    -- `contains`, `containsAll`, `containsAny`: any Boolean, where the types of the members join
    of_contains : {h ga gb : Capabilities} {a b : Expression} {t u v : TypeTree} → TypesWith settings s env h a (kind.set t) ga → TypesWith settings s env h b u gb → Join t u v → TypesWith settings s env h (binary binary_operator.Contains a b) (kind.boolean Any) []
    of_set_comparison : {h ga gb : Capabilities} {a b : Expression} {t u v : TypeTree} {op : BinaryOperator} → is_set_comparison op ≡ true → TypesWith settings s env h a (kind.set t) ga → TypesWith settings s env h b (kind.set u) gb → Join t u v → TypesWith settings s env h (binary op a b) (kind.boolean Any) []
    -- `isEmpty`: any Boolean, of a set
    of_is_empty : {h g : Capabilities} {e : Expression} {t : TypeTree} → TypesWith settings s env h e (kind.set t) g → TypesWith settings s env h (unary operator.IsEmpty e) (kind.boolean Any) []
    -- a set: its members join; an empty set has no type
    of_set : {h g : Capabilities} {e : Expression} {es : Expressions} {t v : TypeTree} → TypesWith settings s env h e t g → JoinsOnto settings s env h t es v → TypesWith settings s env h (set_with (and_then e es)) (kind.set v) []
    -- a record: each key is required, with its value's type
    of_record : {h : Capabilities} {fs : Entries} {at : Attributes} → AreDistinct (keys_in fs) → AddsOnto settings s env h no_attributes fs at → TypesWith settings s env h (record_with fs) (kind.record_of at) []
    -- a constructor of an extension type, such as `decimal`: of one string literal that writes a value of the type
    of_constructor : {h : Capabilities} {x : ExtensionType} {t : List ℕ} {v : Extension} → extension_of x t ≡ Some v → TypesWith settings s env h (unary (operator.Construct x) (literal (text t))) (kind.extension x) []
    -- where the settings speak of it, also of any string that is not written as a literal
    of_any_string : {h g : Capabilities} {x : ExtensionType} {e : Expression} → takes_any_string settings x ≡ true → is_literal e ≡ false → TypesWith settings s env h e kind.string g → TypesWith settings s env h (unary (operator.Construct x) e) (kind.extension x) []
    -- a method of an extension type that takes no argument, such as `isLoopback`: what its row gives, of an operand of the type
    -- that its row takes
    of_unary_method : {h g : Capabilities} {e : Expression} {m : UnaryMethod} → TypesWith settings s env h e (kind.extension (unary_row_of m).operand) g → TypesWith settings s env h (unary (operator.Call m) e) (type_of_scalar (unary_row_of m).result) []
    -- a method that takes one argument, such as `lessThan`: what its row gives, of operands of the types that its row takes
    of_method : {h ga gb : Capabilities} {a b : Expression} {m : BinaryMethod} → TypesWith settings s env h a (kind.extension (row_of m).left) ga → TypesWith settings s env h b (kind.extension (row_of m).right) gb → TypesWith settings s env h (binary (binary_operator.Call m) a b) (type_of_scalar (row_of m).result) []

  -- The type of the members so far joins with that of each further one, from the left (Cedar documentation, strict
  -- validation: sets).
  pub data JoinsOnto (settings : Settings) (s : SchemaTree) (env : Environment) : Capabilities → TypeTree → Expressions → TypeTree → Type 0 where
    joined_all : {h : Capabilities} {t : TypeTree} → JoinsOnto settings s env h t no_more t
    joined_more : {h g : Capabilities} {e : Expression} {es : Expressions} {t u v w : TypeTree} → TypesWith settings s env h e u g → Join t u v → JoinsOnto settings s env h v es w → JoinsOnto settings s env h t (and_then e es) w

  -- Each key comes in, required, with its value's type (Cedar documentation, strict validation: records).
  pub data AddsOnto (settings : Settings) (s : SchemaTree) (env : Environment) : Capabilities → Attributes → Entries → Attributes → Type 0 where
    added_all : {h : Capabilities} {at : Attributes} → AddsOnto settings s env h at no_entries at
    added_more : {h g : Capabilities} {k : List ℕ} {e : Expression} {fs : Entries} {t : TypeTree} {at more : Attributes} → TypesWith settings s env h e t g → AddsOnto settings s env h (with_attribute k true t at) fs more → AddsOnto settings s env h at (entry k e fs) more
