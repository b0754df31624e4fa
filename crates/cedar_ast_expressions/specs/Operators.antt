-- What each operator gives for the values of its operands (Cedar language reference, operators).
use Rattle.std.specs.Prelude.{ℕ, ℤ, pos, negsuc, ◌+ℤ◌, ◌-ℤ◌, ◌*ℤ◌, Bool, true, false, not, ◌&&◌, ◌||◌, if◌then◌else◌, int_lt, int_le, List, [], ◌∷◌, Option, Some, None, is_some, Result, Ok, Err}
use Rattle.std.specs.List.{list_all, list_any}
use Rattle.std.specs.Str.{bytes_eq, chars}
use Rattle.cedar_ext.specs.declared.extension.Extension.{Extension}
use Rattle.cedar_ext.specs.declared.extension.ExtensionType.{ExtensionType}
use Rattle.cedar_ext.specs.declared.method.BinaryMethod.{BinaryMethod}
use Rattle.cedar_ext.specs.declared.method_error.MethodError.{MethodError}
use Rattle.cedar_ext.specs.declared.method_error.MethodError.TheVariants as method_error
use Rattle.cedar_ext.specs.declared.scalar.Scalar.{Scalar}
use Rattle.cedar_ext.specs.declared.scalar.Scalar.TheVariants as scalar
use Rattle.cedar_ext.specs.declared.unary_method.UnaryMethod.{UnaryMethod}
use Rattle.cedar_ext.specs.Extensions.{extension_of}
use Rattle.cedar_ext.specs.Matching.{is_match}
use Rattle.cedar_ext.specs.Methods.{call_of, ordered_of}
use Rattle.cedar_ext.specs.UnaryMethods.{unary_call_of}
use Rattle.cedar_value.specs.Datum.{Datum, boolean, long, text, uid, set, record_of, extension, same, same_uid, list_of, pairs_of}
use Rattle.cedar_value.specs.Sets.{has_member}
use Rattle.cedar_value.specs.Records.{value_at}
use Rattle.cedar_value.specs.World.{World, attributes_of, below}
use Rattle.cedar_value.specs.declared.uid.Uid.{Uid}
use Rattle.cedar_ast_expressions.specs.declared.operator.UnaryOperator.{UnaryOperator}
use Rattle.cedar_ast_expressions.specs.declared.operator.UnaryOperator.TheVariants as operator
use Rattle.cedar_ast_expressions.specs.declared.operator.BinaryOperator.{BinaryOperator}
use Rattle.cedar_ast_expressions.specs.declared.operator.BinaryOperator.TheVariants as binary_operator
use Rattle.cedar_ast_expressions.specs.declared.error.EvaluationError.TheVariants as error
use Rattle.cedar_ast_expressions.specs.Answer.{Answer}

-- Whether a number is one of 64 bits (Cedar language reference, data types, Long).
abbrev pub is_long : ℤ → Bool
is_long n = not (int_lt n (negsuc 9223372036854775807)) && int_lt n (pos 9223372036854775808)

-- A number of 64 bits, else the error overflow (Cedar language reference, operators).
abbrev pub long_or_overflow : ℤ → Answer Datum
long_or_overflow n = if is_long n then Ok (long n) else Err error.Overflow

-- `!`, which takes a Boolean (Cedar language reference, operators, `!`).
abbrev pub not_of : Datum → Answer Datum
not_of (boolean b) = Ok (boolean (not b))
not_of _ = Err error.«Type»

-- `-` of one operand, which takes a number (Cedar language reference, operators, unary `-`).
abbrev pub negative_of : Datum → Answer Datum
negative_of (long n) = long_or_overflow (pos 0 -ℤ n)
negative_of _ = Err error.«Type»

-- Where attributes are looked for: nowhere in a value without attributes, in an entity that is absent, or
-- in these keys with their values (Cedar language reference, operators, `has` and `.`).
pub data Source : Type 0 where
  no_source : Source
  absent : Source
  present : List (List ℕ × Datum) → Source

-- Where the attributes of an entity are looked for (Cedar language reference, operators, `has` and `.`).
abbrev pub entity_source : Option (List (List ℕ × Datum)) → Source
entity_source None = absent
entity_source (Some ps) = present ps

-- Where the attributes of a value are looked for (Cedar language reference, operators, `has` and `.`).
abbrev pub source : World → Datum → Source
source w (record_of fs) = present (pairs_of fs)
source w (uid u) = entity_source (attributes_of w u)
source w _ = no_source

-- `has`: an absent entity has no attributes (Cedar language reference, operators, `has`).
abbrev pub has_in : List ℕ → Source → Answer Datum
has_in a no_source = Err error.«Type»
has_in a absent = Ok (boolean false)
has_in a (present ps) = Ok (boolean (is_some (value_at a ps)))

-- The value of an attribute, where it is there, else the error missing attribute (Cedar language reference, operators,
-- `.`).
abbrev pub attribute_of : Option Datum → Answer Datum
attribute_of None = Err error.MissingAttribute
attribute_of (Some v) = Ok v

-- Access: an absent entity gives one error, and an absent attribute another (Cedar language reference, operators, `.`).
abbrev pub get_in : List ℕ → Source → Answer Datum
get_in a no_source = Err error.«Type»
get_in a absent = Err error.MissingEntity
get_in a (present ps) = attribute_of (value_at a ps)

-- `like`, which takes a string (Cedar language reference, operators, `like`).
abbrev pub like_of : Datum → (List ℕ → Bool) → Answer Datum
like_of (text s) matches = Ok (boolean (matches (chars s)))
like_of _ matches = Err error.«Type»

-- `is`, which takes an entity (Cedar language reference, operators, `is`).
abbrev pub is_of : List ℕ → Datum → Answer Datum
is_of ty (uid u) = Ok (boolean (bytes_eq u.ty ty))
is_of ty _ = Err error.«Type»

-- A value of an extension type, else the error decimal (Cedar language reference, functions).
abbrev pub extension_or_error : Option Extension → Answer Datum
extension_or_error None = Err error.Decimal
extension_or_error (Some e) = Ok (extension e)

-- The constructor of an extension type, which takes a string that writes a value of the type (Cedar language reference, functions).
abbrev pub constructed : ExtensionType → Datum → Answer Datum
constructed t (text s) = extension_or_error (extension_of t s)
constructed t _ = Err error.«Type»

-- The test's answer for a set, else the error type (Cedar language reference, set operators).
abbrev pub of_set : (List Datum → Bool) → Datum → Answer Datum
of_set f (set ms) = Ok (boolean (f (list_of ms)))
of_set f _ = Err error.«Type»

-- Whether there is no member (Cedar language reference, set operators, `isEmpty`).
abbrev pub is_empty : List Datum → Bool
is_empty [] = true
is_empty (d ∷ ds) = false

-- The value that a method of an extension type gives (Cedar language reference, functions).
abbrev pub datum_of_scalar : Scalar → Datum
datum_of_scalar (scalar.Boolean b) = boolean b
datum_of_scalar (scalar.Long n) = long n
datum_of_scalar (scalar.Extension e) = extension e

-- What a method of an extension type gives, or its error (Cedar language reference, functions).
abbrev pub scalar_or_error : Result Scalar MethodError → Answer Datum
scalar_or_error (Ok v) = Ok (datum_of_scalar v)
scalar_or_error (Err method_error.«Type») = Err error.«Type»
scalar_or_error (Err method_error.Overflow) = Err error.Overflow

-- A method of an extension type that takes no argument (Cedar language reference, functions).
abbrev pub called_alone : UnaryMethod → Datum → Answer Datum
called_alone m (extension e) = scalar_or_error (unary_call_of m e)
called_alone m _ = Err error.«Type»

-- An operator's answer for its operand (Cedar language reference, operators).
abbrev pub unary_of : World → UnaryOperator → Datum → Answer Datum
unary_of w operator.Not x = not_of x
unary_of w operator.Negate x = negative_of x
unary_of w (operator.Has a) x = has_in a (source w x)
unary_of w (operator.Get a) x = get_in a (source w x)
unary_of w (operator.Like p) x = like_of x (is_match p)
unary_of w (operator.Is ty) x = is_of ty x
unary_of w (operator.Construct t) x = constructed t x
unary_of w operator.IsEmpty x = of_set is_empty x
unary_of w (operator.Call m) x = called_alone m x

-- The operation's answer for two numbers, else the error type (Cedar language reference, operators).
abbrev pub of_longs : (ℤ → ℤ → Answer Datum) → Datum → Datum → Answer Datum
of_longs f (long m) (long n) = f m n
of_longs f _ _ = Err error.«Type»

-- `<` or `<=`, by a test: of two numbers, two datetimes or two durations, else the error type (Cedar language reference, comparison
-- operators).
abbrev pub compared : (ℤ → ℤ → Bool) → Datum → Datum → Answer Datum
compared f (long m) (long n) = Ok (boolean (f m n))
compared f (extension a) (extension b) = scalar_or_error (ordered_of f a b)
compared f _ _ = Err error.«Type»

-- A method of an extension type, which takes two values of extension types (Cedar language reference, functions).
abbrev pub called : BinaryMethod → Datum → Datum → Answer Datum
called m (extension a) (extension b) = scalar_or_error (call_of m a b)
called m _ _ = Err error.«Type»

-- The test's answer for two sets, else the error type (Cedar language reference, set operators).
abbrev pub of_sets : (List Datum → List Datum → Bool) → Datum → Datum → Answer Datum
of_sets f (set ms) (set ns) = Ok (boolean (f (list_of ms) (list_of ns)))
of_sets f _ _ = Err error.«Type»

-- Whether a value is a uid (Cedar language reference, operators, `in`).
abbrev pub is_uid : Datum → Bool
is_uid (uid u) = true
is_uid _ = false

-- Whether an entity is in a value: the value is the entity itself, or one above it (Cedar language reference, operators,
-- `in`).
abbrev pub is_in : World → Uid → Datum → Bool
is_in w u (uid v) = same_uid u v || below w u v
is_in w u _ = false

-- `in`: in an entity, or in one of a set, all of whose members must be entities (Cedar language reference, operators, `in`).
abbrev pub in_of : World → Datum → Datum → Answer Datum
in_of w (uid u) (uid v) = Ok (boolean (is_in w u (uid v)))
in_of w (uid u) (set ms) =
    if list_all is_uid (list_of ms) then Ok (boolean (list_any (is_in w u) (list_of ms))) else Err error.«Type»
in_of w _ _ = Err error.«Type»

-- An operator's answer for its operands (Cedar language reference, operators).
abbrev pub binary_of : World → BinaryOperator → Datum → Datum → Answer Datum
binary_of w binary_operator.Equal x y = Ok (boolean (same x y))
binary_of w binary_operator.Less x y = compared int_lt x y
binary_of w binary_operator.LessEqual x y = compared int_le x y
binary_of w binary_operator.Add x y = of_longs (λ m n. long_or_overflow (m +ℤ n)) x y
binary_of w binary_operator.Subtract x y = of_longs (λ m n. long_or_overflow (m -ℤ n)) x y
binary_of w binary_operator.Multiply x y = of_longs (λ m n. long_or_overflow (m *ℤ n)) x y
binary_of w binary_operator.In x y = in_of w x y
binary_of w binary_operator.Contains x y = of_set (λ ms. has_member ms y) x
binary_of w binary_operator.ContainsAll x y = of_sets (λ ms ns. list_all (has_member ms) ns) x y
binary_of w binary_operator.ContainsAny x y = of_sets (λ ms ns. list_any (has_member ms) ns) x y
binary_of w (binary_operator.Call m) x y = called m x y
