-- The table of the methods of extension types that take one argument: how each is written, the types of its operands and of its
-- result, and what it gives; and what `<` and `<=` give (Cedar language reference, functions, comparison operators).
use Rattle.std.specs.Prelude.{◌≡◌, ℕ, ℤ, ◌+ℤ◌, ◌-ℤ◌, Bool, true, false, int_lt, int_le, List, Option, Some, None, Result, Ok, Err, codes, if◌then◌else◌}
use Rattle.std.specs.Str.{bytes_eq}
use Rattle.cedar_ext_ip.specs.Ranges.{is_within}
use Rattle.cedar_ext_time.specs.Longs.{long_of}
use Rattle.cedar_ext.specs.declared.extension.Extension.{Extension}
use Rattle.cedar_ext.specs.declared.extension.Extension.TheVariants.{Decimal, Ip, Datetime, Duration}
use Rattle.cedar_ext.specs.declared.extension.ExtensionType.{ExtensionType}
use Rattle.cedar_ext.specs.declared.extension.ExtensionType.TheVariants as type
use Rattle.cedar_ext.specs.declared.language.Language.{Language}
use Rattle.cedar_ext.specs.declared.method.BinaryMethod.{BinaryMethod}
use Rattle.cedar_ext.specs.declared.method.BinaryMethod.TheVariants.{LessThan, LessThanOrEqual, GreaterThan, GreaterThanOrEqual, IsInRange, Offset, DurationSince}
use Rattle.cedar_ext.specs.declared.method.Row.{Row}
use Rattle.cedar_ext.specs.declared.method_error.MethodError.{MethodError}
use Rattle.cedar_ext.specs.declared.method_error.MethodError.TheVariants.{«Type», Overflow}
use Rattle.cedar_ext.specs.declared.scalar.Scalar.{Scalar}
use Rattle.cedar_ext.specs.declared.scalar.Scalar.TheVariants as scalar
use Rattle.cedar_ext.specs.declared.scalar.ScalarType.{ScalarType}
use Rattle.cedar_ext.specs.declared.scalar.ScalarType.TheVariants as scalar_type
use Rattle.cedar_ext.specs.Extensions.{has_type, type_of}

-- How a method is written (Cedar language reference, functions).
abbrev pub method_name : BinaryMethod → List ℕ
method_name LessThan = codes "lessThan"
method_name LessThanOrEqual = codes "lessThanOrEqual"
method_name GreaterThan = codes "greaterThan"
method_name GreaterThanOrEqual = codes "greaterThanOrEqual"
method_name IsInRange = codes "isInRange"
method_name Offset = codes "offset"
method_name DurationSince = codes "durationSince"

-- The method that is written like this (Cedar language reference, functions).
abbrev pub method_named : List ℕ → Option BinaryMethod
method_named name =
    if bytes_eq name (codes "lessThan") then Some LessThan
    else (if bytes_eq name (codes "lessThanOrEqual") then Some LessThanOrEqual
    else (if bytes_eq name (codes "greaterThan") then Some GreaterThan
    else (if bytes_eq name (codes "greaterThanOrEqual") then Some GreaterThanOrEqual
    else (if bytes_eq name (codes "isInRange") then Some IsInRange
    else (if bytes_eq name (codes "offset") then Some Offset
    else (if bytes_eq name (codes "durationSince") then Some DurationSince else None))))))

-- The row of a comparison of decimals, which gives a Boolean (Cedar language reference, decimal).
abbrev pub decimal_row : Row
decimal_row = record { left = type.Decimal; right = type.Decimal; result = scalar_type.Boolean }

-- The types of a method (Cedar language reference, decimal, ip, datetime).
abbrev pub row_of : BinaryMethod → Row
row_of LessThan = decimal_row
row_of LessThanOrEqual = decimal_row
row_of GreaterThan = decimal_row
row_of GreaterThanOrEqual = decimal_row
row_of IsInRange = record { left = type.Ip; right = type.Ip; result = scalar_type.Boolean }
row_of Offset = record { left = type.Datetime; right = type.Duration; result = scalar_type.Extension type.Datetime }
row_of DurationSince = record { left = type.Datetime; right = type.Datetime; result = scalar_type.Extension type.Duration }

-- Whether a language has the method: where it has the type of the operand before the point (Cedar language reference, functions).
abbrev pub has_method : Language → BinaryMethod → Bool
has_method language m = has_type language (row_of m).left

-- A value of an extension type by its number, else the error overflow (Cedar language reference, functions).
abbrev pub value_or_overflow : (ℤ → Extension) → Option ℤ → Result Scalar MethodError
value_or_overflow f (Some z) = Ok (scalar.Extension (f z))
value_or_overflow f None = Err Overflow

-- The test's answer for two decimals, else the error type (Cedar language reference, decimal).
abbrev pub of_decimals : (ℤ → ℤ → Bool) → Extension → Extension → Result Scalar MethodError
of_decimals f (Decimal m) (Decimal n) = Ok (scalar.Boolean (f m n))
of_decimals f _ _ = Err «Type»

-- `isInRange`, of two IP addresses (Cedar language reference, ip).
abbrev pub within_of : Extension → Extension → Result Scalar MethodError
within_of (Ip a) (Ip range) = Ok (scalar.Boolean (is_within a range))
within_of _ _ = Err «Type»

-- `offset`, the sum of a datetime and a duration (Cedar language reference, datetime).
abbrev pub offset_of : Extension → Extension → Result Scalar MethodError
offset_of (Datetime m) (Duration d) = value_or_overflow Datetime (long_of (m +ℤ d))
offset_of _ _ = Err «Type»

-- `durationSince`, the difference of two datetimes (Cedar language reference, datetime).
abbrev pub since_of : Extension → Extension → Result Scalar MethodError
since_of (Datetime m) (Datetime n) = value_or_overflow Duration (long_of (m -ℤ n))
since_of _ _ = Err «Type»

-- What a method gives (Cedar language reference, functions; cedar-spec, Lean: Cedar.Spec.call).
abbrev pub call_of : BinaryMethod → Extension → Extension → Result Scalar MethodError
call_of LessThan x y = of_decimals int_lt x y
call_of LessThanOrEqual x y = of_decimals int_le x y
call_of GreaterThan x y = of_decimals int_lt y x
call_of GreaterThanOrEqual x y = of_decimals int_le y x
call_of IsInRange x y = within_of x y
call_of Offset x y = offset_of x y
call_of DurationSince x y = since_of x y

-- Whether `<` and `<=` compare values of the type (Cedar language reference, comparison operators).
abbrev pub is_ordered : ExtensionType → Bool
is_ordered type.Decimal = false
is_ordered type.Ip = false
is_ordered type.Datetime = true
is_ordered type.Duration = true

-- The test's answer for two datetimes or two durations, else the error type (Cedar language reference, comparison operators).
abbrev pub ordered_of : (ℤ → ℤ → Bool) → Extension → Extension → Result Scalar MethodError
ordered_of f (Datetime m) (Datetime n) = Ok (scalar.Boolean (f m n))
ordered_of f (Duration m) (Duration n) = Ok (scalar.Boolean (f m n))
ordered_of f _ _ = Err «Type»

-- ---- the laws of the table

-- What a method gives has the type (cedar-spec, Lean: Cedar.Validation, InstanceOfExtType).
abbrev pub HasType : ScalarType → Scalar → Type 0
HasType scalar_type.Boolean (scalar.Boolean b) = Unit {0}
HasType scalar_type.Long (scalar.Long n) = Unit {0}
HasType (scalar_type.Extension t) (scalar.Extension e) = type_of e ≡ t
HasType _ _ = ⊥

-- The method gives a value of the type, or the error overflow (cedar-spec, Lean: Cedar.Thm.Validation, extension functions).
abbrev pub Gives : ScalarType → Result Scalar MethodError → Type 0
Gives t (Ok v) = HasType t v
Gives t (Err Overflow) = Unit {0}
Gives t (Err «Type») = ⊥

-- Each method gives what its row says for operands of the types that its row says (cedar-spec, Lean: Cedar.Thm.Validation, extension
-- functions).
abbrev pub RowsAreTyped : Type 0
RowsAreTyped = (m : BinaryMethod) (x y : Extension) → type_of x ≡ (row_of m).left → type_of y ≡ (row_of m).right → Gives (row_of m).result (call_of m x y)

-- `<` and `<=` give a Boolean for two values of one type that they compare (cedar-spec, Lean: Cedar.Thm.Validation, extension functions).
abbrev pub OrderedAreTyped : Type 0
OrderedAreTyped = (f : ℤ → ℤ → Bool) (t : ExtensionType) (x y : Extension) → is_ordered t ≡ true → type_of x ≡ t → type_of y ≡ t → Gives scalar_type.Boolean (ordered_of f x y)
