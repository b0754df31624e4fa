-- The table of the methods of extension types that take no argument: how each is written, the types of its operand and of its
-- result, and what it gives (Cedar language reference, functions).
use Rattle.std.specs.Prelude.{◌≡◌, ℕ, ℤ, pos, int_div, Bool, List, Option, Some, None, Result, Ok, Err, codes, if◌then◌else◌}
use Rattle.std.specs.Str.{bytes_eq}
use Rattle.cedar_ext_ip.specs.Values.{IpValue}
use Rattle.cedar_ext_ip.specs.Ranges.{is_four, is_six, is_within, loopback_of, multicast_of}
use Rattle.cedar_ext_time.specs.Days.{midnight, time_of_day}
use Rattle.cedar_ext_time.specs.Longs.{long_of}
use Rattle.cedar_ext.specs.declared.extension.Extension.{Extension}
use Rattle.cedar_ext.specs.declared.extension.Extension.TheVariants.{Decimal, Ip, Datetime, Duration}
use Rattle.cedar_ext.specs.declared.extension.ExtensionType.TheVariants as type
use Rattle.cedar_ext.specs.declared.language.Language.{Language}
use Rattle.cedar_ext.specs.declared.method_error.MethodError.{MethodError}
use Rattle.cedar_ext.specs.declared.method_error.MethodError.TheVariants.{«Type»}
use Rattle.cedar_ext.specs.declared.scalar.Scalar.{Scalar}
use Rattle.cedar_ext.specs.declared.scalar.Scalar.TheVariants as scalar
use Rattle.cedar_ext.specs.declared.scalar.ScalarType.TheVariants as scalar_type
use Rattle.cedar_ext.specs.declared.unary_method.UnaryMethod.{UnaryMethod}
use Rattle.cedar_ext.specs.declared.unary_method.UnaryMethod.TheVariants.{IsIpv4, IsIpv6, IsLoopback, IsMulticast, ToDate, ToTime, ToMilliseconds, ToSeconds, ToMinutes, ToHours, ToDays}
use Rattle.cedar_ext.specs.declared.unary_method.UnaryRow.{UnaryRow}
use Rattle.cedar_ext.specs.Extensions.{has_type, type_of}
use Rattle.cedar_ext.specs.Methods.{value_or_overflow, Gives}

-- How a method is written (Cedar language reference, functions).
abbrev pub unary_name : UnaryMethod → List ℕ
unary_name IsIpv4 = codes "isIpv4"
unary_name IsIpv6 = codes "isIpv6"
unary_name IsLoopback = codes "isLoopback"
unary_name IsMulticast = codes "isMulticast"
unary_name ToDate = codes "toDate"
unary_name ToTime = codes "toTime"
unary_name ToMilliseconds = codes "toMilliseconds"
unary_name ToSeconds = codes "toSeconds"
unary_name ToMinutes = codes "toMinutes"
unary_name ToHours = codes "toHours"
unary_name ToDays = codes "toDays"

-- The method that is written like this (Cedar language reference, functions).
abbrev pub unary_named : List ℕ → Option UnaryMethod
unary_named name =
    if bytes_eq name (codes "isIpv4") then Some IsIpv4
    else (if bytes_eq name (codes "isIpv6") then Some IsIpv6
    else (if bytes_eq name (codes "isLoopback") then Some IsLoopback
    else (if bytes_eq name (codes "isMulticast") then Some IsMulticast
    else (if bytes_eq name (codes "toDate") then Some ToDate
    else (if bytes_eq name (codes "toTime") then Some ToTime
    else (if bytes_eq name (codes "toMilliseconds") then Some ToMilliseconds
    else (if bytes_eq name (codes "toSeconds") then Some ToSeconds
    else (if bytes_eq name (codes "toMinutes") then Some ToMinutes
    else (if bytes_eq name (codes "toHours") then Some ToHours
    else (if bytes_eq name (codes "toDays") then Some ToDays else None))))))))))

-- The row of a test of an IP address, which gives a Boolean (Cedar language reference, ip).
abbrev pub ip_row : UnaryRow
ip_row = record { operand = type.Ip; result = scalar_type.Boolean }

-- The row of a count of the units of a duration, which gives a whole number (Cedar language reference, duration).
abbrev pub duration_row : UnaryRow
duration_row = record { operand = type.Duration; result = scalar_type.Long }

-- The types of a method (Cedar language reference, ip, datetime, duration).
abbrev pub unary_row_of : UnaryMethod → UnaryRow
unary_row_of IsIpv4 = ip_row
unary_row_of IsIpv6 = ip_row
unary_row_of IsLoopback = ip_row
unary_row_of IsMulticast = ip_row
unary_row_of ToDate = record { operand = type.Datetime; result = scalar_type.Extension type.Datetime }
unary_row_of ToTime = record { operand = type.Datetime; result = scalar_type.Extension type.Duration }
unary_row_of ToMilliseconds = duration_row
unary_row_of ToSeconds = duration_row
unary_row_of ToMinutes = duration_row
unary_row_of ToHours = duration_row
unary_row_of ToDays = duration_row

-- Whether a language has the method: where it has the type of its operand (Cedar language reference, functions).
abbrev pub has_unary : Language → UnaryMethod → Bool
has_unary language m = has_type language (unary_row_of m).operand

-- What a method gives for an IP address (Cedar language reference, ip).
abbrev pub ip_call : UnaryMethod → IpValue → Result Scalar MethodError
ip_call IsIpv4 ip = Ok (scalar.Boolean (is_four ip.version))
ip_call IsIpv6 ip = Ok (scalar.Boolean (is_six ip.version))
ip_call IsLoopback ip = Ok (scalar.Boolean (is_within ip (loopback_of ip.version)))
ip_call IsMulticast ip = Ok (scalar.Boolean (is_within ip (multicast_of ip.version)))
ip_call _ ip = Err «Type»

-- What a method gives for a datetime: its day, which may be out of 64 bits, and the time of that day (Cedar language reference, datetime).
abbrev pub datetime_call : UnaryMethod → ℤ → Result Scalar MethodError
datetime_call ToDate z = value_or_overflow Datetime (long_of (midnight z))
datetime_call ToTime z = Ok (scalar.Extension (Duration (time_of_day z)))
datetime_call _ z = Err «Type»

-- What a method gives for a duration: its milliseconds, or its whole units, cut towards zero (Cedar language reference, duration).
abbrev pub duration_call : UnaryMethod → ℤ → Result Scalar MethodError
duration_call ToMilliseconds z = Ok (scalar.Long z)
duration_call ToSeconds z = Ok (scalar.Long (int_div z (pos 1000)))
duration_call ToMinutes z = Ok (scalar.Long (int_div z (pos 60000)))
duration_call ToHours z = Ok (scalar.Long (int_div z (pos 3600000)))
duration_call ToDays z = Ok (scalar.Long (int_div z (pos 86400000)))
duration_call _ z = Err «Type»

-- What a method gives for a value, the error type for another type (Cedar language reference, functions; cedar-spec, Lean: Cedar.Spec.call).
abbrev pub unary_call_of : UnaryMethod → Extension → Result Scalar MethodError
unary_call_of m (Decimal z) = Err «Type»
unary_call_of m (Ip ip) = ip_call m ip
unary_call_of m (Datetime z) = datetime_call m z
unary_call_of m (Duration z) = duration_call m z

-- Each method gives what its row says for an operand of the type that its row says (cedar-spec, Lean: Cedar.Thm.Validation, extension
-- functions).
abbrev pub UnaryRowsAreTyped : Type 0
UnaryRowsAreTyped = (m : UnaryMethod) (x : Extension) → type_of x ≡ (unary_row_of m).operand → Gives (unary_row_of m).result (unary_call_of m x)
