-- Extension types: their names, their constructors, when two of their values are the same, and the order of these.
use Rattle.std.specs.Prelude.{ℕ, ℤ, pos, ◌+ℤ◌, Bool, true, false, List, ◌∷◌, Option, Some, None, option_map, codes, FitsSigned, if◌then◌else◌}
use Rattle.std.specs.Int.{w64}
use Rattle.std.specs.Ordering.{int_cmp, int_eq, nat_cmp, ordering_then}
use Rattle.std.specs.Str.{bytes_eq}
use Rattle.std.specs.declared.cmp.Ordering.{Ordering}
use Rattle.std.specs.declared.cmp.Ordering.TheVariants.{Equal}
use Rattle.cedar_ext_ip.specs.IpOf.{ip_of}
use Rattle.cedar_ext_ip.specs.Order.{ip_cmp, same_ip}
use Rattle.cedar_ext_ip.specs.Values.{IsIpValue, width_of}
use Rattle.cedar_ext_time.specs.DatetimeOf.{datetime_of}
use Rattle.cedar_ext_time.specs.DurationOf.{duration_of}
use Rattle.cedar_ext.specs.DecimalOf.{decimal_of}
use Rattle.cedar_ext.specs.declared.extension.Extension.{Extension}
use Rattle.cedar_ext.specs.declared.extension.Extension.TheVariants.{Decimal, Ip, Datetime, Duration}
use Rattle.cedar_ext.specs.declared.extension.ExtensionType.{ExtensionType}
use Rattle.cedar_ext.specs.declared.extension.ExtensionType.TheVariants as type
use Rattle.cedar_ext.specs.declared.language.Language.{Language}
use Rattle.cedar_ext.specs.declared.language.Language.TheVariants.{Profile, Cedar4}

-- The type of a value (Cedar language reference, data types; cedar-spec, Lean: Cedar.Spec.Ext).
abbrev pub type_of : Extension → ExtensionType
type_of (Decimal z) = type.Decimal
type_of (Ip ip) = type.Ip
type_of (Datetime z) = type.Datetime
type_of (Duration z) = type.Duration

-- How a type is written (Cedar documentation, JSON schema format: Extension).
abbrev pub type_name : ExtensionType → List ℕ
type_name type.Decimal = codes "decimal"
type_name type.Ip = codes "ipaddr"
type_name type.Datetime = codes "datetime"
type_name type.Duration = codes "duration"

-- The type that is written like this (Cedar documentation, JSON schema format: Extension).
abbrev pub type_named : List ℕ → Option ExtensionType
type_named name =
    if bytes_eq name (codes "decimal") then Some type.Decimal
    else (if bytes_eq name (codes "ipaddr") then Some type.Ip
    else (if bytes_eq name (codes "datetime") then Some type.Datetime
    else (if bytes_eq name (codes "duration") then Some type.Duration else None)))

-- Whether a language has the type and its constructor: the profile has decimals alone (Cedar language reference, data types; own).
abbrev pub has_type : Language → ExtensionType → Bool
has_type Cedar4 _ = true
has_type Profile type.Decimal = true
has_type Profile _ = false

-- The type, if the language has it (own).
abbrev pub in_language : Language → Option ExtensionType → Option ExtensionType
in_language language None = None
in_language language (Some t) = if has_type language t then Some t else None

-- The type that is written like this in a language (Cedar documentation, JSON schema format: Extension).
abbrev pub type_in : Language → List ℕ → Option ExtensionType
type_in language name = in_language language (type_named name)

-- How the constructor of a type is written (Cedar language reference, functions).
abbrev pub constructor_name : ExtensionType → List ℕ
constructor_name type.Decimal = codes "decimal"
constructor_name type.Ip = codes "ip"
constructor_name type.Datetime = codes "datetime"
constructor_name type.Duration = codes "duration"

-- The type whose constructor is written like this (Cedar language reference, functions).
abbrev pub constructor_named : List ℕ → Option ExtensionType
constructor_named name =
    if bytes_eq name (codes "decimal") then Some type.Decimal
    else (if bytes_eq name (codes "ip") then Some type.Ip
    else (if bytes_eq name (codes "datetime") then Some type.Datetime
    else (if bytes_eq name (codes "duration") then Some type.Duration else None)))

-- The type whose constructor is written like this in a language (Cedar language reference, functions).
abbrev pub constructor_in : Language → List ℕ → Option ExtensionType
constructor_in language name = in_language language (constructor_named name)

-- The value of a type that a string writes, if it writes one (Cedar language reference, functions).
abbrev pub extension_of : ExtensionType → List ℕ → Option Extension
extension_of type.Decimal s = option_map Decimal (decimal_of s)
extension_of type.Ip s = option_map Ip (ip_of s)
extension_of type.Datetime s = option_map Datetime (datetime_of s)
extension_of type.Duration s = option_map Duration (duration_of s)

-- The ten-thousandths of a decimal and the milliseconds of a datetime or a duration are numbers of 64 bits, and an IP address fits its
-- version (Cedar language reference, decimal, ip, datetime, duration).
abbrev pub IsExtension : Extension → Type 0
IsExtension (Decimal z) = FitsSigned w64 z
IsExtension (Ip ip) = IsIpValue ip
IsExtension (Datetime z) = FitsSigned w64 z
IsExtension (Duration z) = FitsSigned w64 z

-- Whether two values are the same (Cedar language reference, `==`).
abbrev pub same_extension : Extension → Extension → Bool
same_extension (Decimal m) (Decimal n) = int_eq m n
same_extension (Ip a) (Ip b) = same_ip a b
same_extension (Datetime m) (Datetime n) = int_eq m n
same_extension (Duration m) (Duration n) = int_eq m n
same_extension _ _ = false

-- Whether two types are the same (Cedar language reference, data types).
abbrev pub same_type : ExtensionType → ExtensionType → Bool
same_type type.Decimal type.Decimal = true
same_type type.Ip type.Ip = true
same_type type.Datetime type.Datetime = true
same_type type.Duration type.Duration = true
same_type _ _ = false

-- The place of a type in the order of types (own).
abbrev pub rank_of : ExtensionType → ℕ
rank_of type.Decimal = 0
rank_of type.Ip = 1
rank_of type.Datetime = 2
rank_of type.Duration = 3

-- The numbers by which values are ordered, before a rest: the place of the type, and then, of an IP address, the bits of its version,
-- its number and its prefix, and else the number plus 9223372036854775808 (own).
abbrev pub extension_row : Extension → List ℤ → List ℤ
extension_row (Decimal z) rest = pos 0 ∷ (z +ℤ pos 9223372036854775808) ∷ rest
extension_row (Ip ip) rest = pos 1 ∷ pos (width_of ip.version) ∷ pos ip.address ∷ pos ip.prefix ∷ rest
extension_row (Datetime z) rest = pos 2 ∷ (z +ℤ pos 9223372036854775808) ∷ rest
extension_row (Duration z) rest = pos 3 ∷ (z +ℤ pos 9223372036854775808) ∷ rest

-- How what two values of one type hold compares, equal for two types (own).
abbrev pub content_cmp : Extension → Extension → Ordering
content_cmp (Decimal m) (Decimal n) = int_cmp m n
content_cmp (Ip a) (Ip b) = ip_cmp a b
content_cmp (Datetime m) (Datetime n) = int_cmp m n
content_cmp (Duration m) (Duration n) = int_cmp m n
content_cmp _ _ = Equal

-- How two values compare: their types, and then what they hold (own).
abbrev pub extension_cmp : Extension → Extension → Ordering
extension_cmp a b = ordering_then (nat_cmp (rank_of (type_of a)) (rank_of (type_of b))) (content_cmp a b)
