-- Each method of an extension type gives what its row says.
use Rattle.std.specs.Prelude.{ℤ, ◌+ℤ◌, ◌-ℤ◌, Option, Some, None, refl}
use Rattle.cedar_ext.specs.declared.extension.Extension.{Extension}
use Rattle.cedar_ext.specs.declared.extension.Extension.TheVariants.{Decimal, Ip, Datetime, Duration}
use Rattle.cedar_ext.specs.declared.extension.ExtensionType.{ExtensionType}
use Rattle.cedar_ext.specs.declared.extension.ExtensionType.TheVariants as type
use Rattle.cedar_ext.specs.declared.method.BinaryMethod.TheVariants.{LessThan, LessThanOrEqual, GreaterThan, GreaterThanOrEqual, IsInRange, Offset, DurationSince}
use Rattle.cedar_ext.specs.declared.scalar.ScalarType.TheVariants as scalar_type
use Rattle.cedar_ext.specs.declared.unary_method.UnaryMethod.TheVariants.{IsIpv4, IsIpv6, IsLoopback, IsMulticast, ToDate, ToTime, ToMilliseconds, ToSeconds, ToMinutes, ToHours, ToDays}
use Rattle.cedar_ext_time.specs.Longs.{long_of}
use Rattle.cedar_ext_time.specs.Days.{midnight}
use Rattle.cedar_ext.specs.Extensions.{type_of}
use Rattle.cedar_ext.specs.Methods.{is_ordered, ordered_of, value_or_overflow, Gives, OrderedAreTyped, RowsAreTyped}
use Rattle.cedar_ext.specs.UnaryMethods.{UnaryRowsAreTyped}

datetime_typed : (o : Option ℤ) → Gives (scalar_type.Extension type.Datetime) (value_or_overflow Datetime o)
datetime_typed None = tt
datetime_typed (Some z) = refl

duration_typed : (o : Option ℤ) → Gives (scalar_type.Extension type.Duration) (value_or_overflow Duration o)
duration_typed None = tt
duration_typed (Some z) = refl

pub rows_typed : RowsAreTyped
rows_typed LessThan (Decimal m) (Decimal n) h k = tt
rows_typed LessThanOrEqual (Decimal m) (Decimal n) h k = tt
rows_typed GreaterThan (Decimal m) (Decimal n) h k = tt
rows_typed GreaterThanOrEqual (Decimal m) (Decimal n) h k = tt
rows_typed IsInRange (Ip a) (Ip b) h k = tt
rows_typed Offset (Datetime m) (Duration d) h k = datetime_typed (long_of (m +ℤ d))
rows_typed DurationSince (Datetime m) (Datetime n) h k = duration_typed (long_of (m -ℤ n))
rows_typed _ _ _ h k = cc

pub unary_typed : UnaryRowsAreTyped
unary_typed IsIpv4 (Ip a) h = tt
unary_typed IsIpv6 (Ip a) h = tt
unary_typed IsLoopback (Ip a) h = tt
unary_typed IsMulticast (Ip a) h = tt
unary_typed ToDate (Datetime z) h = datetime_typed (long_of (midnight z))
unary_typed ToTime (Datetime z) h = refl
unary_typed ToMilliseconds (Duration z) h = tt
unary_typed ToSeconds (Duration z) h = tt
unary_typed ToMinutes (Duration z) h = tt
unary_typed ToHours (Duration z) h = tt
unary_typed ToDays (Duration z) h = tt
unary_typed _ _ h = cc

pub ordered_typed : OrderedAreTyped
ordered_typed f type.Datetime (Datetime m) (Datetime n) o h k = tt
ordered_typed f type.Duration (Duration m) (Duration n) o h k = tt
ordered_typed f _ _ _ o h k = cc
