-- Which integers are a Long of Cedar, and what a result out of that range is.
use Rattle.std.specs.Prelude.{ℤ, pos, negsuc, Bool, ◌&&◌, not, int_lt, Option, Some, None, if◌then◌else◌}

-- The integer has 64 bits: it is from -9223372036854775808 to 9223372036854775807 (Cedar language reference, long).
abbrev pub is_long : ℤ → Bool
is_long z = not (int_lt z (negsuc 9223372036854775807)) && int_lt z (pos 9223372036854775808)

-- The integer where it has 64 bits, and none where it overflows (Cedar RFC 80).
abbrev pub long_of : ℤ → Option ℤ
long_of z = if is_long z then Some z else None
