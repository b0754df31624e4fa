-- The value of a text as a function, from the parts around its first slash.
use Rattle.std.specs.Prelude.{ℕ, ◌+◌, ◌-◌, ◌*◌, ◌==◌, not, ◌&&◌, List, [], ◌∷◌, take, drop, Option, Some, None, option_map, option_and_then, if◌then◌else◌, nat_le, nat_eq, position}
use Rattle.std.specs.List.{list_any}
use Rattle.std.specs.Char.{is_ascii_digit}
use Rattle.std.specs.Net.Reader.{read_ipv4, read_ipv6, whole_value}
use Rattle.cedar_ext_ip.specs.declared.ip_version.IpVersion.TheVariants.{V4, V6}
use Rattle.cedar_ext_ip.specs.Values.{IpValue, width_of}
use Rattle.cedar_ext_ip.specs.Texts.{number_after}

-- The address with these four octets (Cedar language reference, extension functions: ip).
abbrev pub of_octets : List ℕ → Option IpValue
of_octets (a ∷ b ∷ c ∷ d ∷ []) = Some (record { version = V4; address = ((a * 256 + b) * 256 + c) * 256 + d; prefix = 32 })
of_octets _ = None

-- The address of version 4 that the text is (Cedar language reference, extension functions: ip).
abbrev pub four_of : List ℕ → Option IpValue
four_of text = option_and_then of_octets (whole_value (read_ipv4 text))

-- The address of version 6 that the text is: one without a point, since no part of it is written as of version 4 (Cedar language
-- reference, extension functions: ip).
abbrev pub six_of : List ℕ → Option IpValue
six_of text =
    if list_any (λ b. b == 46) text then None
    else option_map (λ groups. record { version = V6; address = number_after 0 groups; prefix = 128 }) (whole_value (read_ipv6 text))

-- The first of two values that is there (own).
abbrev pub or_else : Option IpValue → Option IpValue → Option IpValue
or_else (Some ip) other = Some ip
or_else None other = other

-- The address that the text is, of either version (Cedar language reference, extension functions: ip).
abbrev pub address_of : List ℕ → Option IpValue
address_of text = or_else (four_of text) (six_of text)

-- The number of one to three decimal digits without a leading zero (Cedar language reference, extension functions: ip).
abbrev pub digits_of : List ℕ → Option ℕ
digits_of (a ∷ []) = if is_ascii_digit a then Some (a - 48) else None
digits_of (a ∷ b ∷ []) = if is_ascii_digit a && is_ascii_digit b && not (nat_eq a 48) then Some ((a - 48) * 10 + (b - 48)) else None
digits_of (a ∷ b ∷ c ∷ []) =
    if is_ascii_digit a && is_ascii_digit b && is_ascii_digit c && not (nat_eq a 48)
    then Some ((a - 48) * 100 + (b - 48) * 10 + (c - 48))
    else None
digits_of _ = None

-- The number that follows a slash, where it is at most the number of bits (Cedar language reference, extension functions: ip).
abbrev pub prefix_of : ℕ → List ℕ → Option ℕ
prefix_of width text = option_and_then (λ n. if nat_le n width then Some n else None) (digits_of text)

-- The address with the prefix that the text after a slash is (Cedar language reference, extension functions: ip).
abbrev pub with_prefix : List ℕ → IpValue → Option IpValue
with_prefix text ip = option_map (λ n. record ip { prefix = n }) (prefix_of (width_of ip.version) text)

-- The value of a text that is cut at its slash, if it has one (Cedar language reference, extension functions: ip).
abbrev pub ip_around : List ℕ → Option ℕ → Option IpValue
ip_around text None = address_of text
ip_around text (Some slash) = option_and_then (with_prefix (drop (slash + 1) text)) (address_of (take slash text))

-- The value of a text, none for another text. Evaluation is to compute with it, and `ip_of_tells_ips` ties it to `IsIp` (Cedar
-- language reference, extension functions: ip).
abbrev pub ip_of : List ℕ → Option IpValue
ip_of text = ip_around text (position (λ b. b == 47) text)
