-- The ranges of IP addresses, as sets of addresses (Cedar language reference, extension functions: ip).
use Rattle.std.specs.Prelude.{◌≡◌, ℕ, ◌-◌, ◌*◌, ◌/◌, ◌^◌, ◌==◌, Bool, true, false, ◌&&◌, nat_le}
use Rattle.cedar_ext_ip.specs.declared.ip_version.IpVersion.{IpVersion}
use Rattle.cedar_ext_ip.specs.declared.ip_version.IpVersion.TheVariants.{V4, V6}
use Rattle.cedar_ext_ip.specs.Values.{IpValue, width_of}

-- The first bits of an address of the version, as many as the prefix says: what is left without the last ones (Cedar language
-- reference, extension functions: ip).
abbrev pub first_bits : IpVersion → ℕ → ℕ → ℕ
first_bits version prefix address = address / 2 ^ (width_of version - prefix)

-- The range of the value has the address n: its first bits are those of the value, as many as the prefix says (Cedar language
-- reference, extension functions: ip).
abbrev pub HasAddress : IpValue → ℕ → Type 0
HasAddress ip n = first_bits ip.version ip.prefix n ≡ first_bits ip.version ip.prefix ip.address

-- The two are of one version, and each address in the range of the first is in that of the second (Cedar language reference,
-- extension functions: ip, isInRange).
abbrev pub IsWithin : IpValue → IpValue → Type 0
IsWithin ip range = (ip.version ≡ range.version) × ((n : ℕ) → HasAddress ip n → HasAddress range n)

-- The range of the addresses of this host: 127.0.0.0/8 and ::1/128 (Cedar language reference, extension functions: ip,
-- isLoopback).
abbrev pub loopback_of : IpVersion → IpValue
loopback_of V4 = record { version = V4; address = 127 * 2 ^ 24; prefix = 8 }
loopback_of V6 = record { version = V6; address = 1; prefix = 128 }

-- The range of the addresses of groups: 224.0.0.0/4 and ff00::/8 (Cedar language reference, extension functions: ip,
-- isMulticast).
abbrev pub multicast_of : IpVersion → IpValue
multicast_of V4 = record { version = V4; address = 224 * 2 ^ 24; prefix = 4 }
multicast_of V6 = record { version = V6; address = 255 * 2 ^ 120; prefix = 8 }

-- Whether a version is 4 (Cedar language reference, extension functions: ip, isIpv4).
abbrev pub is_four : IpVersion → Bool
is_four V4 = true
is_four V6 = false

-- Whether a version is 6 (Cedar language reference, extension functions: ip, isIpv6).
abbrev pub is_six : IpVersion → Bool
is_six V4 = false
is_six V6 = true

-- Whether the one range is within the other. Evaluation is to compute with this test, and `is_within_tells_ranges` ties it to
-- `IsWithin` (Cedar language reference, extension functions: ip, isInRange).
abbrev pub is_within : IpValue → IpValue → Bool
is_within ip range =
    (width_of ip.version == width_of range.version) && nat_le range.prefix ip.prefix
    && (first_bits range.version range.prefix ip.address == first_bits range.version range.prefix range.address)
