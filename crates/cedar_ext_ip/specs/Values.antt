-- The values of the type ipaddr: version, address and prefix (Cedar language reference, extension functions: ip).
use Rattle.std.specs.Prelude.{ℕ, ◌^◌, ◌<◌, ◌≤◌}
use Rattle.cedar_ext_ip.specs.declared.ip_version.IpVersion.{IpVersion}
use Rattle.cedar_ext_ip.specs.declared.ip_version.IpVersion.TheVariants.{V4, V6}

-- The number of bits of an address (Cedar language reference, extension functions: ip).
abbrev pub width_of : IpVersion → ℕ
width_of V4 = 32
width_of V6 = 128

-- A value: its version, its address as a number, and how many of the first bits of the address its range has (Cedar language
-- reference, extension functions: ip).
pub record IpValue : Type 0 where
  pub version : IpVersion
  pub address : ℕ
  pub prefix : ℕ

-- The address and the prefix fit the version (Cedar language reference, extension functions: ip).
abbrev pub IsIpValue : IpValue → Type 0
IsIpValue ip = (ip.address < 2 ^ width_of ip.version) × (ip.prefix ≤ width_of ip.version)
