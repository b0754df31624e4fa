-- What a value keeps in its fields: the address in four parts.
use Rattle.std.specs.Prelude.{◌≡◌, ◌+◌, ◌*◌, ◌/◌, ◌%◌, ◌^◌, ◌<◌}
use Rattle.std.proofs.Common.{arith}
use Rattle.cedar_ext_ip.specs.Values.{IpValue, IsIpValue}
use Rattle.cedar_ext_ip.specs.declared.ip.Ip.TheInside.{Inside}

-- The value that the fields denote.
abbrev pub value_of : Inside → IpValue
value_of ip = record {
  version = ip.version;
  address = (ip.first * 2 ^ 32 + ip.second) * 2 ^ 64 + (ip.third * 2 ^ 32 + ip.fourth);
  prefix = ip.prefix;
}

-- The fields of a value.
abbrev pub fields_of : IpValue → Inside
fields_of ip = record {
  version = ip.version;
  prefix = ip.prefix;
  first = ip.address / 2 ^ 96;
  second = ip.address / 2 ^ 64 % 2 ^ 32;
  third = ip.address / 2 ^ 32 % 2 ^ 32;
  fourth = ip.address % 2 ^ 32;
}

-- The lower parts have 32 bits, and the value is one of the language.
abbrev pub IsInside : Inside → Type 0
IsInside ip = (ip.second < 2 ^ 32) × (ip.third < 2 ^ 32) × (ip.fourth < 2 ^ 32) × IsIpValue (value_of ip)

pub fields_of-value_of : (ip : Inside) → IsInside ip → fields_of (value_of ip) ≡ ip
fields_of-value_of ip h =
    let second : ip.second < 2 ^ 32 = h.0 in
    let third : ip.third < 2 ^ 32 = h.1 in
    let fourth : ip.fourth < 2 ^ 32 = h.2 in
    let first_is : ((ip.first * 2 ^ 32 + ip.second) * 2 ^ 64 + (ip.third * 2 ^ 32 + ip.fourth)) / 2 ^ 96 ≡ ip.first = omega arith in
    let second_is : ((ip.first * 2 ^ 32 + ip.second) * 2 ^ 64 + (ip.third * 2 ^ 32 + ip.fourth)) / 2 ^ 64 % 2 ^ 32 ≡ ip.second = omega arith in
    let third_is : ((ip.first * 2 ^ 32 + ip.second) * 2 ^ 64 + (ip.third * 2 ^ 32 + ip.fourth)) / 2 ^ 32 % 2 ^ 32 ≡ ip.third = omega arith in
    let fourth_is : ((ip.first * 2 ^ 32 + ip.second) * 2 ^ 64 + (ip.third * 2 ^ 32 + ip.fourth)) % 2 ^ 32 ≡ ip.fourth = omega arith in
    λ i. record { version = ip.version; prefix = ip.prefix; first = first_is i; second = second_is i; third = third_is i; fourth = fourth_is i }
