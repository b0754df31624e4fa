-- The order of IP addresses, and which are the same (own: no rule of the language shows the order).
use Rattle.std.specs.Prelude.{◌==◌, Bool, ◌&&◌}
use Rattle.std.specs.declared.cmp.Ordering.{Ordering}
use Rattle.std.specs.Ordering.{nat_cmp, ordering_then}
use Rattle.cedar_ext_ip.specs.Values.{IpValue, width_of}

-- Whether two values have the same version, address and prefix (Cedar language reference, extension functions: ip).
abbrev pub same_ip : IpValue → IpValue → Bool
same_ip a b = (width_of a.version == width_of b.version) && (a.address == b.address) && (a.prefix == b.prefix)

-- The order of two values: by version, then by address, and then by prefix (own).
abbrev pub ip_cmp : IpValue → IpValue → Ordering
ip_cmp a b =
    ordering_then (nat_cmp (width_of a.version) (width_of b.version)) (ordering_then (nat_cmp a.address b.address) (nat_cmp a.prefix b.prefix))
