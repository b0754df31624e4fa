-- Sizes as the code counts them, which stop at the greatest number of 64 bits.
use Rattle.std.specs.Prelude.{min}
use Rattle.cedar_parser_limits.specs.declared.size.Size.{Size}

abbrev pub capped : Size → Size
capped s = record { nodes = min s.nodes 18446744073709551615; height = min s.height 18446744073709551615 }
