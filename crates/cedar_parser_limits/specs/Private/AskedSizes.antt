-- Sizes along a path of attributes, as the code counts them.
use Rattle.std.specs.Prelude.{ℕ, List, [], ◌∷◌}
use Rattle.cedar_parser_limits.specs.declared.size.Size.{Size}
use Rattle.cedar_parser_limits.specs.Limits.{above, above_both}
use Rattle.cedar_parser_limits.specs.Private.Capped.{capped}

abbrev pub sizes_from : (asked place : Size) → List (List ℕ) → Size
sizes_from asked place [] = asked
sizes_from asked place (a ∷ more) = sizes_from (capped (above_both asked (capped (above place)))) (capped (above place)) more
