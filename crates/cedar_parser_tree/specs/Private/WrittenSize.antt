-- How many parts a list of expressions as written has.
use Rattle.std.specs.Prelude.{ℕ, ◌+◌, ◌≤◌, List, [], ◌∷◌}
use Rattle.std.proofs.Common.{arith}
use denote.Param.Weighed.{most}
use Rattle.cedar_parser_tree.specs.Written.{Written, parts, member_parts, members_of}

abbrev pub series_parts : List Written → ℕ
series_parts xs = member_parts (members_of xs)

-- no member is larger than all of them together
pub most_items : (xs : List Written) → most (λ a. parts a + 1) xs ≤ series_parts xs
most_items [] = omega arith
most_items (a ∷ xs) = omega (arith, most_items xs)
