use Rattle.std.proofs.Common.{◌≡◌}
use Rattle.cedar_ast_expressions.specs.Private.Depth.{depth}
use Rattle.cedar_check_operators.specs.Private.Height.{height_from, height_of}
use Rattle.cedar_check_operators.proofs.capability.height_of.Given as goal

-- what is left, counted on from here, gives the height of the whole
abbrev pub invariant-down : goal.invariant-down
invariant-down l = height_from l.height l.rest ≡ height_of l.fn.expression

abbrev pub decreases-down : goal.decreases-down
decreases-down l = depth l.rest
