use Rattle.std.proofs.Common.{◌≡◌, length}
use Rattle.cedar_parser.specs.Braces.{begins_with_brace}
use Rattle.cedar_files.proofs.brace.begins_with_brace.Given as goal

-- what is left begins with a brace where all does
abbrev pub invariant-walk : goal.invariant-walk
invariant-walk l = begins_with_brace l.rest ≡ begins_with_brace l.bytes

abbrev pub decreases-walk : goal.decreases-walk
decreases-walk l = length l.rest
