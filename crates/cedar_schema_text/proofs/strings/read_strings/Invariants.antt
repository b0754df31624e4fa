use Rattle.std.proofs.Common.{map, take}
use Rattle.cedar_schema_text.specs.Marks.{marks, written}
use Rattle.cedar_schema_text.specs.Strings.{AreRead}
use Rattle.cedar_schema_text.proofs.strings.read_strings.Given as goal

abbrev pub invariant-loop-piece : goal.invariant-loop-piece
invariant-loop-piece l = AreRead (map written (take l.piece-index l.pieces)) (marks l.found.items)
