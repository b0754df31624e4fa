use Rattle.std.proofs.Common.{ℕ, List, ◌++◌, length}
use denote.Shadow.{shadow}
use denote.Text.{Utf8}
use Rattle.cedar_text.specs.Letters.{HasQuotes, AreWritten}
use Rattle.cedar_text.proofs.spelling.letters.Given as goal

abbrev pub invariant-loop-rest : goal.invariant-loop-rest
invariant-loop-rest l = shadow (Utf8 l.rest) × ((before : List ℕ) × HasQuotes l.text (before ++ l.rest) × AreWritten before l.found.items)

abbrev pub decreases-loop-rest : goal.decreases-loop-rest
decreases-loop-rest l = length l.rest
