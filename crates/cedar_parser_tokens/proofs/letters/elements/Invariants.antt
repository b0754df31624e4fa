use Rattle.std.proofs.Common.{◌≡◌, take, map}
use Rattle.cedar_parser_tokens.specs.Marks.{element_of}
use Rattle.cedar_parser_tokens.proofs.letters.elements.Given as goal

abbrev pub invariant-loop-letter : goal.invariant-loop-letter
invariant-loop-letter l = l.found.items ≡ map element_of (take l.letter-index l.letters)
