use Rattle.std.proofs.Common.{◌≡◌, take, map}
use Rattle.cedar_ext.specs.declared.pattern.Element.TheVariants.{Character}
use Rattle.cedar_parser_tokens.proofs.letters.plain_elements.Given as goal

abbrev pub invariant-loop-byte : goal.invariant-loop-byte
invariant-loop-byte l = l.found.items ≡ map Character (take l.byte-index l.bytes)
