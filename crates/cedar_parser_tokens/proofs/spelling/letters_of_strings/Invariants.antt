use Rattle.std.proofs.Common.{take}
use Rattle.cedar_text.specs.Lexeme.{lexemes}
use Rattle.cedar_parser_tokens.specs.Private.Spells.{Spells}
use Rattle.cedar_parser_tokens.proofs.spelling.letters_of_strings.Given as goal

abbrev pub invariant-loop-token : goal.invariant-loop-token
invariant-loop-token l = Spells (lexemes (take l.token-index l.tokens)) l.found.items
