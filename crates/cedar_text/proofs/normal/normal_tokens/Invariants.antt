use Rattle.std.proofs.Common.{◌≡◌, drop}
use Rattle.cedar_text.specs.Lexeme.{lexemes}
use Rattle.cedar_text.specs.Normal as spec
use Rattle.cedar_text.specs.Private.NormalWalk.{all_normal}
use Rattle.cedar_text.proofs.normal.normal_tokens.Given as goal

abbrev pub invariant-loop-at : goal.invariant-loop-at
invariant-loop-at l = all_normal l.walk (lexemes (drop l.at l.fn.tokens)) ≡ spec.normal (lexemes l.fn.tokens)
