use Rattle.std.proofs.Common.{◌≡◌, ◌+◌, ◌-◌, length}
use denote.Shadow.{shadow}
use denote.Text.{Utf8}
use Rattle.cedar_text.specs.Lexeme.{lexemes}
use Rattle.cedar_text.specs.Private.Lexing.{lex}
use Rattle.cedar_text.proofs.Turns.{with_front}
use Rattle.cedar_text.proofs.lexer.lex.Given as goal

abbrev pub invariant-loop-turn : goal.invariant-loop-turn
invariant-loop-turn l =
    shadow (Utf8 l.rest) × (with_front (lexemes l.found.items) (lex (l._turn-end - l._turn) l.at l.rest) ≡ lex (length l.source) 0 l.source) × (l.at + length l.rest ≡ length l.source)
