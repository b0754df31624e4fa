use Rattle.std.proofs.Common.{◌≡◌, ◌-◌, ◌≤◌, length}
use denote.Shadow.{shadow}
use denote.Text.{Utf8}
use Rattle.cedar_schema_text.specs.Tokens as spec
use Rattle.cedar_schema_text.proofs.lexer.skip.Given as goal

abbrev pub invariant-loop-turn : goal.invariant-loop-turn
invariant-loop-turn l = shadow (Utf8 l.rest) × (spec.skip l.text ≡ spec.skip_comments (l._turn-end - l._turn) l.rest) × (length l.rest ≤ length l.text)
