use Rattle.std.proofs.Common.{◌≡◌, ◌-◌, ◌≤◌, length, map}
use denote.Shadow.{shadow}
use denote.Text.{Utf8}
use Rattle.cedar_schema_text.specs.Tokens as spec
use Rattle.cedar_schema_text.specs.Marks.{written}
use Rattle.cedar_schema_text.proofs.lexer.cut.Given as goal

abbrev pub invariant-loop-turn : goal.invariant-loop-turn
invariant-loop-turn l = shadow (Utf8 l.rest) × (spec.cut l.source ≡ spec.cut_from (l._turn-end - l._turn) (length l.source) (map written l.found.items) l.rest) × (length l.rest ≤ length l.source)
