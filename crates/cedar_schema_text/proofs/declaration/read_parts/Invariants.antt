use Rattle.std.proofs.Common.{◌≡◌, ◌-◌, length}
use Rattle.cedar_schema_text.specs.Grammar as spec
use Rattle.cedar_schema_text.specs.Private.SpacesView.{spaces_of}
use Rattle.cedar_schema_text.proofs.declaration.read_parts.Given as goal

abbrev pub invariant-loop-turn : goal.invariant-loop-turn
invariant-loop-turn l = spec.parts_from (length l.fn.tokens) (spaces_of l.fn.found) l.fn.tokens ≡ spec.parts_from (l._turn-end - l._turn) (spaces_of l.found) l.tokens
