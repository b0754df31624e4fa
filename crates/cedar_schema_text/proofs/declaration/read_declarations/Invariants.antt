use Rattle.std.proofs.Common.{◌≡◌, ◌-◌, length}
use Rattle.cedar_schema_text.specs.Grammar as spec
use Rattle.cedar_schema_text.specs.Objects.{sections_of}
use Rattle.cedar_schema_text.proofs.declaration.read_declarations.Given as goal

abbrev pub invariant-loop-turn : goal.invariant-loop-turn
invariant-loop-turn l = spec.declarations_from (length l.fn.tokens) (sections_of l.fn.space) l.fn.tokens ≡ spec.declarations_from (l._turn-end - l._turn) (sections_of l.space) l.tokens
