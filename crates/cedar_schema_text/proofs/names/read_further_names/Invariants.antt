use Rattle.std.proofs.Common.{◌≡◌, ◌-◌, length}
use Rattle.cedar_schema_text.specs.Grammar as spec
use Rattle.cedar_schema_text.specs.Marks.{lent_marks}
use Rattle.cedar_schema_text.proofs.names.read_further_names.Given as goal

abbrev pub invariant-loop-turn : goal.invariant-loop-turn
invariant-loop-turn l = spec.names_from l.quoted (length l.fn.tokens) (lent_marks l.fn.first.items) l.fn.tokens ≡ spec.names_from l.quoted (l._turn-end - l._turn) (lent_marks l.found.items) l.tokens
