use Rattle.std.proofs.Common.{◌≡◌, ◌-◌, length, string_bytes}
use Rattle.cedar_schema_text.specs.Grammar as spec
use Rattle.cedar_schema_text.proofs.names.read_rest_of_path.Given as goal

abbrev pub invariant-loop-turn : goal.invariant-loop-turn
invariant-loop-turn l = spec.path_from (length l.fn.tokens) l.fn.first l.fn.tokens ≡ spec.path_from (l._turn-end - l._turn) (string_bytes l.path) l.tokens
