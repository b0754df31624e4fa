use Rattle.std.proofs.Common.{◌≡◌, ◌++◌, length}
use Rattle.base_lines.specs.AnswerText.{Writes}
use Rattle.base_lines.proofs.output.flush.Given as goal

abbrev pub invariant-loop-rest : goal.invariant-loop-rest
invariant-loop-rest g l =
    Writes (g.K.Sink.written l.initial.sink) (g.K.Sink.written l.sink) (λ text. l.fn.out.items ≡ text ++ l.rest)
    × (g.K.Sink.failed l.sink ≡ g.K.Sink.failed l.initial.sink)

abbrev pub decreases-loop-rest : goal.decreases-loop-rest
decreases-loop-rest g l = length l.rest
