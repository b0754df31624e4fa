use Rattle.std.proofs.Common.{◌≡◌, ◌++◌, length}
use Rattle.base_lines.specs.Private.Progress.{IsPiece}
use Rattle.base_lines.specs.Private.Progress.{SendsOn}
use Rattle.base_lines.proofs.chunk.answer_chunk.Given as goal

abbrev pub invariant-lines : goal.invariant-lines
invariant-lines g l = record {
  piece : IsPiece l.line.items;
  sends : SendsOn (g.E.Engine.answers l.engine) l.chunk l.initial.line.items (l.line.items ++ l.rest)
      (g.K.Sink.written l.initial.sink) (g.K.Sink.written l.sink) l.initial.out.items l.out.items;
  count : g.K.Sink.failed l.sink ≡ g.K.Sink.failed l.initial.sink;
}

abbrev pub decreases-lines : goal.decreases-lines
decreases-lines g l = length l.rest
