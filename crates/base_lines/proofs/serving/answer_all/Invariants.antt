use Rattle.std.proofs.Common.{◌≡◌}
use Rattle.base_lines.specs.Private.Progress.{IsPiece}
use Rattle.base_lines.specs.Private.Progress.{Served}
use Rattle.base_lines.proofs.serving.answer_all.Given as goal

abbrev pub invariant-chunks : goal.invariant-chunks
invariant-chunks g l = record {
  piece : IsPiece l.line.items;
  served : Served (g.E.Engine.answers l.engine) (g.S.Source.left l.initial.source) (g.S.Source.left l.source)
      (g.K.Sink.written l.initial.sink) (g.K.Sink.written l.sink) l.line.items l.out.items;
  source_count : g.S.Source.failed l.source ≡ g.S.Source.failed l.initial.source;
  sink_count : g.K.Sink.failed l.sink ≡ g.K.Sink.failed l.initial.sink;
}

abbrev pub decreases-chunks : goal.decreases-chunks
decreases-chunks g l = g.S.Source.can_give l.source
