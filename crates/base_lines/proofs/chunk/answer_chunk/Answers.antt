use Rattle.std.proofs.Common.{◌++◌, ◌∙◌}
use Rattle.base_lines.proofs.Steps.{SendsOn-line, SendsOn-flush, SendsOn-part}
use Rattle.base_lines.proofs.Cuts.{piece_append}
use Rattle.base_lines.proofs.chunk.answer_chunk.Goals as goal

pub returns-in_err-end_line-clause-memory : goal.returns-in_err-end_line-clause-memory
returns-in_err-end_line-clause-memory g c = λ _. (c.lines.line.items ++ c.lines.rest.now, λ b w s. rw c.in_err-end_line.ensures.err (c.lines.invariant.sends b w s))

pub returns-in_err-flush-clause-write : goal.returns-in_err-flush-clause-write
returns-in_err-flush-clause-write g c = λ _.
    let ok = c.in_ok-end_line.ensures.ok in
    SendsOn-part _ _ _ _ _ _ _ _ _
    (SendsOn-line _ _ _ _ _ _ _ _ _ _ _ _ _ _ c.lines.invariant.sends c.in-Some.ensures.1 c.lines.invariant.piece c.in-Some.ensures.0 ok.1 ok.2 ok.3)
    c.in_err-flush.ensures.err

pub lines-preserved-in_ok-flush : goal.lines-preserved-in_ok-flush
lines-preserved-in_ok-flush g c =
    let ok = c.in_ok-end_line.ensures.ok in record {
      piece = rw ok.3 tt;
      sends = SendsOn-flush _ _ _ _ _ _ _ _ _ _
          (SendsOn-line _ _ _ _ _ _ _ _ _ _ _ _ _ _ c.lines.invariant.sends c.in-Some.ensures.1 c.lines.invariant.piece c.in-Some.ensures.0 ok.1 ok.2 ok.3)
          c.in_ok-flush.ensures.ok.1 c.in_ok-flush.ensures.ok.0;
      count = c.in_ok-flush.ensures.count_ok ∙ c.lines.invariant.count;
    }

pub lines-preserved : goal.lines-preserved
lines-preserved g c =
    let ok = c.in_ok-end_line.ensures.ok in record {
      piece = rw ok.3 tt;
      sends = SendsOn-line _ _ _ _ _ _ _ _ _ _ _ _ _ _ c.lines.invariant.sends c.in-Some.ensures.1 c.lines.invariant.piece c.in-Some.ensures.0 ok.1 ok.2 ok.3;
      count = c.lines.invariant.count;
    }

pub returns-clause-ok : goal.returns-clause-ok
returns-clause-ok g c = (
  rw c.in_ok-extend_from_slice.ensures.items (piece_append _ _ c.lines.invariant.piece c.in_default.ensures),
  λ b w s. rw c.in_ok-extend_from_slice.ensures.items (c.lines.invariant.sends b w s),
)
