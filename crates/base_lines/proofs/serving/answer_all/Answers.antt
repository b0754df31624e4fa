use Rattle.std.proofs.Common.{[], ◌∙◌, refl, arith, IsErrOf, ◌<◌, ◌≢◌, length}
use Rattle.std.proofs.lemmas.Result.{err_from_is_err_and}
use Rattle.base_lines.specs.declared.serve_fault.ServeFault.TheVariants.{OutOfMemory, WriteFailed}
use Rattle.base_lines.proofs.Cuts.{none_left, some_left}
use Rattle.base_lines.proofs.Served.{Served-flush, Served-part, Served-kept, Served-on, Served-end, Served-done, Served-last}
use Rattle.base_lines.proofs.serving.answer_all.Goals as goal
use Rattle.base_lines.proofs.serving.answer_all.Goals.{then-not-is_empty+in_ok-end_line, else-not-is_empty}

pub returns-in_err-flush-clause-write : goal.returns-in_err-flush-clause-write
returns-in_err-flush-clause-write g c = λ _. Served-part _ _ _ _ _ _ _ _ c.chunks.invariant.served c.in_err-flush.ensures.err

pub returns-in_err-count-clause-read : goal.returns-in_err-count-clause-read
returns-in_err-count-clause-read g c = λ _.
    let flushed = c.in_ok-flush.ensures.ok in (
      c.chunks.line.items,
      c.chunks.invariant.piece,
      Served-kept _ _ _ _ _ _ _ _ (Served-flush _ _ _ _ _ _ _ _ [] c.chunks.invariant.served flushed.1 refl) c.in_err-count.ensures.bytes,
    )

pub chunks-preserved : goal.chunks-preserved
chunks-preserved g c =
    let flushed = c.in_ok-flush.ensures.ok in
    let sent = c.in_ok-answer_chunk.ensures.ok in
    record {
      piece = sent.0;
      served = Served-on _ _ _ _ _ _ _ _ _ _ _ _ (Served-flush _ _ _ _ _ _ _ _ _ c.chunks.invariant.served flushed.1 flushed.0)
          c.in_ok-count.ensures.bytes.0 (rw (← c.split_at.ensures.front) sent.1);
      source_count = c.in_ok-count.ensures.ok ∙ c.chunks.invariant.source_count;
      sink_count = c.in_ok-answer_chunk.ensures.count_ok ∙ c.in_ok-flush.ensures.count_ok ∙ c.chunks.invariant.sink_count;
    }

pub returns-in_err-answer_chunk-clause-memory : goal.returns-in_err-answer_chunk-clause-memory
returns-in_err-answer_chunk-clause-memory g c = λ h.
    let p = err_from_is_err_and c.from_residual-in_err-answer_chunk.result c.from_residual-in_err-answer_chunk.ensures.1 in
    let e : IsErrOf c.answer_chunk.result OutOfMemory = cc (c.in_err-answer_chunk.was, p.1, p.2, h) in
    let flushed = c.in_ok-flush.ensures.ok in
    let sent = c.answer_chunk.ensures.memory e in (
      sent.0,
      Served-on _ _ _ _ _ _ _ _ _ _ _ _ (Served-flush _ _ _ _ _ _ _ _ _ c.chunks.invariant.served flushed.1 flushed.0)
          c.in_ok-count.ensures.bytes.0 (rw (← c.split_at.ensures.front) sent.1),
    )

pub returns-in_err-answer_chunk-clause-write : goal.returns-in_err-answer_chunk-clause-write
returns-in_err-answer_chunk-clause-write g c = λ h.
    let p = err_from_is_err_and c.from_residual-in_err-answer_chunk.result c.from_residual-in_err-answer_chunk.ensures.1 in
    let e : IsErrOf c.answer_chunk.result WriteFailed = cc (c.in_err-answer_chunk.was, p.1, p.2, h) in
    let flushed = c.in_ok-flush.ensures.ok in
    let sent = c.answer_chunk.ensures.write e in (
      sent.0,
      sent.1,
      Served-on _ _ _ _ _ _ _ _ _ _ _ _ (Served-flush _ _ _ _ _ _ _ _ _ c.chunks.invariant.served flushed.1 flushed.0)
          c.in_ok-count.ensures.bytes.0 (rw (← c.split_at.ensures.front) sent.2),
    )

pub returns-in_err-end_line-clause-memory : goal.returns-in_err-end_line-clause-memory
returns-in_err-end_line-clause-memory g c = λ _.
    let flushed = c.in_ok-flush.ensures.ok in (
      c.chunks.line.items,
      rw c.in_err-end_line.ensures.err
          (Served-end _ _ _ _ _ _ _ _ _ (Served-flush _ _ _ _ _ _ _ _ _ c.chunks.invariant.served flushed.1 flushed.0)
          c.in_ok-count.ensures.bytes.0 (rw c.if-count-eq0.true refl)),
    )

pub returns-clause-ok : goal.returns-clause-ok
returns-clause-ok g c =
    let flushed = c.in_ok-flush.ensures.ok in
    let room : 0 < length c.read.new.buf = omega (arith, c.read.auto.buf) in
    let served = Served-end _ _ _ _ _ _ _ _ _ (Served-flush _ _ _ _ _ _ _ _ _ c.chunks.invariant.served flushed.1 flushed.0)
    c.in_ok-count.ensures.bytes.0 (rw c.if-count-eq0.true refl) in (
      c.in_ok-count.ensures.bytes.1 c.if-count-eq0.true room,
      elim c.if-not-is_empty.branch [
        | then-not-is_empty+in_ok-end_line w ↦
            let ok = w.in_ok-end_line.ensures.ok in
            let some : c.chunks.line.items ≢ [] = some_left _ _ c.chunks.line.ok.0 w.if-not-is_empty.ensures in
            rw w.out-is (Served-last _ _ _ _ _ _ _ _ _ served c.chunks.invariant.piece some ok.1 ok.2)
        | else-not-is_empty w ↦ rw w.out-is (Served-done _ _ _ _ _ _ _ served (none_left _ _ c.chunks.line.ok.0 w.if-not-is_empty.ensures))
      ],
    )
