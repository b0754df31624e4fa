use Rattle.std.proofs.Common.{refl}
use Rattle.std.proofs.lemmas.Result.{err_from_is_err_and}
use Rattle.base_lines.proofs.Served.{served-memory, served-flushed, served-cut, served-read, served-begins, served-all_cut}
use Rattle.base_lines.proofs.Whole.{written_whole, begun_whole}
use Rattle.base_lines.proofs.serving.serve.Goals as goal

pub returns-in_err-flush-in-Ok-clause-err : goal.returns-in_err-flush-in-Ok-clause-err
returns-in_err-flush-in-Ok-clause-err g c =
    let p = err_from_is_err_and c.from_residual.result c.from_residual.ensures.1 in
    rw p.1 (served-all_cut _ _ _ _ _ _ _ c.in-Ok.ensures.ok.1 c.in-Ok.ensures.ok.0 c.in_err-flush-in-Ok.ensures.err)

pub returns-in_err-flush-in-Ok-clause-whole : goal.returns-in_err-flush-in-Ok-clause-whole
returns-in_err-flush-in-Ok-clause-whole g c = written_whole (g.E.Engine.answers c.args.engine.now) _ _ _ _ (returns-in_err-flush-in-Ok-clause-err g c)

pub returns-in_err-flush-in-Err-OutOfMemory-clause-err :
    goal.returns-in_err-flush-in-Err-OutOfMemory-clause-err
returns-in_err-flush-in-Err-OutOfMemory-clause-err g c =
    let p = err_from_is_err_and c.from_residual-in_err-flush-in-Err-OutOfMemory.result c.from_residual-in_err-flush-in-Err-OutOfMemory.ensures.1 in
    let served = c.in-Err-OutOfMemory.ensures.memory (rw c.in-Err-OutOfMemory.field-0-is refl) in
    rw p.1 (served-cut _ _ _ _ _ _ _ _ served.1 c.in_err-flush-in-Err-OutOfMemory.ensures.err)

pub returns-in_err-flush-in-Err-OutOfMemory-clause-whole : goal.returns-in_err-flush-in-Err-OutOfMemory-clause-whole
returns-in_err-flush-in-Err-OutOfMemory-clause-whole g c = written_whole (g.E.Engine.answers c.args.engine.now) _ _ _ _ (returns-in_err-flush-in-Err-OutOfMemory-clause-err g c)

pub returns-in-Err-OutOfMemory-clause-err : goal.returns-in-Err-OutOfMemory-clause-err
returns-in-Err-OutOfMemory-clause-err g c =
    let served = c.in-Err-OutOfMemory.ensures.memory (rw c.in-Err-OutOfMemory.field-0-is refl) in
    served-flushed _ _ _ _ _ _ _ _ served.1 c.in_ok-flush-in-Err-OutOfMemory.ensures.ok.1

pub returns-in-Err-OutOfMemory-clause-whole : goal.returns-in-Err-OutOfMemory-clause-whole
returns-in-Err-OutOfMemory-clause-whole g c = begun_whole (g.E.Engine.answers c.args.engine.now) _ _ _ (returns-in-Err-OutOfMemory-clause-err g c)

pub returns-in-Err-OutOfMemory-clause-memory : goal.returns-in-Err-OutOfMemory-clause-memory
returns-in-Err-OutOfMemory-clause-memory g c = λ _.
    let served = c.in-Err-OutOfMemory.ensures.memory (rw c.in-Err-OutOfMemory.field-0-is refl) in
    served-memory _ _ _ _ _ _ _ _ served.1 c.in_ok-flush-in-Err-OutOfMemory.ensures.ok.1

pub returns-in-Err-ReadFailed-clause-err : goal.returns-in-Err-ReadFailed-clause-err
returns-in-Err-ReadFailed-clause-err g c =
    let served = c.in-Err-ReadFailed.ensures.read (rw c.in-Err-ReadFailed.field-0-is refl) in
    served-begins _ _ _ _ _ _ _ served.2

pub returns-in-Err-ReadFailed-clause-whole : goal.returns-in-Err-ReadFailed-clause-whole
returns-in-Err-ReadFailed-clause-whole g c = begun_whole (g.E.Engine.answers c.args.engine.now) _ _ _ (returns-in-Err-ReadFailed-clause-err g c)

pub returns-in-Err-ReadFailed-clause-read : goal.returns-in-Err-ReadFailed-clause-read
returns-in-Err-ReadFailed-clause-read g c = λ _.
    let served = c.in-Err-ReadFailed.ensures.read (rw c.in-Err-ReadFailed.field-0-is refl) in
    served-read _ _ _ _ _ _ served.2 served.1

pub returns-clause-err : goal.returns-clause-err
returns-clause-err g c =
    let served = c.in-Err-WriteFailed.ensures.write (rw c.in-Err-WriteFailed.field-0-is refl) in
    served-begins _ _ _ _ _ _ _ served.2

pub returns-clause-whole : goal.returns-clause-whole
returns-clause-whole g c = begun_whole (g.E.Engine.answers c.args.engine.now) _ _ _ (returns-clause-err g c)
