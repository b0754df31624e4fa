use Rattle.std.proofs.Common.{arith}
use Rattle.cedar_machine.proofs.Bounds.{compiled_low, compiled_short, compiled_room}
use Rattle.cedar_machine.proofs.machine.Machine.step.Goals as goal

pub perform-requires-clause-fits : goal.perform-requires-clause-fits
perform-requires-clause-fits g c =
    let came = rw c.in-Going.is at c.self.invariant.came in
    let low = compiled_low c.execution_is_evaluation.ensures _ _ _ _ c.self.invariant.compiled _ _ _ came in
    omega (arith, low, c.self.invariant.room)

pub perform-requires-clause-room : goal.perform-requires-clause-room
perform-requires-clause-room g c = λ pushes.
    let came = rw c.in-Going.is at c.self.invariant.came in
    let low = compiled_room c.execution_is_evaluation.ensures _ _ _ _ c.self.invariant.compiled _ _ _ came (rw c.instructions-instructions.ensures.value at pushes) in
    omega (arith, low, c.self.invariant.room)

pub overflow_add-self : goal.overflow_add-self
overflow_add-self g c =
    let came = rw c.in-Going.is at c.self.invariant.came in
    let short = compiled_short c.execution_is_evaluation.ensures _ _ _ _ c.self.invariant.compiled _ _ _ came in
    omega (arith, short)
