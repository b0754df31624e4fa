use Rattle.std.proofs.Common.{◌∙◌, arith}
use Rattle.cedar_machine.specs.Private.State.{configuration_of}
use Rattle.cedar_machine.proofs.Onward.{counted_next}
use Rattle.cedar_machine.proofs.resting.Resting.step.Goals as goal

pub overflow_add-self : goal.overflow_add-self
overflow_add-self g c =
    let counted = rw c.in-Going.is at c.self.invariant in
    omega (arith, counted.0, counted.1)

pub invariant_of-self-2 : goal.invariant_of-self-2
invariant_of-self-2 g c =
    let counted = rw c.in-Going.is at c.self.invariant in
    counted_next c.jumps_go_forward.ensures c.args.code.now c.args.request.now _ c.in-Going.place c.self.inside.executed _
    (configuration_of c.settle-self-inside.result c.perform_owned.new.stack.values)
    c.instructions-instructions.ensures.compiled counted
    (rw c.instructions-instructions.ensures.value at (c.settle-self-inside.ensures ∙ c.in_ok-moved.ensures.configuration))
