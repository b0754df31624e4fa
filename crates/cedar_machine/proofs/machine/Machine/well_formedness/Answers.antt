use Rattle.cedar_machine.proofs.Bounds.{sound_came}
use Rattle.cedar_machine.proofs.machine.Machine.well_formedness.Goals as goal

pub returns : goal.returns
returns g c = rw (← c.self.view_is) (sound_came c.execution_is_evaluation.ensures _ _ _ _ _ _ _ c.self.invariant)
