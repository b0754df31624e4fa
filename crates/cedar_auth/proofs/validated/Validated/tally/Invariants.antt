use Rattle.std.proofs.Common.{◌≡◌, take}
use Rattle.cedar_auth.specs.Private.Selected.{policies_at}
use Rattle.cedar_auth.specs.Private.Tally.{tally_of}
use Rattle.cedar_auth.proofs.validated.Validated.tally.Given as goal

abbrev pub invariant-loop-position : goal.invariant-loop-position
invariant-loop-position g l =
    (l.tally ≡ tally_of l.fn.evaluator.request l.fn.evaluator.world (policies_at l.self.policies.policies (take l.position-index l.positions)))
    × (l.evaluator ≡ l.fn.evaluator)
