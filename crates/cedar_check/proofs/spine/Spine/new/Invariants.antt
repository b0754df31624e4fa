use Rattle.std.proofs.Common.{◌≡◌, ◌≤◌, ◌-◌, take, length}
use Rattle.cedar_check.specs.Private.Spine.{Leads}
use Rattle.cedar_check.proofs.spine.Spine.new.Given as goal

-- the places that are taken lead from the expression to the last part
abbrev pub invariant-loop-count : goal.invariant-loop-count
invariant-loop-count l = (length l.passed ≡ 8) × (l.count ≤ 8) × Leads l.fn.expression (take l.count l.passed) l.last

abbrev pub decreases-loop-count : goal.decreases-loop-count
decreases-loop-count l = 8 - l.count
