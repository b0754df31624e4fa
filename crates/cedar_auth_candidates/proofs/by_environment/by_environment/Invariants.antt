use Rattle.std.proofs.Common.{take}
use Rattle.cedar_auth_candidates.specs.Private.Sifting.{AreCellsOf}
use Rattle.cedar_auth_candidates.proofs.by_environment.by_environment.Given as goal

abbrev pub invariant-loop-environment : goal.invariant-loop-environment
invariant-loop-environment l = AreCellsOf l.rows (take l.environment-index l.environments) l.cells.items
