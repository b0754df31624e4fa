use Rattle.std.proofs.Common.{◌≡◌, ◌++◌, drop, map, take}
use Rattle.cedar_check.specs.FaultView.{fault_view}
use Rattle.cedar_files.specs.Private.Telling.{faults_after, faults_of_first}
use Rattle.cedar_files.proofs.report.cut_faults.Given as goal

abbrev pub invariant-loop-count : goal.invariant-loop-count
invariant-loop-count l = record {
  own : faults_of_first l.policy (map fault_view l.faults) ≡ map fault_view (take l.count l.faults) ++ faults_of_first l.policy (map fault_view (drop l.count l.faults));
  others : faults_after l.policy (map fault_view l.faults) ≡ faults_after l.policy (map fault_view (drop l.count l.faults));
}
