use Rattle.std.proofs.Common.{◌≡◌, ◌++◌, ◌&&◌, map, drop}
use Rattle.std.specs.List.{list_all}
use Rattle.cedar_check_spec.specs.Private.Reporting.{faults_in_with}
use Rattle.cedar_check.specs.FaultView.{fault_view}
use Rattle.cedar_check.proofs.Environments.{known_false}
use Rattle.cedar_check.proofs.fault.check_everywhere.Given as goal

abbrev pub invariant-loop-place : goal.invariant-loop-place
invariant-loop-place l = record {
  faults : map fault_view l.faults.items ++ faults_in_with l.settings l.schema l.policy (drop l.place l.environments) ≡ map fault_view l.fn.faults.items ++ faults_in_with l.settings l.schema l.policy l.environments;
  impossible : (l.impossible && list_all (known_false l.settings l.schema l.policy) (drop l.place l.environments)) ≡ list_all (known_false l.settings l.schema l.policy) l.environments;
}
