use Rattle.cedar_check_law.proofs.Exact.{typing_is_one}
use Rattle.cedar_check_law.proofs.Known.{known_gains_nothing}
use Rattle.cedar_check_law.proofs.Reports.{report_is_one, accepted_have_no_fault, impossible_has_no_fault}
use Rattle.cedar_check_law.proofs.Refusals.{faults_are_refusals}
use Rattle.cedar_check_law.proofs.typing_is_determined.Goals as goal

pub returns : goal.returns
returns c = record {
  typing = typing_is_one;
  known = known_gains_nothing;
  report = report_is_one;
  faults = faults_are_refusals;
  accepted = accepted_have_no_fault;
  impossible = impossible_has_no_fault;
}
