use Rattle.std.proofs.Common.{◌≡◌, ◌-◌, length}
use Rattle.cedar_files.specs.Private.Reporting.{IsSentTo}
use Rattle.cedar_files.proofs.validating.send_lines.Given as goal

abbrev pub invariant-lines : goal.invariant-lines
invariant-lines g l = record {
  count : g.K.Sink.failed l.sink ≡ g.K.Sink.failed l.fn.sink;
  sent : IsSentTo l.reporting.settings l.reporting.validator l.reporting.policies.now.policies l.place (g.K.Sink.written l.fn.sink) (g.K.Sink.written l.sink) l.text;
}

abbrev pub decreases-lines : goal.decreases-lines
decreases-lines g l = length l.reporting.policies.now.policies - l.place.policy
