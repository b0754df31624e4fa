use Rattle.std.proofs.Common.{◌∙◌}
use Rattle.base_lines.proofs.Steps.{Writes-more}
use Rattle.base_lines.proofs.output.flush.Goals as goal

pub loop-rest-preserved : goal.loop-rest-preserved
loop-rest-preserved g c = (
  Writes-more _ _ _ _ _ _ _ c.loop-rest.invariant.0 c.in_ok-count.ensures.bytes c.split_at.ensures.back,
  c.in_ok-count.ensures.ok ∙ c.loop-rest.invariant.1,
)
