use Rattle.base_lines.proofs.Whole.{begins_whole}
use Rattle.base_lines.proofs.law.beginnings_go_on.Goals as goal

pub returns : goal.returns
returns g c = λ engine total input text b. begins_whole (g.E.Engine.answers engine) total input text b
