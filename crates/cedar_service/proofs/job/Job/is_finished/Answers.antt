use Rattle.std.proofs.Common.{not, ap, sym, ◌∙◌}
use Rattle.cedar_service.proofs.Lefts.{finished_so, twice}
use Rattle.cedar_service.proofs.job.Job.is_finished.Goals as goal

pub returns : goal.returns
returns c = rw (← c.self.view_is) (sym (finished_so _ _ _ _ c.self.invariant.within c.self.invariant.under_way ∙ ap not c.is_none.ensures ∙ twice c.is_none.result))
