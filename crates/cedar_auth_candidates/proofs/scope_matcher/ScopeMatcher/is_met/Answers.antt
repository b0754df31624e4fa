use Rattle.std.proofs.Common.{sym, ◌∙◌}
use Rattle.cedar_auth_candidates.proofs.Unmet.{met, unmet}
use Rattle.cedar_auth_candidates.proofs.scope_matcher.ScopeMatcher.is_met.Goals as goal

pub returns-clause-met : goal.returns-clause-met
returns-clause-met g c = λ is. met c.args.scope.now c.args.self.now.request c.args.self.now.world (sym c.meets.ensures.met ∙ is)

pub returns-clause-unmet : goal.returns-clause-unmet
returns-clause-unmet g c = λ is. unmet c.args.scope.now c.args.self.now.request c.args.self.now.world (sym c.meets.ensures.met ∙ is)
