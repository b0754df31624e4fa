use Rattle.std.proofs.Common.{refl, subst, drop, option_copied}
use Rattle.cedar_service_law.specs.Jobs.{JobTree}
use Rattle.cedar_service.specs.Private.Kept.{configuration_of}
use Rattle.cedar_service.specs.Private.Parts.{policies_at}
use Rattle.cedar_service.specs.Runs.{IsRunOf}
use Rattle.cedar_service.proofs.Lefts.{finished_so, run_of}
use Rattle.cedar_service.proofs.job.Job.running.Goals as goal

pub returns : goal.returns
returns c =
    let v = c.self.inside.version.value in
    let old : JobTree = record { version = v; request = c.self.inside.request; left = policies_at v.policies.policies (drop c.self.inside.done c.self.inside.positions.items); results = c.self.inside.results; configuration = configuration_of c.self.inside.run } in
    subst (λ (j : JobTree). IsRunOf j (option_copied c.as_ref.result)) c.self.view_is (run_of old c.self.inside.run _ (finished_so _ _ _ _ c.self.invariant.within c.self.invariant.under_way) refl c.self.invariant.reached c.as_ref.ensures.value)
