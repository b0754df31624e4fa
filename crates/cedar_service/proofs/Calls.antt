-- The events of a service's calls.
use Rattle.std.proofs.Common.{◌≡◌, ℕ, Bool, true, false, List, [], ◌∷◌, Option, Some, None, refl, subst}
use Rattle.cedar_ast.specs.PolicyTree.{PolicyTree}
use Rattle.cedar_ast.specs.Response.{ResponseTree}
use Rattle.cedar_service_law.specs.Results.{decided_by}
use Rattle.cedar_service_law.specs.Jobs.{JobTree, job_at, are_none, is_finished}
use Rattle.cedar_service_law.specs.Service.{ServiceState, StepsLeft, StepsJob, TakesLeft, TakesJob, RefusesStepLeft, RefusesStep, RefusesTakeLeft, RefusesTake, ChangesJob}
use Rattle.cedar_service.specs.Private.Steps.{StepsTo}
use Rattle.cedar_machine.specs.RestingView.{RestingView}
use Rattle.cedar_service.specs.Runs.{IsRunOf, IsRunAt}

module _ (s : ServiceState) (j : ℕ) where
  pub no_take : None ≡ job_at s.jobs j → RefusesTake (job_at s.jobs j) 801
  no_take e = subst (λ (o : Option JobTree). RefusesTake o 801) e refl

  pub no_step : None ≡ job_at s.jobs j → RefusesStep (job_at s.jobs j) 801
  no_step e = subst (λ (o : Option JobTree). RefusesStep o 801) e refl

  early : (ps : List PolicyTree) → are_none ps ≡ false → RefusesTakeLeft ps 802
  early [] e = absurd (cc e)
  early (p ∷ ps) e = refl

  pub early_take : (job : JobTree) → Some job ≡ job_at s.jobs j → is_finished job ≡ false → RefusesTake (job_at s.jobs j) 802
  early_take job e left = subst (λ (o : Option JobTree). RefusesTake o 802) e (early job.left left)

  takes_left : (job : JobTree) (r : ResponseTree) (new : ServiceState) (ps : List PolicyTree) → are_none ps ≡ true → r ≡ decided_by job.results → ChangesJob s j None new → TakesLeft s j job ps r new
  takes_left job r new [] e gives changes = (gives, changes)
  takes_left job r new (p ∷ ps) e gives changes = absurd (cc e)

  pub takes_job : (job : JobTree) (r : ResponseTree) (new : ServiceState) → Some job ≡ job_at s.jobs j → is_finished job ≡ true → r ≡ decided_by job.results → ChangesJob s j None new
      → TakesJob s j (job_at s.jobs j) r new
  takes_job job r new e none gives changes = subst (λ (o : Option JobTree). TakesJob s j o r new) e (takes_left job r new job.left none gives changes)

  stays_left : (job : JobTree) (ps : List PolicyTree) → are_none ps ≡ true → StepsLeft s j job ps true s
  stays_left job [] e = (refl, refl)
  stays_left job (p ∷ ps) e = absurd (cc e)

  pub finished_step : (job : JobTree) → Some job ≡ job_at s.jobs j → is_finished job ≡ true → StepsJob s j (job_at s.jobs j) true s
  finished_step job e none = subst (λ (o : Option JobTree). StepsJob s j o true s) e (stays_left job job.left none)

  refused_left : (ps : List PolicyTree) → are_none ps ≡ false → RefusesStepLeft ps 1
  refused_left [] e = absurd (cc e)
  refused_left (p ∷ ps) e = refl

  pub refused_step : (job : JobTree) → Some job ≡ job_at s.jobs j → is_finished job ≡ false → RefusesStep (job_at s.jobs j) 1
  refused_step job e left = subst (λ (o : Option JobTree). RefusesStep o 1) e (refused_left job.left left)

  steps_left : (job after : JobTree) (finished : Bool) (new : ServiceState) (ps : List PolicyTree) → are_none ps ≡ false → StepsTo job ps finished after → ChangesJob s j (Some after) new → StepsLeft s j job ps finished new
  steps_left job after finished new [] e to changes = absurd (cc e)
  steps_left job after finished new (p ∷ ps) e to changes = (after, to.0, to.1, changes)

  pub steps_job_so : (job after : JobTree) (finished : Bool) (new : ServiceState) → Some job ≡ job_at s.jobs j → is_finished job ≡ false → StepsTo job job.left finished after → ChangesJob s j (Some after) new
      → StepsJob s j (job_at s.jobs j) finished new
  steps_job_so job after finished new e left to changes = subst (λ (o : Option JobTree). StepsJob s j o finished new) e (steps_left job after finished new job.left left to changes)

  pub no_run : None ≡ job_at s.jobs j → IsRunAt (job_at s.jobs j) None
  no_run e = subst (λ (o : Option JobTree). IsRunAt o None) e refl

  pub run_so : (job : JobTree) (r : Option RestingView) → Some job ≡ job_at s.jobs j → IsRunOf job r → IsRunAt (job_at s.jobs j) r
  run_so job r e h = subst (λ (o : Option JobTree). IsRunAt o r) e h
