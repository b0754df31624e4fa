use Rattle.std.proofs.Common.{◌≡◌, Some, None, subst, option_copied, ◌∙◌}
use Rattle.cedar_service_law.specs.Jobs.{job_at}
use Rattle.cedar_service_law.specs.Service.{ServiceState}
use Rattle.cedar_service.specs.Runs.{IsRunAt}
use Rattle.cedar_service.proofs.Tables.{found_at}
use Rattle.cedar_service.proofs.Calls.{no_run, run_so}
use Rattle.cedar_service.proofs.service.Service.running.Goals as goal

pub returns-in-None : goal.returns-in-None
returns-in-None c =
    let s : ServiceState = record { number = c.self.inside.number; current = c.self.inside.current.value; next_job = c.self.inside.next_job; jobs = c.self.inside.jobs.entries } in
    let at : None ≡ job_at s.jobs c.args.id = c.in-None.ensures.value ∙ found_at s.jobs c.args.id in
    subst (λ (x : ServiceState). IsRunAt (job_at x.jobs c.args.id) None) c.self.view_is (no_run s c.args.id at)

pub returns-in-Some : goal.returns-in-Some
returns-in-Some c =
    let s : ServiceState = record { number = c.self.inside.number; current = c.self.inside.current.value; next_job = c.self.inside.next_job; jobs = c.self.inside.jobs.entries } in
    let at : Some c.in-Some.job.now ≡ job_at s.jobs c.args.id = c.in-Some.ensures.value ∙ found_at s.jobs c.args.id in
    subst (λ (x : ServiceState). IsRunAt (job_at x.jobs c.args.id) (option_copied c.running.result)) c.self.view_is (run_so s c.args.id c.in-Some.job.now _ at c.running.ensures)
