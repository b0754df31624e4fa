use Rattle.std.proofs.Common.{◌≡◌, Option, Some, None, true, false, refl, sym, ap, subst, ◌∙◌}
use Rattle.cedar_service_law.specs.Jobs.{JobTree, job_at, is_finished}
use Rattle.cedar_service_law.specs.Service.{ServiceState, RefusesTake, TakesJob}
use Rattle.cedar_service.specs.Errors.{NamesAllowed}
use Rattle.cedar_service.proofs.Tables.{found_at, changed_at}
use Rattle.cedar_service.proofs.Calls.{no_take, early_take, takes_job}
use Rattle.cedar_service.proofs.service.Service.take.Goals as goal

pub returns-in-None-clause-refused : goal.returns-in-None-clause-refused
returns-in-None-clause-refused c =
    let s : ServiceState = record { number = c.self.inside.number; current = c.self.inside.current.value; next_job = c.self.inside.next_job; jobs = c.self.inside.jobs.entries } in
    let at : None ≡ job_at s.jobs c.args.id = c.in-None.ensures.value ∙ found_at s.jobs c.args.id in
    (subst (λ (x : ServiceState). RefusesTake (job_at x.jobs c.args.id) 801) c.self.view_is (no_take s c.args.id at), refl)

pub returns-then-not-is_finished-clause-refused : goal.returns-then-not-is_finished-clause-refused
returns-then-not-is_finished-clause-refused c =
    let s : ServiceState = record { number = c.self.inside.number; current = c.self.inside.current.value; next_job = c.self.inside.next_job; jobs = c.self.inside.jobs.entries } in
    let at : Some c.in-Some.job.now ≡ job_at s.jobs c.args.id = c.in-Some.ensures.value ∙ found_at s.jobs c.args.id in
    let left : is_finished c.in-Some.job.now ≡ false = sym c.is_finished.ensures ∙ c.if-not-is_finished.true in
    (subst (λ (x : ServiceState). RefusesTake (job_at x.jobs c.args.id) 802) c.self.view_is (early_take s c.args.id c.in-Some.job.now at left), refl)

pub returns-clause-ok : goal.returns-clause-ok
returns-clause-ok c =
    let s : ServiceState = record { number = c.self.inside.number; current = c.self.inside.current.value; next_job = c.self.inside.next_job; jobs = c.self.inside.jobs.entries } in
    let new : ServiceState = record s { jobs = c.remove.new.self.entries } in
    let at : Some c.in-Some.job.now ≡ job_at s.jobs c.args.id = c.in-Some.ensures.value ∙ found_at s.jobs c.args.id in
    let gone : Some c.in-Some-remove.job ≡ job_at s.jobs c.args.id = c.in-Some-remove.ensures.value ∙ found_at s.jobs c.args.id in
    let both : Some c.in-Some.job.now ≡ Some c.in-Some-remove.job = at ∙ sym gone in
    let same : c.in-Some.job.now ≡ c.in-Some-remove.job = cc both in
    let done : is_finished c.in-Some-remove.job ≡ true = ap is_finished (sym same) ∙ sym c.is_finished.ensures ∙ c.if-not-is_finished.false in
    subst (λ (x : ServiceState). TakesJob x c.args.id (job_at x.jobs c.args.id) c.into_response.result new) c.self.view_is
    (takes_job s c.args.id c.in-Some-remove.job c.into_response.result new gone done c.into_response.ensures.decided
    (record { changes = changed_at c.self.inside.jobs c.remove.new.self c.args.id None c.in-Some-remove.ensures.updates; number = refl; current = refl; next_job = refl }))

pub returns-clause-errors : goal.returns-clause-errors
returns-clause-errors c =
    let s : ServiceState = record { number = c.self.inside.number; current = c.self.inside.current.value; next_job = c.self.inside.next_job; jobs = c.self.inside.jobs.entries } in
    let gone : Some c.in-Some-remove.job ≡ job_at s.jobs c.args.id = c.in-Some-remove.ensures.value ∙ found_at s.jobs c.args.id in
    subst (λ (x : ServiceState). NamesAllowed (job_at x.jobs c.args.id) c.into_response.result) c.self.view_is
    (subst (λ (o : Option JobTree). NamesAllowed o c.into_response.result) gone c.into_response.ensures.errors)
