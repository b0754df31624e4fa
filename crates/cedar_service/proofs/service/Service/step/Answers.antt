use Rattle.std.proofs.Common.{◌≡◌, Some, None, true, false, refl, sym, ap, subst, ◌∙◌}
use Rattle.std.specs.Prelude.{nat_eq}
use Rattle.std.specs.Map.{set_value}
use Rattle.cedar_service_law.specs.Jobs.{JobTree, Jobs, job_at, is_finished, ChangesAt}
use Rattle.cedar_service_law.specs.Service.{ServiceState, RefusesStep, StepsJob}
use Rattle.cedar_service.proofs.Tables.{found_at, set_changes, set_same}
use Rattle.cedar_service.proofs.Calls.{no_step, finished_step, refused_step, steps_job_so}
use Rattle.cedar_service.proofs.service.Service.step.Goals as goal

pub returns-in-None-clause-refused : goal.returns-in-None-clause-refused
returns-in-None-clause-refused c =
    let s : ServiceState = record { number = c.self.inside.number; current = c.self.inside.current.value; next_job = c.self.inside.next_job; jobs = c.self.inside.jobs.entries } in
    let at : None ≡ job_at s.jobs c.args.id = c.in-None.ensures.value ∙ found_at s.jobs c.args.id in
    (subst (λ (x : ServiceState). RefusesStep (job_at x.jobs c.args.id) 801) c.self.view_is (no_step s c.args.id at), refl)

pub returns-then-is_finished-clause-ok : goal.returns-then-is_finished-clause-ok
returns-then-is_finished-clause-ok c =
    let s : ServiceState = record { number = c.self.inside.number; current = c.self.inside.current.value; next_job = c.self.inside.next_job; jobs = c.self.inside.jobs.entries } in
    let at : Some c.in-Some.job.now ≡ job_at s.jobs c.args.id = c.in-Some.ensures.value ∙ found_at s.jobs c.args.id in
    let done : is_finished c.in-Some.job.now ≡ true = sym c.is_finished.ensures ∙ c.if-is_finished.true in
    subst (λ (x : ServiceState). StepsJob x c.args.id (job_at x.jobs c.args.id) true x) c.self.view_is (finished_step s c.args.id c.in-Some.job.now at done)

pub returns-clause-ok : goal.returns-clause-ok
returns-clause-ok c =
    let s : ServiceState = record { number = c.self.inside.number; current = c.self.inside.current.value; next_job = c.self.inside.next_job; jobs = c.self.inside.jobs.entries } in
    let seen : Some c.in-Some.job.now ≡ job_at s.jobs c.args.id = c.in-Some.ensures.value ∙ found_at s.jobs c.args.id in
    let at : Some c.in-Some-get_mut.job.now ≡ job_at s.jobs c.args.id = c.in-Some-get_mut.ensures.value ∙ found_at s.jobs c.args.id in
    let both : Some c.in-Some.job.now ≡ Some c.in-Some-get_mut.job.now = seen ∙ sym at in
    let same : c.in-Some.job.now ≡ c.in-Some-get_mut.job.now = cc both in
    let left : is_finished c.in-Some-get_mut.job.now ≡ false = ap is_finished (sym same) ∙ sym c.is_finished.ensures ∙ c.if-is_finished.false in
    let now : Jobs = (c.get_mut.follows.lender c.step.new.self).entries in
    let wrote : now ≡ set_value (nat_eq c.args.id) s.jobs c.step.new.self = (c.get_mut.follows.holds c.step.new.self).0 in
    let new : ServiceState = record s { jobs = now } in
    let changes : ChangesAt s.jobs c.args.id (Some c.step.new.self) now = subst (ChangesAt s.jobs c.args.id (Some c.step.new.self)) (sym wrote) (set_changes s.jobs c.args.id c.in-Some-get_mut.job.now c.step.new.self (sym at)) in
    subst (λ (x : ServiceState). StepsJob x c.args.id (job_at x.jobs c.args.id) c.in-Ok.finished new) c.self.view_is
    (steps_job_so s c.args.id c.in-Some-get_mut.job.now c.step.new.self c.in-Ok.finished new at left c.in-Ok.ensures.ok
    (record { changes = changes; number = refl; current = refl; next_job = refl }))

pub returns-in-Err-clause-refused : goal.returns-in-Err-clause-refused
returns-in-Err-clause-refused c =
    let s : ServiceState = record { number = c.self.inside.number; current = c.self.inside.current.value; next_job = c.self.inside.next_job; jobs = c.self.inside.jobs.entries } in
    let seen : Some c.in-Some.job.now ≡ job_at s.jobs c.args.id = c.in-Some.ensures.value ∙ found_at s.jobs c.args.id in
    let at : Some c.in-Some-get_mut.job.now ≡ job_at s.jobs c.args.id = c.in-Some-get_mut.ensures.value ∙ found_at s.jobs c.args.id in
    let both : Some c.in-Some.job.now ≡ Some c.in-Some-get_mut.job.now = seen ∙ sym at in
    let same : c.in-Some.job.now ≡ c.in-Some-get_mut.job.now = cc both in
    let left : is_finished c.in-Some-get_mut.job.now ≡ false = ap is_finished (sym same) ∙ sym c.is_finished.ensures ∙ c.if-is_finished.false in
    let now : Jobs = (c.get_mut.follows.lender c.step.new.self).entries in
    let wrote : now ≡ set_value (nat_eq c.args.id) s.jobs c.step.new.self = (c.get_mut.follows.holds c.step.new.self).0 in
    let unchanged : now ≡ s.jobs =
    wrote ∙ ap (λ (x : JobTree). set_value (nat_eq c.args.id) s.jobs x) c.in-Err.ensures.refused ∙ set_same s.jobs c.args.id c.in-Some-get_mut.job.now (sym at) in (
      subst (λ (x : ServiceState). RefusesStep (job_at x.jobs c.args.id) 1) c.self.view_is (refused_step s c.args.id c.in-Some-get_mut.job.now at left),
      ap (λ (l : Jobs). record s { jobs = l }) unchanged ∙ c.self.view_is,
    )
