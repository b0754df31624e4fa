use Rattle.std.proofs.Common.{◌≡◌, ◌+◌, ◌<◌, Some, refl, sym, subst, arith}
use Rattle.cedar_conform.specs.Requests.{LineDenotes}
use Rattle.cedar_auth_spec.specs.Ready.{ReadyTree}
use Rattle.cedar_service_law.specs.Jobs.{JobTree, IsFresh}
use Rattle.cedar_service_law.specs.Service.{ServiceState, Opens, greatest}
use Rattle.cedar_service.proofs.Tables.{changed_at}
use Rattle.cedar_service.proofs.service.Service.open.Goals as goal

pub returns-clause-ok : goal.returns-clause-ok
returns-clause-ok c =
    let s : ServiceState = record { number = c.self.inside.number; current = c.self.inside.current.value; next_job = c.self.inside.next_job; jobs = c.self.inside.jobs.entries } in
    let new : ServiceState = record s { next_job = s.next_job + 1; jobs = c.put.new.table.entries } in
    let job : JobTree = c.in_ok-job.job in
    let read : LineDenotes s.current.schema c.args.line.now c.in-Ok.request = subst (λ (v : ReadyTree). LineDenotes v.schema c.args.line.now c.in-Ok.request) c.deref.ensures c.in-Ok.ensures.denotes in
    let denotes : LineDenotes s.current.schema c.args.line.now job.request = subst (LineDenotes s.current.schema c.args.line.now) (sym c.in_ok-job.ensures.request) read in
    let same : c.in_ok-version.version.value ≡ s.current = c.in_ok-version.ensures in
    let fresh : IsFresh s.current job = subst (λ (v : ReadyTree). IsFresh v job) same c.in_ok-job.ensures.fresh in
    let below : s.next_job < greatest = omega (arith, c.if-self.false) in
    subst (λ (x : ServiceState). Opens x c.args.line.now c.self.inside.next_job new) c.self.view_is (record {
      numbers_left = below;
      number_is = refl;
      job = job;
      denotes = denotes;
      fresh = fresh;
      changes = changed_at c.self.inside.jobs c.put.new.table s.next_job (Some job) c.in_ok-put.ensures.ok;
      number = refl;
      current = refl;
      next_job = refl;
    })
