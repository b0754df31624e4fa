use Rattle.std.proofs.Common.{ℕ, ◌<◌, nat_lt, List, All, length, refl, sym, ap, subst, ◌∙◌}
use Rattle.cedar_auth_spec.specs.Candidates.{OthersAreFalse}
use Rattle.cedar_auth_spec.specs.Ready.{ReadyTree}
use Rattle.cedar_service.proofs.Lefts.{begun_at}
use Rattle.cedar_service.proofs.Positions.{candidates_within, candidates_part}
use Rattle.cedar_service.proofs.Reached.{reached_first, none_allowed}
use Rattle.cedar_service.proofs.job.Job.new.Goals as goal

pub begin-requires : goal.begin-requires
begin-requires c =
    let ks = c.in_ok-positions.positions.items in
    let v : ReadyTree = c.args.version.value in
    let seen = subst (OthersAreFalse c.deref.result.now.policies.policies c.args.request c.deref.result.now.world) (sym c.in_ok-positions.ensures) c.candidates.ensures.others in
    let are = subst (λ (x : ReadyTree). OthersAreFalse x.policies.policies c.args.request x.world ks) c.deref.ensures seen in
    subst (λ (x : ReadyTree). All (λ (k : ℕ). k < length x.policies.policies) c.deref-3.result.now) (sym c.deref-2.ensures)
    (subst (λ (xs : List ℕ). All (λ (k : ℕ). k < length v.policies.policies) xs) (sym c.deref-3.ensures.value) (candidates_within v.policies.policies c.args.request v.world ks are))

pub invariant_of-result : goal.invariant_of-result
invariant_of-result c =
    let ks = c.in_ok-positions.positions.items in
    let v : ReadyTree = c.args.version.value in
    let seen = subst (OthersAreFalse c.deref.result.now.policies.policies c.args.request c.deref.result.now.world) (sym c.in_ok-positions.ensures) c.candidates.ensures.others in
    let are = subst (λ (x : ReadyTree). OthersAreFalse x.policies.policies c.args.request x.world ks) c.deref.ensures seen in
    record {
      fits = c.requires;
      within = candidates_within v.policies.policies c.args.request v.world ks are;
      under_way = c.in_ok-run.ensures.under_way ∙ ap (λ (xs : List ℕ). nat_lt 0 (length xs)) c.deref-3.ensures.value;
      reached = reached_first v c.args.request _ c.in_ok-run.run' c.in_ok-run.ensures.at_start;
      allowed = none_allowed v.settings c.new.result c.new.ensures;
    }

pub returns-clause-fresh : goal.returns-clause-fresh
returns-clause-fresh c =
    let ks = c.in_ok-positions.positions.items in
    let v : ReadyTree = c.args.version.value in
    let seen = subst (OthersAreFalse c.deref.result.now.policies.policies c.args.request c.deref.result.now.world) (sym c.in_ok-positions.ensures) c.candidates.ensures.others in
    let are = subst (λ (x : ReadyTree). OthersAreFalse x.policies.policies c.args.request x.world ks) c.deref.ensures seen in
    record {
      version_is = refl;
      to_run = candidates_part v.policies.policies c.args.request v.world ks are;
      nothing_entered = c.new.ensures;
      at_start = begun_at c.in_ok-run.run' c.in_ok-run.ensures.at_start;
    }
