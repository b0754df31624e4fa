-- Every history is fair.
use Rattle.std.proofs.Common.{◌≡◌, ◌≢◌, ◌↔◌, ℕ, ◌+◌, ◌<◌, Bool, true, false, List, [], ◌∷◌, ◌++◌, Option, Some, None, refl, sym, ap, subst, ◌∙◌, arith, append_assoc, append-nil}
use mathlib.Core.Logic.{inl, inr}
use Rattle.cedar_value.specs.declared.request.Request.{Request}
use Rattle.cedar_ast.specs.PolicyTree.{PolicyTree}
use Rattle.cedar_ast.specs.Response.{ResponseTree, response}
use Rattle.cedar_conform_values.specs.declared.conform_fault.ConformFault.{ConformFault}
use Rattle.cedar_conform_values.specs.declared.conform_fault.ConformFault.TheVariants.{OutOfMemory, DuplicateEntity, Cycle, Json, Shape, UnknownType, WrongType, MissingAttribute, ExtraAttribute, BadAncestor, ActionDiffers, NumberRange, NoSuchAction, ActionDoesNotApply}
use Rattle.cedar_conform_values.specs.Numbers.{number_of}
use Rattle.cedar_conform.specs.Requests.{LineDenotes}
use Rattle.cedar_service_law.specs.Results.{decided_by}
use Rattle.cedar_auth_spec.specs.Ready.{ReadyTree}
use Rattle.cedar_service_law.specs.Jobs.{most_steps, JobTree, IsPartToRun, are_none, job_at}
use Rattle.cedar_service_law.specs.Service.{ServiceState, first_state, Event, Reply, publish, open_job, step, take_answer, published, opened, stepped, taken, refused, greatest, Publishes, Opens, StepsLeft, StepsJob, TakesLeft, TakesJob, RefusesPublish, RefusesOpen, RefusesStep, RefusesStepLeft, RefusesTake, RefusesTakeLeft, IsFaultOfLine, Happens}
use Rattle.cedar_service_law.specs.Histories.{History, Leads, Stands, current_after, Opening, opening_of, steps_of}
use Rattle.cedar_service_law.specs.Fair.{Answers, AreFew, AreEnough, IsGone, StandsFinished, EveryHistoryIsFair}
use Rattle.cedar_service_law.proofs.Tells.{results_of_part, results_decide}
use Rattle.cedar_service_law.proofs.Costs.{EachRuns, run_short, most_steps-cons, most_steps-append, most_steps_of_part}
use Rattle.cedar_service_law.proofs.Kept.{IsUnderWay, IsJob, IsAt, Kept, keeps, kept_first, step_opening, step_steps, after}

-- a moment of a history, with the states before and after it
record IsMoment (v : ReadyTree) (before : History) (event : Event) (reply : Reply) : Type 0 where
  old : ServiceState
  kept : Kept v before old
  new : ServiceState
  happens : Happens old event reply new
  kept_new : Kept v (before ++ (event, reply) ∷ []) new

module _ (law : EachRuns) (v : ReadyTree) (last : ServiceState) where
  moment_from : (h : History) (s : ServiceState) → Kept v h s → (before : History) (event : Event) (reply : Reply) (behind : History)
      → Leads s (before ++ (event, reply) ∷ behind) last → IsMoment v (h ++ before) event reply
  moment_from h s k [] event reply behind l = subst (λ (x : History). IsMoment v x event reply) (sym (append-nil h)) (record {
    old = s;
    kept = k;
    new = l.0;
    happens = l.1;
    kept_new = keeps law v h s event reply l.0 k l.1;
  })
  moment_from h s k (m ∷ before) event reply behind l =
      subst (λ (x : History). IsMoment v x event reply) (append_assoc h (m ∷ []) before)
      (moment_from (h ++ m ∷ []) l.0 (keeps law v h s m.0 m.1 l.0 k l.1) before event reply behind l.2)

  moment : (h before : History) (event : Event) (reply : Reply) → Leads (first_state v) h last → Stands h before event reply → IsMoment v before event reply
  moment h before event reply l s =
      moment_from [] (first_state v) (kept_first v) before event reply s.0 (subst (λ (x : History). Leads (first_state v) x last) s.1 l)

-- an open that is refused
no_fault_is_803 : (fault : ConformFault) → 803 ≡ number_of fault → ⊥
no_fault_is_803 OutOfMemory e = omega (arith, e)
no_fault_is_803 (DuplicateEntity u) e = omega (arith, e)
no_fault_is_803 (Cycle u) e = omega (arith, e)
no_fault_is_803 Json e = omega (arith, e)
no_fault_is_803 Shape e = omega (arith, e)
no_fault_is_803 UnknownType e = omega (arith, e)
no_fault_is_803 WrongType e = omega (arith, e)
no_fault_is_803 MissingAttribute e = omega (arith, e)
no_fault_is_803 ExtraAttribute e = omega (arith, e)
no_fault_is_803 BadAncestor e = omega (arith, e)
no_fault_is_803 ActionDiffers e = omega (arith, e)
no_fault_is_803 NumberRange e = omega (arith, e)
no_fault_is_803 NoSuchAction e = omega (arith, e)
no_fault_is_803 ActionDoesNotApply e = omega (arith, e)

jobs_end_here : (s : ServiceState) (line : List ℕ) → RefusesOpen s line 803 → s.next_job ≡ greatest
jobs_end_here s line (inl e) = absurd (omega (arith, e))
jobs_end_here s line (inr (inl e)) = e.1
jobs_end_here s line (inr (inr e)) = absurd (no_fault_is_803 e.0 e.4)

versions_end_here : (s : ServiceState) → RefusesPublish s 803 → s.number ≡ greatest
versions_end_here s (inl e) = absurd (omega (arith, e))
versions_end_here s (inr e) = e.1

fault_here : (s : ServiceState) (line : List ℕ) (n : ℕ) → n ≢ 1 → n ≢ 803 → RefusesOpen s line n → IsFaultOfLine s.current.schema line n
fault_here s line n some more (inl e) = absurd (some e)
fault_here s line n some more (inr (inl e)) = absurd (more e.0)
fault_here s line n some more (inr (inr e)) = e

-- a job that is there was opened, and not taken
not_gone : (v : ReadyTree) (h : History) (j : ℕ) (job : JobTree) → IsJob v h j job → IsGone v h j → ⊥
not_gone v h j job k (inl e) = cc (k.opened_so, e)
not_gone v h j job k (inr e) = cc (k.there, e)

gone : (v : ReadyTree) (h : History) (j : ℕ) → IsAt v h j None → IsGone v h j
gone v h j (inl u) = inl u.not_opened
gone v h j (inr e) = inr e

-- what was told to be finished is there, and is finished
still_there : (v : ReadyTree) (h : History) (j : ℕ) → IsAt v h j None → StandsFinished h j → ⊥
still_there v h j (inl u) s = cc (u.no_end, s.told)
still_there v h j (inr e) s = cc (e, s.there)

-- the response of a finished job
answered : (v : ReadyTree) (h : History) (j : ℕ) (job : JobTree) (r : ResponseTree) → IsJob v h j job → job.left ≡ [] → r ≡ decided_by job.results
    → Answers (opening_of v h j) r
answered v h j job r k none e =
    let q = job.request in
    let w = job.version.world in
    let all : IsPartToRun q w k.ran job.version.policies.policies = subst (λ (ps : List PolicyTree). IsPartToRun q w ps job.version.policies.policies) (ap (λ (ps : List PolicyTree). k.ran ++ ps) none ∙ append-nil k.ran) k.part in
    let same : r ≡ response job.version.policies.policies q w =
    e ∙ ap decided_by (k.results ∙ results_of_part q w k.ran job.version.policies.policies all) ∙ results_decide q w job.version.policies.policies in
    let by_version : r ≡ response k.opening.version.policies.policies q k.opening.version.world =
    same ∙ ap (λ (x : ReadyTree). response x.policies.policies q x.world) k.version in
    subst (λ (o : Option Opening). Answers o r) (sym k.opened_so) (q, k.denotes, by_version)

-- an unfinished job has taken fewer steps than it can
few : EachRuns → (v : ReadyTree) (h : History) (j : ℕ) (job : JobTree) (p : PolicyTree) (rest : List PolicyTree) → IsJob v h j job → job.left ≡ p ∷ rest
    → AreFew (opening_of v h j) (steps_of h j)
few law v h j job p rest k left =
    let q = job.request in
    let w = job.version.world in
    let way : IsUnderWay job k.ran (steps_of h j) (p ∷ rest) = subst (IsUnderWay job k.ran (steps_of h j)) left k.under_way in
    let short = run_short law q w p way.0 job.configuration way.1 in
    let part : IsPartToRun q w (k.ran ++ p ∷ rest) job.version.policies.policies = subst (λ (ps : List PolicyTree). IsPartToRun q w (k.ran ++ ps) job.version.policies.policies) left k.part in
    let low : steps_of h j < most_steps job.version.policies.policies =
    omega (arith, way.2, short, most_steps_of_part q w (k.ran ++ p ∷ rest) job.version.policies.policies part, most_steps-append k.ran (p ∷ rest), most_steps-cons p rest) in
    subst (λ (o : Option Opening). AreFew o (steps_of h j)) (sym k.opened_so) (subst (λ (x : ReadyTree). steps_of h j < most_steps x.policies.policies) k.version low)

-- take
module _ (v : ReadyTree) (h : History) (old : ServiceState) (k : Kept v h old) (j : ℕ) where
  take_answers : (r : ResponseTree) (new : ServiceState) → TakesJob old j (job_at old.jobs j) r new → Answers (opening_of v h j) r
  take_answers r new t = found (job_at old.jobs j) (k.jobs j) t
    where
      left : (job : JobTree) (ps : List PolicyTree) → job.left ≡ ps → IsJob v h j job → TakesLeft old j job ps r new → Answers (opening_of v h j) r
      left job [] none is_job t = answered v h j job r is_job none t.0
      left job (p ∷ ps) some is_job t = absurd t

      found : (o : Option JobTree) → IsAt v h j o → TakesJob old j o r new → Answers (opening_of v h j) r
      found None is_at t = absurd t
      found (Some job) is_job t = left job job.left refl is_job t

  taken_there : (r : ResponseTree) (new : ServiceState) → TakesJob old j (job_at old.jobs j) r new → IsGone v h j → ⊥
  taken_there r new t g = found (job_at old.jobs j) (k.jobs j) t
    where
      found : (o : Option JobTree) → IsAt v h j o → TakesJob old j o r new → ⊥
      found None is_at t = absurd t
      found (Some job) is_job t = not_gone v h j job is_job g

  stepped_there : (finished : Bool) (new : ServiceState) → StepsJob old j (job_at old.jobs j) finished new → IsGone v h j → ⊥
  stepped_there finished new t g = found (job_at old.jobs j) (k.jobs j) t
    where
      found : (o : Option JobTree) → IsAt v h j o → StepsJob old j o finished new → ⊥
      found None is_at t = absurd t
      found (Some job) is_job t = not_gone v h j job is_job g

  refused_take : (n : ℕ) → RefusesTake (job_at old.jobs j) n → (refused n ≡ refused 801) ↔ IsGone v h j
  refused_take n r = found (job_at old.jobs j) (k.jobs j) r
    where
      wrong : (ps : List PolicyTree) → RefusesTakeLeft ps n → n ≡ 802
      wrong [] r = absurd r
      wrong (p ∷ ps) r = r

      found : (o : Option JobTree) → IsAt v h j o → RefusesTake o n → (refused n ≡ refused 801) ↔ IsGone v h j
      found None is_at r = (λ e. gone v h j is_at, λ g. ap refused r)
      found (Some job) is_job r = (λ e. let number : n ≡ 801 = cc e in absurd (omega (arith, number, wrong job.left r)), λ g. absurd (not_gone v h j job is_job g))

  refused_step : (n : ℕ) → RefusesStep (job_at old.jobs j) n → (refused n ≡ refused 801) ↔ IsGone v h j
  refused_step n r = found (job_at old.jobs j) (k.jobs j) r
    where
      wrong : (ps : List PolicyTree) → RefusesStepLeft ps n → n ≡ 1
      wrong [] r = absurd r
      wrong (p ∷ ps) r = r

      found : (o : Option JobTree) → IsAt v h j o → RefusesStep o n → (refused n ≡ refused 801) ↔ IsGone v h j
      found None is_at r = (λ e. gone v h j is_at, λ g. ap refused r)
      found (Some job) is_job r = (λ e. let number : n ≡ 801 = cc e in absurd (omega (arith, number, wrong job.left r)), λ g. absurd (not_gone v h j job is_job g))

  refused_take_few : EachRuns → RefusesTake (job_at old.jobs j) 802 → AreFew (opening_of v h j) (steps_of h j)
  refused_take_few law r = found (job_at old.jobs j) (k.jobs j) r
    where
      left : (job : JobTree) (ps : List PolicyTree) → job.left ≡ ps → IsJob v h j job → RefusesTakeLeft ps 802 → AreFew (opening_of v h j) (steps_of h j)
      left job [] none is_job r = absurd r
      left job (p ∷ ps) some is_job r = few law v h j job p ps is_job some

      found : (o : Option JobTree) → IsAt v h j o → RefusesTake o 802 → AreFew (opening_of v h j) (steps_of h j)
      found None is_at r = absurd (omega (arith, r))
      found (Some job) is_job r = left job job.left refl is_job r

  told_refuses_take : (n : ℕ) → RefusesTake (job_at old.jobs j) n → StandsFinished h j → ⊥
  told_refuses_take n r s = found (job_at old.jobs j) (k.jobs j) r
    where
      left : (job : JobTree) (ps : List PolicyTree) → are_none ps ≡ true → RefusesTakeLeft ps n → ⊥
      left job [] none r = r
      left job (p ∷ ps) none r = cc none

      found : (o : Option JobTree) → IsAt v h j o → RefusesTake o n → ⊥
      found None is_at r = still_there v h j is_at s
      found (Some job) is_job r = left job job.left (is_job.told s.told) r

  told_refuses_step : (n : ℕ) → RefusesStep (job_at old.jobs j) n → StandsFinished h j → ⊥
  told_refuses_step n r s = found (job_at old.jobs j) (k.jobs j) r
    where
      left : (job : JobTree) (ps : List PolicyTree) → are_none ps ≡ true → RefusesStepLeft ps n → ⊥
      left job [] none r = r
      left job (p ∷ ps) none r = cc none

      found : (o : Option JobTree) → IsAt v h j o → RefusesStep o n → ⊥
      found None is_at r = still_there v h j is_at s
      found (Some job) is_job r = left job job.left (is_job.told s.told) r

  told_steps : (finished : Bool) (new : ServiceState) → StepsJob old j (job_at old.jobs j) finished new → StandsFinished h j → finished ≡ true
  told_steps finished new t s = found (job_at old.jobs j) (k.jobs j) t
    where
      left : (job : JobTree) (ps : List PolicyTree) → are_none ps ≡ true → StepsLeft old j job ps finished new → finished ≡ true
      left job [] none t = t.0
      left job (p ∷ ps) none t = absurd (cc none)

      found : (o : Option JobTree) → IsAt v h j o → StepsJob old j o finished new → finished ≡ true
      found None is_at t = absurd t
      found (Some job) is_job t = left job job.left (is_job.told s.told) t

-- a step that doesn't finish its job
unfinished : EachRuns → (v : ReadyTree) (h : History) (old new : ServiceState) (j : ℕ) → StepsJob old j (job_at old.jobs j) false new
    → Kept v (h ++ (step j, stepped false) ∷ []) new → AreFew (opening_of v h j) (steps_of h j + 1)
unfolding after
unfinished law v h old new j t k = found (job_at old.jobs j) t
  where
    here : AreFew (opening_of v (h ++ (step j, stepped false) ∷ []) j) (steps_of (h ++ (step j, stepped false) ∷ []) j) → AreFew (opening_of v h j) (steps_of h j + 1)
    here f =
        subst (λ (o : Option Opening). AreFew o (steps_of h j + 1)) (step_opening law v h j false)
        (subst (AreFew (opening_of v (h ++ (step j, stepped false) ∷ []) j)) (step_steps law v h j false) f)

    some : (job : JobTree) (ps : List PolicyTree) → job.left ≡ ps → false ≡ are_none ps → IsJob v (h ++ (step j, stepped false) ∷ []) j job → AreFew (opening_of v h j) (steps_of h j + 1)
    some job [] left e is_job = absurd (cc e)
    some job (p ∷ ps) left e is_job = here (few law v (h ++ (step j, stepped false) ∷ []) j job p ps is_job left)

    left : (job : JobTree) (ps : List PolicyTree) → StepsLeft old j job ps false new → AreFew (opening_of v h j) (steps_of h j + 1)
    left job [] t = absurd (cc t.0)
    left job (p ∷ ps) t = some t.0 t.0.left refl t.2 (subst (IsAt v (h ++ (step j, stepped false) ∷ []) j) t.3.changes.here (k.jobs j))

    found : (o : Option JobTree) → StepsJob old j o false new → AreFew (opening_of v h j) (steps_of h j + 1)
    found None t = absurd t
    found (Some job) t = left job job.left t

enough : (o : Option Opening) (n : ℕ) → AreFew o n → AreEnough o n → ⊥
enough None n few many = few
enough (Some o) n few many = omega (arith, few, many)

finishes : EachRuns → (v : ReadyTree) (h : History) (j : ℕ) (finished : Bool) → IsMoment v h (step j) (stepped finished)
    → AreEnough (opening_of v h j) (steps_of h j + 1) → finished ≡ true
finishes law v h j true m many = refl
finishes law v h j false m many =
    absurd (enough (opening_of v h j) (steps_of h j + 1) (unfinished law v h m.old m.new j m.happens m.kept_new) many)

-- each reply to step and take
step_gone : (v : ReadyTree) (h : History) (j : ℕ) (reply : Reply) → IsMoment v h (step j) reply → (reply ≡ refused 801) ↔ IsGone v h j
step_gone v h j (stepped finished) m = (λ e. absurd (cc e), λ g. absurd (stepped_there v h m.old m.kept j finished m.new m.happens g))
step_gone v h j (refused n) m = refused_step v h m.old m.kept j n m.happens.0
step_gone v h j _ m = absurd m.happens

take_gone : (v : ReadyTree) (h : History) (j : ℕ) (reply : Reply) → IsMoment v h (take_answer j) reply → (reply ≡ refused 801) ↔ IsGone v h j
take_gone v h j (taken r) m = (λ e. absurd (cc e), λ g. absurd (taken_there v h m.old m.kept j r m.new m.happens g))
take_gone v h j (refused n) m = refused_take v h m.old m.kept j n m.happens.0
take_gone v h j _ m = absurd m.happens

finished_take : (v : ReadyTree) (h : History) (j : ℕ) (reply : Reply) → IsMoment v h (take_answer j) reply → StandsFinished h j → (r : ResponseTree) × (reply ≡ taken r)
finished_take v h j (taken r) m s = (r, refl)
finished_take v h j (refused n) m s = absurd (told_refuses_take v h m.old m.kept j n m.happens.0 s)
finished_take v h j _ m s = absurd m.happens

finished_step : (v : ReadyTree) (h : History) (j : ℕ) (reply : Reply) → IsMoment v h (step j) reply → StandsFinished h j → reply ≡ stepped true
finished_step v h j (stepped finished) m s = ap stepped (told_steps v h m.old m.kept j finished m.new m.happens s)
finished_step v h j (refused n) m s = absurd (told_refuses_step v h m.old m.kept j n m.happens.0 s)
finished_step v h j _ m s = absurd m.happens

opened_line : (v : ReadyTree) (h : History) (line : List ℕ) (j : ℕ) → IsMoment v h (open_job line) (opened j) → (q : Request) × LineDenotes (current_after v h).schema line q
opened_line v h line j m =
    let o : Opens m.old line j m.new = m.happens in
    (o.job.request, subst (λ (w : ReadyTree). LineDenotes w.schema line o.job.request) m.kept.current o.denotes)

pub every_history_is_fair : EachRuns → EveryHistoryIsFair
every_history_is_fair law v h last leads = record {
  jobs_numbered = λ before line j s. let m = at before (open_job line) (opened j) s in let o : Opens m.old line j m.new = m.happens in o.number_is ∙ m.kept.next_job;
  versions_numbered = λ before w n s. let m = at before (publish w) (published n) s in let p : Publishes m.old w n m.new = m.happens in p.number_is ∙ ap (λ (x : ℕ). x + 1) m.kept.number;
  jobs_end = λ before line s. let m = at before (open_job line) (refused 803) s in sym m.kept.next_job ∙ jobs_end_here m.old line m.happens.0;
  versions_end = λ before w s. let m = at before (publish w) (refused 803) s in sym m.kept.number ∙ versions_end_here m.old m.happens.0;
  lines_denote = λ before line j s. opened_line v before line j (at before (open_job line) (opened j) s);
  faults_are_there = λ before line n some more s. let m = at before (open_job line) (refused n) s in
      subst (λ (w : ReadyTree). IsFaultOfLine w.schema line n) m.kept.current (fault_here m.old line n some more m.happens.0);
  answers = λ before j r s. let m = at before (take_answer j) (taken r) s in take_answers v before m.old m.kept j r m.new m.happens;
  no_such_job_to_step = λ before j reply s. step_gone v before j reply (at before (step j) reply s);
  no_such_job_to_take = λ before j reply s. take_gone v before j reply (at before (take_answer j) reply s);
  not_finished = λ before j s. let m = at before (take_answer j) (refused 802) s in refused_take_few v before m.old m.kept j law m.happens.0;
  steps_finish = λ before j finished s many. finishes law v before j finished (at before (step j) (stepped finished) s) many;
  finished_is_taken = λ before j reply s f. finished_take v before j reply (at before (take_answer j) reply s) f;
  finished_stays = λ before j reply s f. finished_step v before j reply (at before (step j) reply s) f;
}
  where
    at : (before : History) (event : Event) (reply : Reply) → Stands h before event reply → IsMoment v before event reply
    at before event reply s = moment law v last h before event reply leads s
