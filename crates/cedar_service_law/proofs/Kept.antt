-- What holds along each history.
use Rattle.std.proofs.Common.{◌≡◌, ◌≢◌, ◌⊎◌, ℕ, suc, ◌+◌, ◌≤◌, ◌==◌, Bool, true, false, ◌&&◌, ◌||◌, cond, if◌then◌else◌, List, [], ◌∷◌, ◌++◌, Option, Some, None, refl, sym, ap, subst, ◌∙◌, arith, append_assoc}
use mathlib.Core.Logic.{inl, inr}
use native.Mathlib.Decide.{ℕ_discrete}
use Rattle.std.specs.Option.{option_or}
use Rattle.std.proofs.lemmas.Bool.Decides.{nat_tests}
use Rattle.cedar_ast.specs.PolicyTree.{PolicyTree}
use Rattle.cedar_ast.specs.Response.{ResponseTree}
use Rattle.cedar_value.specs.Datum.{Datum}
use Rattle.cedar_code.specs.declared.outcome.Outcome.{Outcome}
use Rattle.cedar_code.specs.Machine.{Configuration, going, ended, start, Step, Steps}
use Rattle.cedar_conform.specs.Requests.{LineDenotes}
use Rattle.cedar_service_law.specs.Results.{Results, entered}
use Rattle.cedar_auth_spec.specs.Ready.{ReadyTree}
use Rattle.cedar_auth_spec.specs.Codes.{policy_code}
use Rattle.cedar_service_law.specs.Jobs.{most_steps, JobTree, IsPartToRun, IsFresh, are_none, is_finished, Advances, job_at}
use Rattle.cedar_service_law.specs.Service.{ServiceState, first_state, Event, Reply, publish, open_job, step, take_answer, published, opened, stepped, taken, refused, Publishes, Opens, ChangesJob, StepsLeft, StepsJob, TakesLeft, TakesJob, Happens}
use Rattle.cedar_service_law.specs.Histories.{Moment, History, is_open, is_publication, opens, publications, version_after, current_after, Opening, opening_by, opening_of, takes, was_taken, steps_job, steps_of, ends_job, was_finished}
use Rattle.cedar_service_law.proofs.Tells.{results_of, results_of-append}
use Rattle.cedar_service_law.proofs.Costs.{EachRuns, run_short, run_ends, most_steps-cons, most_steps-append}
use Rattle.cedar_service_law.proofs.Moments.{count_more, any_more, current_more, opening_more, or_false, or_none}

-- the moment is of no step, answer or opening of the job
pub record IsAside (j : ℕ) (m : Moment) : Type 0 where
  pub not_opening : (w : ReadyTree) → opening_by w m j ≡ None
  pub not_step : steps_job j m ≡ false
  pub not_end : ends_job j m ≡ false
  pub not_taking : takes j m ≡ false

-- nothing was answered of the job
pub record IsUnused (v : ReadyTree) (h : History) (j : ℕ) : Type 0 where
  pub not_opened : opening_of v h j ≡ None
  pub no_steps : steps_of h j ≡ 0
  pub no_end : was_finished h j ≡ false
  pub not_taken : was_taken h j ≡ false

-- the configuration of the policy under way was reached by some of the steps, and those before went into the policies that ran
abbrev pub IsUnderWay : JobTree → List PolicyTree → ℕ → List PolicyTree → Type 0
IsUnderWay job ran steps [] = Unit {0}
IsUnderWay job ran steps (p ∷ rest) =
    (n : ℕ) × Steps (policy_code p) job.request job.version.world n start job.configuration × (steps ≤ most_steps ran + n)

-- the job is as its history tells
pub record IsJob (v : ReadyTree) (h : History) (j : ℕ) (job : JobTree) : Type 0 where
  pub opening : Opening
  pub opened_so : opening_of v h j ≡ Some opening
  pub version : job.version ≡ opening.version
  pub denotes : LineDenotes opening.version.schema opening.line job.request
  pub there : was_taken h j ≡ false
  pub ran : List PolicyTree
  pub part : IsPartToRun job.request job.version.world (ran ++ job.left) job.version.policies.policies
  pub results : job.results ≡ results_of job.request job.version.world ran
  pub under_way : IsUnderWay job ran (steps_of h j) job.left
  pub told : was_finished h j ≡ true → are_none job.left ≡ true

abbrev pub IsAt : ReadyTree → History → ℕ → Option JobTree → Type 0
IsAt v h j None = IsUnused v h j ⊎ (was_taken h j ≡ true)
IsAt v h j (Some job) = IsJob v h j job

-- the state is as the history tells
pub record Kept (v : ReadyTree) (h : History) (s : ServiceState) : Type 0 where
  pub number : s.number ≡ publications h
  pub current : s.current ≡ current_after v h
  pub next_job : s.next_job ≡ opens h
  pub jobs : (j : ℕ) → IsAt v h j (job_at s.jobs j)
  pub later : (j : ℕ) → s.next_job ≤ j → IsUnused v h j

not_same : (i j : ℕ) → i ≢ j → (i == j) ≡ false
not_same i j n = grind (arith, nat_tests)

pub itself : (j : ℕ) → (j == j) ≡ true
itself j = grind (arith, nat_tests)

and_false : (a b : Bool) → b ≡ false → (a && b) ≡ false
and_false true b e = e
and_false false b e = refl

or_true : (a b : Bool) → b ≡ true → (a || b) ≡ true
or_true true b e = refl
or_true false b e = e

-- a moment aside leaves what is told of a job
module _ (v : ReadyTree) (h : History) (j : ℕ) (m : Moment) (aside : IsAside j m) where
  pub opening_aside : opening_of v (h ++ m ∷ []) j ≡ opening_of v h j
  opening_aside =
      opening_more v h m j
      ∙ ap (λ (o : Option Opening). option_or (opening_of v h j) o) (aside.not_opening (current_after v h))
      ∙ or_none (opening_of v h j)

  pub steps_aside : steps_of (h ++ m ∷ []) j ≡ steps_of h j
  steps_aside = count_more (steps_job j) h m ∙ ap (λ (b : Bool). steps_of h j + cond b 1 0) aside.not_step ∙ omega arith

  end_aside : was_finished (h ++ m ∷ []) j ≡ was_finished h j
  end_aside = any_more (ends_job j) h m ∙ ap (λ (b : Bool). was_finished h j || b) aside.not_end ∙ or_false (was_finished h j)

  taken_aside : was_taken (h ++ m ∷ []) j ≡ was_taken h j
  taken_aside = any_more (takes j) h m ∙ ap (λ (b : Bool). was_taken h j || b) aside.not_taking ∙ or_false (was_taken h j)

  unused_aside : IsUnused v h j → IsUnused v (h ++ m ∷ []) j
  unused_aside u = record {
    not_opened = opening_aside ∙ u.not_opened;
    no_steps = steps_aside ∙ u.no_steps;
    no_end = end_aside ∙ u.no_end;
    not_taken = taken_aside ∙ u.not_taken;
  }

  at_aside : (o : Option JobTree) → IsAt v h j o → IsAt v (h ++ m ∷ []) j o
  at_aside None (inl u) = inl (unused_aside u)
  at_aside None (inr e) = inr (taken_aside ∙ e)
  at_aside (Some job) k = record {
    opening = k.opening;
    opened_so = opening_aside ∙ k.opened_so;
    version = k.version;
    denotes = k.denotes;
    there = taken_aside ∙ k.there;
    ran = k.ran;
    part = k.part;
    results = k.results;
    under_way = subst (λ (n : ℕ). IsUnderWay job k.ran n job.left) (sym steps_aside) k.under_way;
    told = λ e. k.told (sym end_aside ∙ e);
  }

-- a moment that opens and publishes nothing
pub record IsQuiet (m : Moment) : Type 0 where
  pub opens_none : is_open m ≡ false
  pub publishes_none : is_publication m ≡ false
  pub same_version : (w : ReadyTree) → version_after w m ≡ w

module _ (v : ReadyTree) (h : History) (m : Moment) (quiet : IsQuiet m) where
  quiet_publications : publications (h ++ m ∷ []) ≡ publications h
  quiet_publications = count_more is_publication h m ∙ ap (λ (b : Bool). publications h + cond b 1 0) quiet.publishes_none ∙ omega arith

  quiet_opens : opens (h ++ m ∷ []) ≡ opens h
  quiet_opens = count_more is_open h m ∙ ap (λ (b : Bool). opens h + cond b 1 0) quiet.opens_none ∙ omega arith

  quiet_current : current_after v (h ++ m ∷ []) ≡ current_after v h
  quiet_current = current_more v h m ∙ quiet.same_version (current_after v h)

  -- nothing is changed, and no job is spoken of
  kept_still : (old new : ServiceState) → Kept v h old → ((j : ℕ) → IsAside j m) → new ≡ old → Kept v (h ++ m ∷ []) new
  kept_still old new k aside e = subst (Kept v (h ++ m ∷ [])) (sym e) (record {
    number = k.number ∙ sym quiet_publications;
    current = k.current ∙ sym quiet_current;
    next_job = k.next_job ∙ sym quiet_opens;
    jobs = λ j. at_aside v h j m (aside j) (job_at old.jobs j) (k.jobs j);
    later = λ j low. unused_aside v h j m (aside j) (k.later j low);
  })

  -- one job is changed that was there
  kept_change : (old new : ServiceState) (j : ℕ) (job : Option JobTree) → Kept v h old → ((i : ℕ) → j ≢ i → IsAside i m) → (IsUnused v h j → ⊥)
      → ChangesJob old j job new → IsAt v (h ++ m ∷ []) j job → Kept v (h ++ m ∷ []) new
  kept_change old new j job k aside used c there = record {
    number = c.number ∙ k.number ∙ sym quiet_publications;
    current = c.current ∙ k.current ∙ sym quiet_current;
    next_job = c.next_job ∙ k.next_job ∙ sym quiet_opens;
    jobs = λ i. at i (ℕ_discrete j i);
    later = λ i low. unused i (ℕ_discrete j i) (k.later i (omega (arith, c.next_job)));
  }
    where
      at : (i : ℕ) → Dec (j ≡ i) → IsAt v (h ++ m ∷ []) i (job_at new.jobs i)
      at i (yes e) = subst (λ (n : ℕ). IsAt v (h ++ m ∷ []) n (job_at new.jobs n)) e (subst (IsAt v (h ++ m ∷ []) j) (sym c.changes.here) there)
      at i (no n) = subst (IsAt v (h ++ m ∷ []) i) (sym (c.changes.elsewhere i (λ e. n (sym e)))) (at_aside v h i m (aside i n) (job_at old.jobs i) (k.jobs i))

      unused : (i : ℕ) → Dec (j ≡ i) → IsUnused v h i → IsUnused v (h ++ m ∷ []) i
      unused i (yes e) u = absurd (used (subst (IsUnused v h) (sym e) u))
      unused i (no n) u = unused_aside v h i m (aside i n) u

job_used : (v : ReadyTree) (h : History) (j : ℕ) (job : JobTree) → IsJob v h j job → IsUnused v h j → ⊥
job_used v h j job k u =
    let a = k.opened_so in
    let b = u.not_opened in
    cc (a, b)

-- a step of a job
step_aside : (i j : ℕ) (finished : Bool) → i ≢ j → IsAside j (step i, stepped finished)
step_aside i j finished n = record {
  not_opening = λ w. refl;
  not_step = not_same i j n;
  not_end = and_false finished (i == j) (not_same i j n);
  not_taking = refl;
}

module _ (law : EachRuns) (v : ReadyTree) (h : History) (j : ℕ) (finished : Bool) where
  unfoldable pub after : History
  after = h ++ (step j, stepped finished) ∷ []

  pub step_opening : opening_of v after j ≡ opening_of v h j
  unfolding after
  step_opening = opening_more v h (step j, stepped finished) j ∙ or_none (opening_of v h j)

  pub step_steps : steps_of after j ≡ steps_of h j + 1
  unfolding after
  step_steps = count_more (steps_job j) h (step j, stepped finished) ∙ ap (λ (b : Bool). steps_of h j + cond b 1 0) (itself j)

  step_taken : was_taken after j ≡ was_taken h j
  unfolding after
  step_taken = any_more (takes j) h (step j, stepped finished) ∙ or_false (was_taken h j)

  -- what is told now was told before, or is told by this step
  step_told : was_finished after j ≡ true → (was_finished h j ≡ true) ⊎ (finished ≡ true)
  unfolding after
  step_told e = told (was_finished h j) finished (j == j) (sym (any_more (ends_job j) h (step j, stepped finished)) ∙ e)
    where
      told : (a b c : Bool) → (a || (b && c)) ≡ true → (a ≡ true) ⊎ (b ≡ true)
      told true b c e = inl refl
      told false true c e = inr refl
      told false false c e = absurd (cc e)

  -- a finished job stays as it is
  finished_kept : (job : JobTree) → job.left ≡ [] → IsJob v h j job → IsJob v after j job
  finished_kept job none k = record {
    opening = k.opening;
    opened_so = step_opening ∙ k.opened_so;
    version = k.version;
    denotes = k.denotes;
    there = step_taken ∙ k.there;
    ran = k.ran;
    part = k.part;
    results = k.results;
    under_way = subst (IsUnderWay job k.ran (steps_of after j)) (sym none) tt;
    told = λ e. ap are_none none;
  }

  -- one more step of the run under way
  going_kept : (job : JobTree) (p : PolicyTree) (rest : List PolicyTree) (place : ℕ) (stack : List Datum) (next : Configuration) → job.left ≡ p ∷ rest
      → job.configuration ≡ going place stack → Step (policy_code p) job.request job.version.world (going place stack) next → finished ≡ false
      → IsJob v h j job → IsJob v after j (record job { configuration = next })
  going_kept job p rest place stack next left at s end k =
      let way : IsUnderWay job k.ran (steps_of h j) (p ∷ rest) = subst (IsUnderWay job k.ran (steps_of h j)) left k.under_way in
      let came : Steps (policy_code p) job.request job.version.world way.0 start (going place stack) = subst (Steps (policy_code p) job.request job.version.world way.0 start) at way.1 in
      let more : IsUnderWay (record job { configuration = next }) k.ran (steps_of after j) (p ∷ rest) = (suc way.0, (going place stack, came, s), omega (arith, step_steps, way.2)) in
      record {
        opening = k.opening;
        opened_so = step_opening ∙ k.opened_so;
        version = k.version;
        denotes = k.denotes;
        there = step_taken ∙ k.there;
        ran = k.ran;
        part = k.part;
        results = k.results;
        under_way = subst (IsUnderWay (record job { configuration = next }) k.ran (steps_of after j)) (sym left) more;
        told = λ e. told (step_told e);
      }
    where
      told : (was_finished h j ≡ true) ⊎ (finished ≡ true) → are_none job.left ≡ true
      told (inl e) = k.told e
      told (inr e) = absurd (cc (e, end))

  -- a result is entered
  ended_kept : (job : JobTree) (p : PolicyTree) (rest : List PolicyTree) (o : Outcome) → job.left ≡ p ∷ rest
      → job.configuration ≡ ended o → finished ≡ are_none rest
      → IsJob v h j job → IsJob v after j (record job { left = rest; results = entered job.results p.id p.effect o; configuration = start })
  ended_kept job p rest o left at end k =
      let q = job.request in
      let w = job.version.world in
      let way : IsUnderWay job k.ran (steps_of h j) (p ∷ rest) = subst (IsUnderWay job k.ran (steps_of h j)) left k.under_way in
      let came : Steps (policy_code p) q w way.0 start (ended o) = subst (Steps (policy_code p) q w way.0 start) at way.1 in
      let short = run_short law q w p way.0 (ended o) came in
      let cost : steps_of after j ≤ most_steps (k.ran ++ p ∷ []) = omega (arith, step_steps, way.2, short, most_steps-append k.ran (p ∷ []), most_steps-cons p []) in
      record {
        opening = k.opening;
        opened_so = step_opening ∙ k.opened_so;
        version = k.version;
        denotes = k.denotes;
        there = step_taken ∙ k.there;
        ran = k.ran ++ p ∷ [];
        part = subst (λ (ps : List PolicyTree). IsPartToRun q w ps job.version.policies.policies) (ap (λ (ps : List PolicyTree). k.ran ++ ps) left ∙ sym (append_assoc k.ran (p ∷ []) rest)) k.part;
        results =
            ap (λ (r : Results). entered r p.id p.effect o) k.results
            ∙ ap (entered (results_of q w k.ran) p.id p.effect) (run_ends law q w p way.0 o came)
            ∙ sym (results_of-append q w k.ran p);
        under_way = begun rest cost;
        told = λ e. told (step_told e);
      }
    where
      begun : (ps : List PolicyTree) → steps_of after j ≤ most_steps (k.ran ++ p ∷ [])
          → IsUnderWay (record job { left = rest; results = entered job.results p.id p.effect o; configuration = start }) (k.ran ++ p ∷ []) (steps_of after j) ps
      begun [] low = tt
      begun (x ∷ ps) low = (0, refl, omega arith)

      told : (was_finished h j ≡ true) ⊎ (finished ≡ true) → are_none rest ≡ true
      told (inl e) = absurd (cc (sym (ap are_none left) ∙ k.told e))
      told (inr e) = sym end ∙ e

  -- a step of the job in the state
  step_kept : (old new : ServiceState) → Kept v h old → StepsJob old j (job_at old.jobs j) finished new → Kept v after new
  unfolding after
  step_kept old new k s = found (job_at old.jobs j) refl (k.jobs j) s
    where
      quiet : IsQuiet (step j, stepped finished)
      quiet = record { opens_none = refl; publishes_none = refl; same_version = λ w. refl }

      changed : (job to : JobTree) → IsJob v h j job → IsJob v after j to → ChangesJob old j (Some to) new → Kept v after new
      changed job to is_job there c = kept_change v h (step j, stepped finished) quiet old new j (Some to) k (λ i n. step_aside j i finished n) (job_used v h j job is_job) c there

      moved : (job to : JobTree) (p : PolicyTree) (rest : List PolicyTree) (c : Configuration) → IsJob v h j job → job.left ≡ p ∷ rest → job.configuration ≡ c
          → Advances job c p rest to → finished ≡ is_finished to → ChangesJob old j (Some to) new → Kept v after new
      moved job to p rest (going place stack) is_job left at a end c =
          changed job to is_job (subst (IsJob v after j) (sym a.2) (going_kept job p rest place stack a.0 left at a.1 (end ∙ ap is_finished a.2 ∙ ap are_none left) is_job)) c
      moved job to p rest (ended o) is_job left at a end c =
          changed job to is_job (subst (IsJob v after j) (sym a) (ended_kept job p rest o left at (end ∙ ap is_finished a) is_job)) c

      stepped_left : (job : JobTree) (left : List PolicyTree) → job_at old.jobs j ≡ Some job → IsJob v h j job → job.left ≡ left → StepsLeft old j job left finished new → Kept v after new
      stepped_left job [] at is_job none s =
          subst (Kept v after) (sym s.1) (kept_change v h (step j, stepped finished) quiet old old j (Some job) k (λ i n. step_aside j i finished n) (job_used v h j job is_job)
          (record { changes = record { here = at; elsewhere = λ i n. refl }; number = refl; current = refl; next_job = refl })
          (finished_kept job none is_job))
      stepped_left job (p ∷ rest) at is_job left s = moved job s.0 p rest job.configuration is_job left refl s.1 s.2 s.3

      found : (o : Option JobTree) → job_at old.jobs j ≡ o → IsAt v h j o → StepsJob old j o finished new → Kept v after new
      found None at is_at s = absurd s
      found (Some job) at is_job s = stepped_left job job.left at is_job refl s

-- an answer is taken
module _ (v : ReadyTree) (h : History) (j : ℕ) (r : ResponseTree) where
  taking : History
  taking = h ++ (take_answer j, taken r) ∷ []

  take_kept : (old new : ServiceState) → Kept v h old → TakesJob old j (job_at old.jobs j) r new → Kept v taking new
  unfolding taking
  take_kept old new k t = found (job_at old.jobs j) (k.jobs j) t
    where
      quiet : IsQuiet (take_answer j, taken r)
      quiet = record { opens_none = refl; publishes_none = refl; same_version = λ w. refl }

      aside : (i : ℕ) → j ≢ i → IsAside i (take_answer j, taken r)
      aside i n = record { not_opening = λ w. refl; not_step = refl; not_end = refl; not_taking = not_same j i n }

      gone : was_taken taking j ≡ true
      gone = any_more (takes j) h (take_answer j, taken r) ∙ or_true (was_taken h j) (j == j) (itself j)

      taken_left : (job : JobTree) (left : List PolicyTree) → IsJob v h j job → TakesLeft old j job left r new → Kept v taking new
      taken_left job [] is_job t = kept_change v h (take_answer j, taken r) quiet old new j None k aside (job_used v h j job is_job) t.1 (inr gone)
      taken_left job (p ∷ rest) is_job t = absurd t

      found : (o : Option JobTree) → IsAt v h j o → TakesJob old j o r new → Kept v taking new
      found None is_at t = absurd t
      found (Some job) is_job t = taken_left job job.left is_job t

-- a job is opened
module _ (v : ReadyTree) (h : History) (line : List ℕ) (j : ℕ) where
  opening_history : History
  opening_history = h ++ (open_job line, opened j) ∷ []

  open_aside : (i : ℕ) → j ≢ i → IsAside i (open_job line, opened j)
  open_aside i n = record {
    not_opening = λ w. ap (λ (b : Bool). if b then Some (record { version = w; line = line }) else None) (not_same j i n);
    not_step = refl;
    not_end = refl;
    not_taking = refl;
  }

  opening_found : opening_of v h j ≡ None → opening_of v opening_history j ≡ Some (record { version = current_after v h; line = line })
  unfolding opening_history
  opening_found none =
      opening_more v h (open_job line, opened j) j
      ∙ ap (λ (o : Option Opening). option_or o (opening_by (current_after v h) (open_job line, opened j) j)) none
      ∙ ap (λ (b : Bool). if b then Some (record { version = current_after v h; line = line }) else None) (itself j)

  open_steps : steps_of opening_history j ≡ steps_of h j
  unfolding opening_history
  open_steps = count_more (steps_job j) h (open_job line, opened j) ∙ omega arith

  open_end : was_finished opening_history j ≡ was_finished h j
  unfolding opening_history
  open_end = any_more (ends_job j) h (open_job line, opened j) ∙ or_false (was_finished h j)

  open_taken : was_taken opening_history j ≡ was_taken h j
  unfolding opening_history
  open_taken = any_more (takes j) h (open_job line, opened j) ∙ or_false (was_taken h j)

  -- the job that is opened
  opened_job : (old : ServiceState) (job : JobTree) → Kept v h old → IsUnused v h j → LineDenotes old.current.schema line job.request → IsFresh old.current job → IsJob v opening_history j job
  opened_job old job k unused denotes fresh = record {
    opening = record { version = current_after v h; line = line };
    opened_so = opening_found unused.not_opened;
    version = fresh.version_is ∙ k.current;
    denotes = subst (λ (w : ReadyTree). LineDenotes w.schema line job.request) k.current denotes;
    there = open_taken ∙ unused.not_taken;
    ran = [];
    part = subst (λ (w : ReadyTree). IsPartToRun job.request w.world job.left w.policies.policies) (sym fresh.version_is) fresh.to_run;
    results = fresh.nothing_entered;
    under_way = begun job.left;
    told = λ e. absurd (never e);
  }
    where
      begun : (ps : List PolicyTree) → IsUnderWay job [] (steps_of opening_history j) ps
      begun [] = tt
      begun (p ∷ ps) = (0, fresh.at_start, omega (arith, open_steps, unused.no_steps))

      never : was_finished opening_history j ≡ true → ⊥
      never e =
          let no = open_end ∙ unused.no_end in
          cc (e, no)

  open_kept : (old new : ServiceState) → Kept v h old → Opens old line j new → Kept v opening_history new
  unfolding opening_history
  open_kept old new k o = record {
    number = o.number ∙ k.number ∙ sym (count_more is_publication h m ∙ omega arith);
    current = o.current ∙ k.current ∙ sym (current_more v h m);
    next_job = o.next_job ∙ ap (λ (n : ℕ). n + 1) k.next_job ∙ sym (count_more is_open h m);
    jobs = λ i. at i (ℕ_discrete j i);
    later = λ i low. unused_aside v h i m (open_aside i (λ (e : j ≡ i). omega (arith, e, low, o.next_job, o.number_is))) (k.later i (omega (arith, low, o.next_job)));
  }
    where
      m : Moment
      m = (open_job line, opened j)

      there : IsJob v opening_history j o.job
      there = opened_job old o.job k (k.later j (omega (arith, o.number_is))) o.denotes o.fresh

      at : (i : ℕ) → Dec (j ≡ i) → IsAt v opening_history i (job_at new.jobs i)
      at i (yes e) = subst (λ (n : ℕ). IsAt v opening_history n (job_at new.jobs n)) e (subst (IsAt v opening_history j) (sym o.changes.here) there)
      at i (no n) = subst (IsAt v opening_history i) (sym (o.changes.elsewhere i (λ e. n (sym e)))) (at_aside v h i m (open_aside i n) (job_at old.jobs i) (k.jobs i))

-- a version is published
publish_kept : (v : ReadyTree) (h : History) (w : ReadyTree) (n : ℕ) (old new : ServiceState) → Kept v h old → Publishes old w n new → Kept v (h ++ (publish w, published n) ∷ []) new
publish_kept v h w n old new k p = subst (Kept v (h ++ m ∷ [])) (sym p.state) (record {
  number = p.number_is ∙ ap (λ (x : ℕ). x + 1) k.number ∙ sym (count_more is_publication h m);
  current = sym (current_more v h m);
  next_job = k.next_job ∙ sym (count_more is_open h m ∙ omega arith);
  jobs = λ i. at_aside v h i m (aside i) (job_at old.jobs i) (k.jobs i);
  later = λ i low. unused_aside v h i m (aside i) (k.later i low);
})
  where
    m : Moment
    m = (publish w, published n)

    aside : (i : ℕ) → IsAside i m
    aside i = record { not_opening = λ u. refl; not_step = refl; not_end = refl; not_taking = refl }

-- each event keeps it
pub keeps : EachRuns → (v : ReadyTree) (h : History) (old : ServiceState) (event : Event) (reply : Reply) (new : ServiceState) → Kept v h old → Happens old event reply new → Kept v (h ++ (event, reply) ∷ []) new
unfolding after taking opening_history
keeps law v h old (publish w) (published n) new k p = publish_kept v h w n old new k p
keeps law v h old (open_job line) (opened j) new k o = open_kept v h line j old new k o
keeps law v h old (step j) (stepped finished) new k s = step_kept law v h j finished old new k s
keeps law v h old (take_answer j) (taken r) new k t = take_kept v h j r old new k t
keeps law v h old (publish w) (refused n) new k r = kept_still v h (publish w, refused n) (record { opens_none = refl; publishes_none = refl; same_version = λ u. refl }) old new k (λ i. record { not_opening = λ u. refl; not_step = refl; not_end = refl; not_taking = refl }) r.1
keeps law v h old (open_job line) (refused n) new k r = kept_still v h (open_job line, refused n) (record { opens_none = refl; publishes_none = refl; same_version = λ u. refl }) old new k (λ i. record { not_opening = λ u. refl; not_step = refl; not_end = refl; not_taking = refl }) r.1
keeps law v h old (step j) (refused n) new k r = kept_still v h (step j, refused n) (record { opens_none = refl; publishes_none = refl; same_version = λ u. refl }) old new k (λ i. record { not_opening = λ u. refl; not_step = refl; not_end = refl; not_taking = refl }) r.1
keeps law v h old (take_answer j) (refused n) new k r = kept_still v h (take_answer j, refused n) (record { opens_none = refl; publishes_none = refl; same_version = λ u. refl }) old new k (λ i. record { not_opening = λ u. refl; not_step = refl; not_end = refl; not_taking = refl }) r.1
keeps law v h old _ _ new k r = absurd r

-- it holds in the first state
pub kept_first : (v : ReadyTree) → Kept v [] (first_state v)
kept_first v = record {
  number = refl;
  current = refl;
  next_job = refl;
  jobs = λ j. inl (record { not_opened = refl; no_steps = refl; no_end = refl; not_taken = refl });
  later = λ j low. record { not_opened = refl; no_steps = refl; no_end = refl; not_taken = refl };
}
