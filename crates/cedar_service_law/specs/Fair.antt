-- What histories of a service are fair, and the law that all are, `EveryHistoryIsFair`.
use Rattle.std.specs.Prelude.{◌≡◌, ◌≢◌, ◌⊎◌, ◌↔◌, ℕ, ◌+◌, ◌<◌, ◌≤◌, Bool, true, false, List, Option, Some, None}
use Rattle.cedar_value.specs.declared.request.Request.{Request}
use Rattle.cedar_ast.specs.Response.{ResponseTree, response}
use Rattle.cedar_conform.specs.Requests.{LineDenotes}
use Rattle.cedar_auth_spec.specs.Ready.{ReadyTree}
use Rattle.cedar_service_law.specs.Jobs.{most_steps}
use Rattle.cedar_service_law.specs.Service.{ServiceState, Reply, publish, open_job, step, take_answer, published, opened, stepped, taken, refused, greatest, first_state, IsFaultOfLine}
use Rattle.cedar_service_law.specs.Histories.{History, Leads, Stands, opens, publications, current_after, Opening, opening_of, was_taken, steps_of, was_finished}

-- The response answers the request of the job that was opened so, with every policy of the version that was current there
-- (Cedar language reference, authorization; own: versions).
abbrev pub Answers : Option Opening → ResponseTree → Type 0
Answers None r = ⊥
Answers (Some o) r = (q : Request) × LineDenotes o.version.schema o.line q × (r ≡ response o.version.policies.policies q o.version.world)

-- The job that was opened so may need more than so many steps (own).
abbrev pub AreFew : Option Opening → ℕ → Type 0
AreFew None steps = ⊥
AreFew (Some o) steps = steps < most_steps o.version.policies.policies

-- So many steps finish the job that was opened so (own).
abbrev pub AreEnough : Option Opening → ℕ → Type 0
AreEnough None steps = ⊥
AreEnough (Some o) steps = most_steps o.version.policies.policies ≤ steps

-- The number was given to no job, or its job was taken (own).
abbrev pub IsGone : ReadyTree → History → ℕ → Type 0
IsGone v before j = (opening_of v before j ≡ None) ⊎ (was_taken before j ≡ true)

-- A job that was reported as finished and is still there (own).
pub record StandsFinished (before : History) (j : ℕ) : Type 0 where
  pub told : was_finished before j ≡ true
  pub there : was_taken before j ≡ false

-- A history that begins with this version is fair (own).
pub record IsFair (v : ReadyTree) (h : History) : Type 0 where
  -- jobs are numbered from 0 on and versions from 1 on, as they come, up to the greatest number
  pub jobs_numbered : (before : History) (line : List ℕ) (j : ℕ) → Stands h before (open_job line) (opened j) → j ≡ opens before
  pub versions_numbered : (before : History) (w : ReadyTree) (n : ℕ) → Stands h before (publish w) (published n) → n ≡ publications before + 1
  pub jobs_end : (before : History) (line : List ℕ) → Stands h before (open_job line) (refused 803) → opens before ≡ greatest
  pub versions_end : (before : History) (w : ReadyTree) → Stands h before (publish w) (refused 803) → publications before ≡ greatest
  -- a line is read with the version that is current there: it denotes a request, or it denotes none and has the fault that is
  -- answered
  pub lines_denote : (before : History) (line : List ℕ) (j : ℕ) → Stands h before (open_job line) (opened j) → (q : Request) × LineDenotes (current_after v before).schema line q
  pub faults_are_there : (before : History) (line : List ℕ) (n : ℕ) → n ≢ 1 → n ≢ 803 → Stands h before (open_job line) (refused n) → IsFaultOfLine (current_after v before).schema line n
  -- the answer taken is that of the job's request in the version that was current at its opening
  pub answers : (before : History) (j : ℕ) (r : ResponseTree) → Stands h before (take_answer j) (taken r) → Answers (opening_of v before j) r
  -- 801 is answered exactly where the number was given to no job or its job was taken
  pub no_such_job_to_step : (before : History) (j : ℕ) (reply : Reply) → Stands h before (step j) reply → (reply ≡ refused 801) ↔ IsGone v before j
  pub no_such_job_to_take : (before : History) (j : ℕ) (reply : Reply) → Stands h before (take_answer j) reply → (reply ≡ refused 801) ↔ IsGone v before j
  -- enough steps finish a job: only before them may the reply be that it isn't finished
  pub not_finished : (before : History) (j : ℕ) → Stands h before (take_answer j) (refused 802) → AreFew (opening_of v before j) (steps_of before j)
  pub steps_finish : (before : History) (j : ℕ) (finished : Bool) → Stands h before (step j) (stepped finished) → AreEnough (opening_of v before j) (steps_of before j + 1) → finished ≡ true
  -- a job that was reported as finished stays so until it is taken
  pub finished_is_taken : (before : History) (j : ℕ) (reply : Reply) → Stands h before (take_answer j) reply → StandsFinished before j → (r : ResponseTree) × (reply ≡ taken r)
  pub finished_stays : (before : History) (j : ℕ) (reply : Reply) → Stands h before (step j) reply → StandsFinished before j → reply ≡ stepped true

-- Every history of events, from the first state on, is fair, whatever steps of other jobs and publications fall between
-- those of a job (own).
abbrev pub EveryHistoryIsFair : Type 0
EveryHistoryIsFair = (v : ReadyTree) (h : History) (last : ServiceState) → Leads (first_state v) h last → IsFair v h
