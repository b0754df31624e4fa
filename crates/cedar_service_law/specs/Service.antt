-- The events of a service: versions are published, and jobs are opened, stepped and taken, one after another.
use Rattle.std.specs.Prelude.{◌≡◌, ◌≢◌, ◌⊎◌, ℕ, ◌+◌, ◌<◌, Bool, true, List, [], ◌∷◌, Option, Some, None}
use Rattle.cedar_value.specs.declared.request.Request.{Request}
use Rattle.cedar_ast.specs.PolicyTree.{PolicyTree}
use Rattle.cedar_ast.specs.Response.{ResponseTree}
use Rattle.cedar_schema_spec.specs.SchemaTree.{SchemaTree}
use Rattle.cedar_conform_values.specs.declared.conform_fault.ConformFault.{ConformFault}
use Rattle.cedar_conform_values.specs.declared.conform_fault.ConformFault.TheVariants.{OutOfMemory}
use Rattle.cedar_conform_values.specs.Numbers.{number_of}
use Rattle.cedar_conform.specs.Requests.{LineDenotes, LineHasFault}
use Rattle.cedar_auth_spec.specs.Ready.{ReadyTree}
use Rattle.cedar_service_law.specs.Results.{decided_by}
use Rattle.cedar_service_law.specs.Jobs.{JobTree, Jobs, job_at, ChangesAt, IsFresh, Advances, is_finished}

-- ---- what a service is, its events and replies

-- A service: the number of the current version, that version, the number of the next job, and the jobs (own).
pub record ServiceState : Type 0 where
  pub number : ℕ
  pub current : ReadyTree
  pub next_job : ℕ
  pub jobs : Jobs

-- A service before its first event: its version has number 0, and there is no job (own).
abbrev pub first_state : ReadyTree → ServiceState
first_state v = record { number = 0; current = v; next_job = 0; jobs = [] }

-- What a service can do: make a version the current one, open a job for a request line, step a job, take its answer (own).
pub data Event : Type 0 where
  publish : ReadyTree → Event
  open_job : (line : List ℕ) → Event
  step : (job : ℕ) → Event
  take_answer : (job : ℕ) → Event

-- A reply: the new version's number, the new job's number, whether the job is finished, the response, or the number of a
-- refusal (own).
pub data Reply : Type 0 where
  published : (number : ℕ) → Reply
  opened : (job : ℕ) → Reply
  stepped : (finished : Bool) → Reply
  taken : ResponseTree → Reply
  refused : (number : ℕ) → Reply

-- How many jobs can be opened, and how many versions published (own).
abbrev pub greatest : ℕ
greatest = 18446744073709551615

-- ---- events that are answered

-- The version becomes the current one, with the next number; jobs keep their versions (own).
pub record Publishes (old : ServiceState) (v : ReadyTree) (number : ℕ) (new : ServiceState) : Type 0 where
  pub numbers_left : old.number < greatest
  pub number_is : number ≡ old.number + 1
  pub state : new ≡ record old { number = number; current = v }

-- The line denotes a request for the current version's schema, and a job of that version for it, with the next number, is there
-- to be stepped (own).
pub record Opens (old : ServiceState) (line : List ℕ) (j : ℕ) (new : ServiceState) : Type 0 where
  pub numbers_left : old.next_job < greatest
  pub number_is : j ≡ old.next_job
  pub job : JobTree
  pub denotes : LineDenotes old.current.schema line job.request
  pub fresh : IsFresh old.current job
  pub changes : ChangesAt old.jobs j (Some job) new.jobs
  pub number : new.number ≡ old.number
  pub current : new.current ≡ old.current
  pub next_job : new.next_job ≡ old.next_job + 1

-- Nothing changes but the job at this number in the map of jobs (own).
pub record ChangesJob (old : ServiceState) (j : ℕ) (job : Option JobTree) (new : ServiceState) : Type 0 where
  pub changes : ChangesAt old.jobs j job new.jobs
  pub number : new.number ≡ old.number
  pub current : new.current ≡ old.current
  pub next_job : new.next_job ≡ old.next_job

-- A step of a job with these policies left: a finished job stays as it is; another one advances, and the reply says whether
-- none is left then (own).
abbrev pub StepsLeft : ServiceState → ℕ → JobTree → List PolicyTree → Bool → ServiceState → Type 0
StepsLeft old j job [] finished new = (finished ≡ true) × (new ≡ old)
StepsLeft old j job (p ∷ rest) finished new =
    (after : JobTree) × Advances job job.configuration p rest after × (finished ≡ is_finished after) × ChangesJob old j (Some after) new

-- A step of a job, where there is one at the number (own).
abbrev pub StepsJob : ServiceState → ℕ → Option JobTree → Bool → ServiceState → Type 0
StepsJob old j None finished new = ⊥
StepsJob old j (Some job) finished new = StepsLeft old j job job.left finished new

-- The answer of a job with these policies left: a finished job's is what its results decide, and the job is gone (own).
abbrev pub TakesLeft : ServiceState → ℕ → JobTree → List PolicyTree → ResponseTree → ServiceState → Type 0
TakesLeft old j job [] response new = (response ≡ decided_by job.results) × ChangesJob old j None new
TakesLeft old j job (p ∷ rest) response new = ⊥

-- The answer of a job, where there is one at the number (own).
abbrev pub TakesJob : ServiceState → ℕ → Option JobTree → ResponseTree → ServiceState → Type 0
TakesJob old j None response new = ⊥
TakesJob old j (Some job) response new = TakesLeft old j job job.left response new

-- ---- events that are refused

-- For the schema, the line has a fault of this number, and denotes no request. Out of memory is not a fault of a line (own).
abbrev pub IsFaultOfLine : SchemaTree → List ℕ → ℕ → Type 0
IsFaultOfLine s line number = (fault : ConformFault) × (fault ≢ OutOfMemory) × LineHasFault s line fault × ((q : Request) → ¬ LineDenotes s line q) × (number ≡ number_of fault)

-- A publication is refused with 1 when out of memory, or with 803 where no number is left (own).
abbrev pub RefusesPublish : ServiceState → ℕ → Type 0
RefusesPublish s number = (number ≡ 1) ⊎ ((number ≡ 803) × (s.number ≡ greatest))

-- A job is not opened: 1 when out of memory, 803 where no number is left, or a fault that the line has for the current
-- version's schema (own).
abbrev pub RefusesOpen : ServiceState → List ℕ → ℕ → Type 0
RefusesOpen s line number =
    (number ≡ 1) ⊎ ((number ≡ 803) × (s.next_job ≡ greatest)) ⊎ IsFaultOfLine s.current.schema line number

-- A step of a job with these policies left is refused with 1 when out of memory; that of a finished job is not (own).
abbrev pub RefusesStepLeft : List PolicyTree → ℕ → Type 0
RefusesStepLeft [] number = ⊥
RefusesStepLeft (p ∷ rest) number = number ≡ 1

-- A step is refused with 801 where there is no job at the number (own).
abbrev pub RefusesStep : Option JobTree → ℕ → Type 0
RefusesStep None number = number ≡ 801
RefusesStep (Some job) number = RefusesStepLeft job.left number

-- The answer of a job with these policies left is refused with 802; that of a finished job is not (own).
abbrev pub RefusesTakeLeft : List PolicyTree → ℕ → Type 0
RefusesTakeLeft [] number = ⊥
RefusesTakeLeft (p ∷ rest) number = number ≡ 802

-- An answer is refused with 801 where there is no job at the number (own).
abbrev pub RefusesTake : Option JobTree → ℕ → Type 0
RefusesTake None number = number ≡ 801
RefusesTake (Some job) number = RefusesTakeLeft job.left number

-- ---- the whole

-- In the old state the event may be answered so, and then the service is in the new state; a refusal changes nothing, and
-- no event has the reply of another (own).
abbrev pub Happens : ServiceState → Event → Reply → ServiceState → Type 0
Happens old (publish v) (published number) new = Publishes old v number new
Happens old (publish v) (refused number) new = RefusesPublish old number × (new ≡ old)
Happens old (open_job line) (opened j) new = Opens old line j new
Happens old (open_job line) (refused number) new = RefusesOpen old line number × (new ≡ old)
Happens old (step j) (stepped finished) new = StepsJob old j (job_at old.jobs j) finished new
Happens old (step j) (refused number) new = RefusesStep (job_at old.jobs j) number × (new ≡ old)
Happens old (take_answer j) (taken response) new = TakesJob old j (job_at old.jobs j) response new
Happens old (take_answer j) (refused number) new = RefusesTake (job_at old.jobs j) number × (new ≡ old)
Happens old _ _ new = ⊥
