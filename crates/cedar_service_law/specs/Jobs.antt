-- Jobs: requests that are being answered.
use Rattle.std.specs.Prelude.{◌≡◌, ◌≢◌, ℕ, ◌+◌, ◌==◌, Bool, true, false, if◌then◌else◌, List, [], ◌∷◌, length, sum_by, Option, Some, None, Ok, Err}
use Rattle.cedar_value.specs.Datum.{Datum}
use Rattle.cedar_value.specs.World.{World}
use Rattle.cedar_value.specs.declared.request.Request.{Request}
use Rattle.cedar_ast_expressions.specs.Answer.{Answer}
use Rattle.cedar_ast.specs.PolicyTree.{PolicyTree}
use Rattle.cedar_ast.specs.Response.{is_true, meaning}
use Rattle.cedar_code.specs.declared.outcome.Outcome.{Outcome}
use Rattle.cedar_code.specs.Machine.{Configuration, going, ended, start, Step, Executes, outcome_of}
use Rattle.cedar_auth_spec.specs.Codes.{policy_code}
use Rattle.cedar_auth_spec.specs.Ready.{ReadyTree}
use Rattle.cedar_service_law.specs.Results.{Results, no_results, entered}

-- A job: the version that answers it, its request, the policies that it has still to run, the first of which is running, the
-- results of those that it ran, and the configuration of the current run (own).
pub record JobTree : Type 0 where
  pub version : ReadyTree
  pub request : Request
  pub left : List PolicyTree
  pub results : Results
  pub configuration : Configuration

-- ---- what a job runs

-- Whether an evaluation matters to the response: it is true, or it errs (Cedar language reference, authorization).
abbrev pub tells : Answer Datum → Bool
tells (Ok v) = is_true (Ok v)
tells (Err e) = true

-- Some of the policies, in their order; none is left out that is satisfied or errs (own).
pub data IsPartToRun (q : Request) (w : World) : List PolicyTree → List PolicyTree → Type 0 where
  none_to_run : IsPartToRun q w [] []
  runs : (p : PolicyTree) (part all : List PolicyTree) → IsPartToRun q w part all → IsPartToRun q w (p ∷ part) (p ∷ all)
  leaves_out : (p : PolicyTree) (part all : List PolicyTree) → tells (meaning q w p) ≡ false → IsPartToRun q w part all → IsPartToRun q w part (p ∷ all)

-- The most steps that a job of these policies takes: as many as their codes have instructions together, and one more for
-- each policy (own).
abbrev pub most_steps : List PolicyTree → ℕ
most_steps ps = sum_by (λ p. length (policy_code p)) ps + length ps

-- However the code of a policy runs to an end, it ends as the policy's condition evaluates (own).
abbrev pub RunsEndAsEvaluated : Type 0
RunsEndAsEvaluated = (p : PolicyTree) (q : Request) (w : World) (n : ℕ) (o : Outcome) → Executes (policy_code p) q w n o → o ≡ outcome_of (meaning q w p)

-- ---- from its opening to its end

-- A job of this version before its first step (own).
pub record IsFresh (version : ReadyTree) (job : JobTree) : Type 0 where
  pub version_is : job.version ≡ version
  pub to_run : IsPartToRun job.request version.world job.left version.policies.policies
  pub nothing_entered : job.results ≡ no_results
  pub at_start : job.configuration ≡ start

-- Whether there is no policy (own).
abbrev pub are_none : List PolicyTree → Bool
are_none [] = true
are_none (p ∷ ps) = false

-- Whether a job is finished: it has no policy left to run (own).
abbrev pub is_finished : JobTree → Bool
is_finished job = are_none job.left

-- One step of an unfinished job, given its configuration, the policy that runs and those after it: one step of the run, or,
-- where that has ended, its result is entered and the next run begins (own).
abbrev pub Advances : JobTree → Configuration → PolicyTree → List PolicyTree → JobTree → Type 0
Advances old (going place stack) p rest new =
    (next : Configuration) × Step (policy_code p) old.request old.version.world (going place stack) next × (new ≡ record old { configuration = next })
Advances old (ended outcome) p rest new =
    new ≡ record old { left = rest; results = entered old.results p.id p.effect outcome; configuration = start }

-- ---- many jobs

-- A finite map from numbers to jobs. Where a number is repeated, its first job counts (own).
abbrev pub Jobs : Type 0
Jobs = List (ℕ × JobTree)

-- The job at a number, if there is one (own).
abbrev pub job_at : Jobs → ℕ → Option JobTree
job_at [] j = None
job_at (entry ∷ jobs) j = if entry.0 == j then Some entry.1 else job_at jobs j

-- The new map has this at the number, and all else is as before (own).
pub record ChangesAt (old : Jobs) (j : ℕ) (job : Option JobTree) (new : Jobs) : Type 0 where
  pub here : job_at new j ≡ job
  pub elsewhere : (i : ℕ) → i ≢ j → job_at new i ≡ job_at old i
