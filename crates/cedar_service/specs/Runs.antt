-- The run of a job that a service lends.
use Rattle.std.specs.Prelude.{◌≡◌, true, false, List, [], ◌∷◌, Option, Some, None}
use Rattle.cedar_ast.specs.PolicyTree.{PolicyTree}
use Rattle.cedar_code.specs.Machine.{start, Steps}
use Rattle.cedar_auth_spec.specs.Codes.{policy_code}
use Rattle.cedar_service_law.specs.Jobs.{JobTree, is_finished}
use Rattle.cedar_machine.specs.RestingView.{RestingView}

-- The run is where the code of the first of these policies comes, from its start, by as many steps as the run counts (own).
abbrev pub HasMadeSteps : JobTree → List PolicyTree → RestingView → Type 0
HasMadeSteps job [] r = ⊥
HasMadeSteps job (p ∷ rest) r = Steps (policy_code p) job.request job.version.world r.executed start r.configuration

-- The current run of a job: none where the job is finished. Otherwise it is where the job says, after the steps that it counts
-- of the first policy that is left (own).
abbrev pub IsRunOf : JobTree → Option RestingView → Type 0
IsRunOf job None = is_finished job ≡ true
IsRunOf job (Some r) = (is_finished job ≡ false) × (r.configuration ≡ job.configuration) × HasMadeSteps job job.left r

-- The run of the job at a number: none where there is no job (own).
abbrev pub IsRunAt : Option JobTree → Option RestingView → Type 0
IsRunAt None o = o ≡ None
IsRunAt (Some job) o = IsRunOf job o
