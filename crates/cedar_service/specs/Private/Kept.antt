-- What holds of a job as it is kept.
use Rattle.std.specs.Prelude.{◌≡◌, ℕ, ◌<◌, nat_lt, List, ◌∷◌, length, drop, All, Contains, Option, Some, None, is_some}
use Rattle.cedar_value.specs.declared.request.Request.{Request}
use Rattle.cedar_ast.specs.PolicyTree.{PolicyTree}
use Rattle.cedar_ast.specs.Response.{ErringTree}
use Rattle.cedar_code.specs.Machine.{Configuration, start, Steps}
use Rattle.cedar_machine.specs.RestingView.{RestingView}
use Rattle.cedar_schema_spec.specs.Conformance.{Fits}
use Rattle.cedar_check_spec.specs.Soundness.{IsAllowedWith}
use Rattle.cedar_check_spec.specs.declared.settings.Settings.{Settings}
use Rattle.cedar_auth_spec.specs.Codes.{policy_code}
use Rattle.cedar_auth_spec.specs.Ready.{ReadyTree}
use Rattle.cedar_service_law.specs.Results.{Results}
use Rattle.cedar_service.specs.Private.Parts.{policies_at}

-- the configuration of the current run, if there is one
abbrev pub configuration_of : Option RestingView → Configuration
configuration_of None = start
configuration_of (Some r) = r.configuration

-- the run, if there is one, has made no step
abbrev pub IsBegun : Option RestingView → Type 0
IsBegun None = Unit {0}
IsBegun (Some r) = (r.configuration ≡ start) × (r.executed ≡ 0)

-- the current run, if there is one, came by steps of the first policy that is left
abbrev pub IsReached : ReadyTree → Request → List PolicyTree → Option RestingView → Type 0
IsReached v q (p ∷ rest) (Some r) = Steps (policy_code p) q v.world r.executed start r.configuration
IsReached v q _ _ = Unit {0}

-- the errors are such as validation leaves under these settings
abbrev pub AreAllowed : Settings → List ErringTree → Type 0
AreAllowed settings xs = (x : ErringTree) → Contains xs x → IsAllowedWith settings x.error

-- each position is that of a policy, there is a run exactly where a policy is left, and the request fits
pub record IsKept (v : ReadyTree) (q : Request) (positions : List ℕ) (done : ℕ) (results : Results) (run : Option RestingView) : Type 0 where
  pub fits : Fits v.schema q
  pub within : All (λ k. k < length v.policies.policies) positions
  pub under_way : is_some run ≡ nat_lt done (length positions)
  pub reached : IsReached v q (policies_at v.policies.policies (drop done positions)) run
  pub allowed : AreAllowed v.settings results.erring
