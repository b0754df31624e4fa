-- Which errors the answer of a job names.
use Rattle.std.specs.Prelude.{Contains, Option, Some, None}
use Rattle.cedar_ast.specs.Response.{ErringTree, ResponseTree}
use Rattle.cedar_check_spec.specs.Soundness.{IsAllowedWith}
use Rattle.cedar_service_law.specs.Jobs.{JobTree}

-- Each error that the response names is one that the settings of the job's version leave: overflow and missing entity, and with
-- the setting on a decimal error. Where there is no job, there is no response (Cedar documentation, policy validation: what
-- validation does not find; own: versions).
abbrev pub NamesAllowed : Option JobTree → ResponseTree → Type 0
NamesAllowed None response = ⊥
NamesAllowed (Some job) response = (x : ErringTree) → Contains response.erring x → IsAllowedWith job.version.settings x.error
