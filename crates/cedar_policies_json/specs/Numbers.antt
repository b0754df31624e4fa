-- The numbers of refusals, and the statements that have them.
use Rattle.std.specs.Prelude.{ℕ, Option, Some, None}
use Rattle.cedar_parser_tokens.specs.Faults as parse
use Rattle.cedar_policies_json.specs.declared.policy_file_fault.PolicyFileFault.{PolicyFileFault}
use Rattle.cedar_policies_json.specs.declared.policy_file_fault.PolicyFileFault.TheVariants.{OutOfMemory, Json, RepeatedKey, Shape, Statement}

-- The number of each refusal, as docs/REFUSALS.md lists them (own).
abbrev pub number_of : PolicyFileFault → ℕ
number_of OutOfMemory = 1
number_of Json = 213
number_of RepeatedKey = 203
number_of Shape = 214
number_of (Statement position fault) = parse.number_of fault

-- The position of the statement that has the fault, if it is of one (own).
abbrev pub position_of : PolicyFileFault → Option ℕ
position_of (Statement position fault) = Some position
position_of _ = None
