-- What answers a request line.
use Rattle.std.specs.Prelude.{◌≡◌, ◌≢◌, ◌⊎◌, ℕ, List}
use Rattle.serde_json.specs.Written.{compact_text}
use Rattle.cedar_value.specs.declared.request.Request.{Request}
use Rattle.cedar_ast.specs.Response.{response}
use Rattle.cedar_conform_values.specs.declared.conform_fault.ConformFault.{ConformFault}
use Rattle.cedar_conform_values.specs.declared.conform_fault.ConformFault.TheVariants.{OutOfMemory}
use Rattle.cedar_conform_values.specs.Numbers.{number_of}
use Rattle.cedar_conform.specs.Requests.{LineDenotes, LineHasFault}
use Rattle.cedar_auth_spec.specs.AnswerJson.{response_data, refused_data}
use Rattle.cedar_auth_spec.specs.Ready.{ReadyTree}

-- The text is the response to the request that the line denotes for the schema: the evaluation of every policy over the world
-- (Cedar language reference, authorization).
abbrev pub IsResponse : ReadyTree → List ℕ → List ℕ → Type 0
IsResponse r line text = (q : Request) × LineDenotes r.schema line q × (text ≡ compact_text (response_data (response r.policies.policies q r.world)))

-- The text is the refusal of a fault that the line has for the schema, and the line denotes no request. Out of memory is not a fault
-- of a line (own).
abbrev pub IsRefusal : ReadyTree → List ℕ → List ℕ → Type 0
IsRefusal r line text = (fault : ConformFault) × (fault ≢ OutOfMemory) × LineHasFault r.schema line fault × ((q : Request) → ¬ LineDenotes r.schema line q) × (text ≡ compact_text (refused_data (number_of fault)))

-- The text answers the line: it is the response to the request that the line denotes, or, where it denotes none, the refusal of a
-- fault that it has (own).
abbrev pub AnswersLine : ReadyTree → List ℕ → List ℕ → Type 0
AnswersLine r line text = IsResponse r line text ⊎ IsRefusal r line text
