-- What answers a request line with entities.
use Rattle.std.specs.Prelude.{◌≡◌, ◌≢◌, ◌⊎◌, ℕ, List}
use Rattle.serde_json.specs.Written.{compact_text}
use Rattle.cedar_value.specs.World.{World}
use Rattle.cedar_value.specs.declared.request.Request.{Request}
use Rattle.cedar_ast.specs.Response.{response}
use Rattle.cedar_conform_values.specs.declared.conform_fault.ConformFault.{ConformFault}
use Rattle.cedar_conform_values.specs.declared.conform_fault.ConformFault.TheVariants.{OutOfMemory}
use Rattle.cedar_conform_values.specs.Numbers.{number_of}
use Rattle.cedar_conform.specs.RequestsWithEntities.{LineDenotesWithEntities, LineHasFaultWithEntities}
use Rattle.cedar_auth_spec.specs.AnswerJson.{response_data, refused_data}
use Rattle.cedar_auth_spec.specs.Ready.{ReadyTree}

-- The text is the response to the request that the line denotes, over the world that it denotes for it: the evaluation of every
-- policy (own; Cedar language reference, authorization).
abbrev pub IsResponseWithEntities : ReadyTree → List ℕ → List ℕ → Type 0
IsResponseWithEntities r line text = (q : Request) × (w : World) × LineDenotesWithEntities r.schema r.world line q w × (text ≡ compact_text (response_data (response r.policies.policies q w)))

-- The text is the refusal of a fault that the line with entities has, and the line denotes no request and world. Out of memory is not
-- a fault of a line (own).
abbrev pub IsRefusalWithEntities : ReadyTree → List ℕ → List ℕ → Type 0
IsRefusalWithEntities r line text = (fault : ConformFault) × (fault ≢ OutOfMemory) × LineHasFaultWithEntities r.schema r.world line fault × ((q : Request) (w : World) → ¬ LineDenotesWithEntities r.schema r.world line q w) × (text ≡ compact_text (refused_data (number_of fault)))

-- The text answers the line with entities. No line changes the world that the next one begins with: each is answered over the
-- same world and what it brings itself (own).
abbrev pub AnswersLineWithEntities : ReadyTree → List ℕ → List ℕ → Type 0
AnswersLineWithEntities r line text = IsResponseWithEntities r line text ⊎ IsRefusalWithEntities r line text
