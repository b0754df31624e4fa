-- What is decided on a request in parts.
use Rattle.std.specs.Prelude.{◌≡◌, ◌≢◌, ℕ, List}
use Rattle.std.specs.Str.{IsUtf8}
use Rattle.serde_json.specs.Written.{compact_text}
use Rattle.cedar_value.specs.declared.request.Request.{Request}
use Rattle.cedar_ast.specs.declared.decision.Decision.{Decision}
use Rattle.cedar_ast.specs.declared.decision.Decision.TheVariants.{Allow, Deny}
use Rattle.cedar_conform_values.specs.Numbers.{number_of}
use Rattle.cedar_conform_values.specs.declared.conform_fault.ConformFault.{ConformFault}
use Rattle.cedar_conform_values.specs.declared.conform_fault.ConformFault.TheVariants.{OutOfMemory}
use Rattle.cedar_conform.specs.Parts.{PartsTree, PartsDenote, PartsHaveFault}
use Rattle.cedar_auth.specs.AnswerParts.{response_text, response_to}
use Rattle.cedar_auth_spec.specs.AnswerJson.{refused_data}
use Rattle.cedar_auth_spec.specs.Ready.{ReadyTree}

-- The number of a decision: 1 for allow, 0 for deny (own).
abbrev pub decision_number : Decision → ℕ
decision_number Allow = 1
decision_number Deny = 0

-- The parts of a request: the type and the id of the principal, of the action and of the resource, and the context (own).
abbrev pub parts : List ℕ → List ℕ → List ℕ → List ℕ → List ℕ → List ℕ → List ℕ → PartsTree
parts pt pi at ai rt ri c = record {
  principal = record { ty = pt; id = pi };
  action = record { ty = at; id = ai };
  resource = record { ty = rt; id = ri };
  context = c;
}

-- The types and the ids are UTF-8 (own).
pub record AreTexts (p : PartsTree) : Type 0 where
  pub principal_type : IsUtf8 p.principal.ty
  pub principal_id : IsUtf8 p.principal.id
  pub action_type : IsUtf8 p.action.ty
  pub action_id : IsUtf8 p.action.id
  pub resource_type : IsUtf8 p.resource.ty
  pub resource_id : IsUtf8 p.resource.id

-- The parts denote a request for the schema, this is the number of the decision on it, and this is the text of the response to it
-- (Cedar language reference, authorization).
pub record IsDecided (r : ReadyTree) (p : PartsTree) (allow : ℕ) (text : List ℕ) : Type 0 where
  pub request : Request
  pub denoted : PartsDenote r.schema p request
  pub decided : allow ≡ decision_number (response_to r request).decision
  pub is_text : text ≡ response_text r request

-- The parts are refused with this number: 502 where a type or an id is not UTF-8, or the number of a fault that they have for the
-- schema, where they denote no request. Out of memory is not such a fault (own; Cedar documentation, validation).
pub data ArePartsRefused (r : ReadyTree) (p : PartsTree) : ℕ → Type 0 where
  not_texts : ¬ AreTexts p → ArePartsRefused r p 502
  by_fault : {fault : ConformFault} → fault ≢ OutOfMemory → PartsHaveFault r.schema p fault → ((q : Request) → ¬ PartsDenote r.schema p q) → ArePartsRefused r p (number_of fault)

-- The text answers the parts: it is the response to the request that they denote, or their refusal (own).
pub data AnswersParts (r : ReadyTree) (p : PartsTree) : List ℕ → Type 0 where
  by_response : {allow : ℕ} {text : List ℕ} → IsDecided r p allow text → AnswersParts r p text
  by_refusal : {n : ℕ} → ArePartsRefused r p n → AnswersParts r p (compact_text (refused_data n))
