-- What answers a request that is given in parts.
use Rattle.std.specs.Prelude.{ℕ, List}
use Rattle.serde_json.specs.Written.{compact_text}
use Rattle.cedar_value.specs.declared.request.Request.{Request}
use Rattle.cedar_ast.specs.Response.{ResponseTree, response}
use Rattle.cedar_auth_spec.specs.AnswerJson.{response_data}
use Rattle.cedar_auth_spec.specs.Ready.{ReadyTree}

-- The response to a request: the evaluation of every policy over the world (Cedar language reference, authorization).
abbrev pub response_to : ReadyTree → Request → ResponseTree
response_to r q = response r.policies.policies q r.world

-- The text of the response to a request, as a line of answers has it (own; Cedar language reference, authorization).
abbrev pub response_text : ReadyTree → Request → List ℕ
response_text r q = compact_text (response_data (response_to r q))
