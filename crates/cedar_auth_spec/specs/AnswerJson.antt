-- The JSON of an answer (Cedar language reference, authorization; RFC 8259).
use Rattle.std.specs.Prelude.{ℕ, List, codes, map}
use Rattle.serde_json.specs.Data.{Data, number, unsigned, string, array, object, no_members, member}
use Rattle.serde_json.specs.View.{items_of}
use Rattle.cedar_ast.specs.declared.decision.Decision.{Decision}
use Rattle.cedar_ast.specs.declared.decision.Decision.TheVariants.{Allow, Deny}
use Rattle.cedar_ast_expressions.specs.declared.error.EvaluationError.{EvaluationError}
use Rattle.cedar_ast_expressions.specs.declared.error.EvaluationError.TheVariants.{Overflow, MissingEntity, MissingAttribute, «Type», Decimal}
use Rattle.cedar_ast.specs.Response.{ErringTree, ResponseTree}

-- The word for a decision: `allow` or `deny` (Cedar language reference, authorization).
abbrev pub decision_name : Decision → List ℕ
decision_name Allow = codes "allow"
decision_name Deny = codes "deny"

-- The word for the error of a policy (own; the errors are those of cedar-spec, Lean: Cedar.Spec.Error).
abbrev pub error_name : EvaluationError → List ℕ
error_name Overflow = codes "overflow"
error_name MissingEntity = codes "missing_entity"
error_name MissingAttribute = codes "missing_attribute"
error_name «Type» = codes "type"
error_name Decimal = codes "decimal"

-- A policy that erred: `{"error":E,"policy":ID}` (own; RFC 8259, objects).
abbrev pub erring_data : ErringTree → Data
erring_data e = object (member (codes "error") (string (error_name e.error)) (member (codes "policy") (string e.id) no_members))

-- A response: `{"decision":D,"determining":[ID, ..],"erring":[..]}` (own; Cedar language reference, authorization).
abbrev pub response_data : ResponseTree → Data
response_data r =
    object (member (codes "decision") (string (decision_name r.decision))
    (member (codes "determining") (array (items_of (map string r.determining)))
    (member (codes "erring") (array (items_of (map erring_data r.erring))) no_members)))

-- The refusal of a line, with its number: `{"refused":N}` (own).
abbrev pub refused_data : ℕ → Data
refused_data n = object (member (codes "refused") (number (unsigned n)) no_members)
