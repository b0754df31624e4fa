-- The response to a request (Cedar language reference, authorization; cedar-spec, Lean: Cedar.Spec.isAuthorized).
use Rattle.std.specs.Prelude.{ℕ, Bool, true, false, not, ◌&&◌, if◌then◌else◌, List, map, filter, Option, Some, None, Ok, Err}
use Rattle.std.specs.List.{list_any, filter_map}
use Rattle.cedar_value.specs.Datum.{Datum, boolean}
use Rattle.cedar_value.specs.World.{World}
use Rattle.cedar_value.specs.declared.request.Request.{Request}
use Rattle.cedar_ast.specs.declared.effect.Effect.{Effect}
use Rattle.cedar_ast.specs.declared.effect.Effect.TheVariants.{Permit, Forbid}
use Rattle.cedar_ast.specs.declared.decision.Decision.{Decision}
use Rattle.cedar_ast.specs.declared.decision.Decision.TheVariants.{Allow, Deny}
use Rattle.cedar_ast_expressions.specs.declared.error.EvaluationError.{EvaluationError}
use Rattle.cedar_ast_expressions.specs.Answer.{Answer}
use Rattle.cedar_ast_expressions.specs.Evaluation.{eval}
use Rattle.cedar_ast.specs.PolicyTree.{PolicyTree}
use Rattle.cedar_ast.specs.Condition.{condition_of}

-- What a policy's condition means for a request over a world (Cedar language reference, authorization).
abbrev pub meaning : Request → World → PolicyTree → Answer Datum
meaning q w p = eval (condition_of p) q w

-- Whether an answer is the value true (Cedar language reference, authorization).
abbrev pub is_true : Answer Datum → Bool
is_true (Ok (boolean b)) = b
is_true _ = false

-- Whether an effect is to permit (Cedar language reference, policies).
abbrev pub is_permit : Effect → Bool
is_permit Permit = true
is_permit Forbid = false

-- Whether a policy permits: a permit whose condition is true (Cedar language reference, authorization).
abbrev pub permits : Request → World → PolicyTree → Bool
permits q w p = is_permit p.effect && is_true (meaning q w p)

-- Whether a policy forbids: a forbid whose condition is true (Cedar language reference, authorization).
abbrev pub forbids : Request → World → PolicyTree → Bool
forbids q w p = not (is_permit p.effect) && is_true (meaning q w p)

-- A policy that errs, and its error (Cedar language reference, authorization, errors).
pub record ErringTree : Type 0 where
  pub id : List ℕ
  pub error : EvaluationError

-- The policy of this id, where its answer is an error (Cedar language reference, authorization, errors).
abbrev pub erring_by : Answer Datum → List ℕ → Option ErringTree
erring_by (Ok v) id = None
erring_by (Err e) id = Some (record { id = id; error = e })

-- A policy, where it errs for a request over a world (Cedar language reference, authorization, errors).
abbrev pub erring_of : Request → World → PolicyTree → Option ErringTree
erring_of q w p = erring_by (meaning q w p) p.id

-- Whether a request is allowed: no forbid forbids it, and some permit permits it (Cedar language reference,
-- authorization; cedar-spec, Lean: Cedar.Spec.isAuthorized).
abbrev pub allows : Request → World → List PolicyTree → Bool
allows q w ps = not (list_any (forbids q w) ps) && list_any (permits q w) ps

-- A response: the decision, the ids of the policies that determine it, and the policies that err, each list in the
-- set's order (Cedar language reference, authorization).
pub record ResponseTree : Type 0 where
  pub decision : Decision
  pub determining : List (List ℕ)
  pub erring : List ErringTree

-- The decision: to allow or to deny (Cedar language reference, authorization).
abbrev pub decided : Bool → Decision
decided true = Allow
decided false = Deny

-- The response of policies to a request over a world: the policies that permit determine that it is allowed, those
-- that forbid that it is denied (Cedar language reference, authorization; cedar-spec, Lean: Cedar.Spec.isAuthorized).
abbrev pub response : List PolicyTree → Request → World → ResponseTree
response ps q w = record {
  decision = decided (allows q w ps);
  determining = map (λ p. p.id) (filter (if allows q w ps then permits q w else forbids q w) ps);
  erring = filter_map (erring_of q w) ps;
}
