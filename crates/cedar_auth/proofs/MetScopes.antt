-- What a policy means whose scope is met.
use Rattle.std.proofs.Common.{◌≡◌, Ok, Err, true, refl, ap, ◌∙◌}
use Rattle.cedar_value.specs.Datum.{Datum, boolean}
use Rattle.cedar_value.specs.World.{World}
use Rattle.cedar_value.specs.declared.request.Request.{Request}
use Rattle.cedar_ast_expressions.specs.Answer.{Answer, with_answer}
use Rattle.cedar_ast_expressions.specs.Evaluation.{eval, and_of, truth_of}
use Rattle.cedar_ast_expressions.specs.Expression.{Expression, and}
use Rattle.cedar_ast_expressions.specs.declared.variable.Variable.TheVariants.{Principal, Resource}
use Rattle.cedar_ast.specs.Condition.{condition_of, conditions_of, entity_scope_of, action_scope_of}
use Rattle.cedar_ast.specs.PolicyTree.{PolicyTree}
use Rattle.cedar_code.specs.TrueSides.{AreTrue}
use Rattle.cedar_conjunctions.specs.Alike.{truth_found}
use Rattle.cedar_auth_candidates.specs.Scopes.{sides_of}
use Rattle.cedar_machine.specs.Verdict.{verdict_of}

-- after a true side the other one decides
and_true : (a b : Expression) (q : Request) (w : World) → eval a q w ≡ Ok (boolean true) → eval (and a b) q w ≡ with_answer (eval b q w) truth_of
and_true a b q w h = ap (λ (x : Answer Datum). with_answer x (λ v. and_of v (eval b q w))) h

thrice : (y : Answer Datum) → verdict_of (with_answer (with_answer (with_answer y truth_of) truth_of) truth_of) ≡ truth_found y
thrice (Ok (boolean b)) = refl
thrice (Ok _) = refl
thrice (Err e) = refl

-- the conditions decide
pub met_means : (p : PolicyTree) (q : Request) (w : World) → AreTrue (sides_of p.scope) q w
    → verdict_of (eval (condition_of p) q w) ≡ truth_found (eval (conditions_of p.conditions) q w)
met_means p q w all =
    let principal = entity_scope_of Principal p.scope.principal in
    let action = action_scope_of p.scope.action in
    let resource = entity_scope_of Resource p.scope.resource in
    let rest = conditions_of p.conditions in
    let first : eval (and resource rest) q w ≡ with_answer (eval rest q w) truth_of = and_true resource rest q w all.1.1.0 in
    let second : eval (and action (and resource rest)) q w ≡ with_answer (with_answer (eval rest q w) truth_of) truth_of =
    and_true action (and resource rest) q w all.1.0 ∙ ap (λ (x : Answer Datum). with_answer x truth_of) first in
    let third : eval (and principal (and action (and resource rest))) q w ≡ with_answer (with_answer (with_answer (eval rest q w) truth_of) truth_of) truth_of =
    and_true principal (and action (and resource rest)) q w all.0 ∙ ap (λ (x : Answer Datum). with_answer x truth_of) second in
    ap verdict_of third ∙ thrice (eval rest q w)
