-- The truth of a term, from that of its comparison.
use Rattle.std.proofs.Common.{◌≡◌, refl, Bool, true, false, Ok, Err}
use mathlib.Core.Bool.{not, beq}
use Rattle.cedar_value.specs.Datum.{Datum, boolean}
use Rattle.cedar_value.specs.World.{World}
use Rattle.cedar_value.specs.declared.request.Request.{Request}
use Rattle.cedar_ast_expressions.specs.declared.operator.UnaryOperator.TheVariants as operator
use Rattle.cedar_ast_expressions.specs.declared.error.EvaluationError.{EvaluationError}
use Rattle.cedar_ast_expressions.specs.Answer.{Answer, with_answer}
use Rattle.cedar_ast_expressions.specs.Evaluation.{eval}
use Rattle.cedar_ast_expressions.specs.Expression.{Expression}
use Rattle.cedar_ast_expressions.specs.Operators.{unary_of}
use Rattle.cedar_conjunctions.specs.Alike.{truth_found}
use Rattle.cedar_conjunctions.specs.Private.Terms.{negated_if}

-- what `!` makes of a truth, and of an error
denied : (w : World) (a : Answer Datum) (t : Bool) → Ok t ≡ truth_found a → Ok (not (beq t true)) ≡ truth_found (with_answer a (unary_of w operator.Not))
denied w (Ok (boolean true)) true h = refl
denied w (Ok (boolean false)) false h = refl
denied w (Ok (boolean true)) false h = absurd cc
denied w (Ok (boolean false)) true h = absurd cc
denied w (Ok _) t h = absurd cc
denied w (Err x) t h = absurd cc

kept : (w : World) (a : Answer Datum) (x : EvaluationError) → Err x ≡ truth_found a → Err x ≡ truth_found (with_answer a (unary_of w operator.Not))
kept w (Ok (boolean b)) x h = absurd cc
kept w (Ok _) x h = h
kept w (Err y) x h = h

module _ (q : Request) (w : World) (e : Expression) where
  pub term_true : (n t : Bool) → Ok t ≡ truth_found (eval e q w) → Ok (not (beq t n)) ≡ truth_found (eval (negated_if n e) q w)
  term_true true t h = denied w (eval e q w) t h
  term_true false true h = h
  term_true false false h = h

  pub term_error : (n : Bool) (x : EvaluationError) → Err x ≡ truth_found (eval e q w) → Err x ≡ truth_found (eval (negated_if n e) q w)
  term_error true x h = kept w (eval e q w) x h
  term_error false x h = h
