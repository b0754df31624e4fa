-- What an expression means: a value, or an error (Cedar language reference, operators; cedar-spec, Lean:
-- Cedar.Spec.evaluate).
use Rattle.std.specs.Prelude.{ℕ, List, true, false, [], ◌∷◌, Ok, Err}
use Rattle.cedar_value.specs.Datum.{Datum, boolean, uid, set, record_of, members_of, fields_of}
use Rattle.cedar_value.specs.Sets.{set_from}
use Rattle.cedar_value.specs.Records.{record_from}
use Rattle.cedar_value.specs.World.{World}
use Rattle.cedar_value.specs.declared.request.Request.{Request}
use Rattle.cedar_ast_expressions.specs.declared.variable.Variable.{Variable}
use Rattle.cedar_ast_expressions.specs.declared.variable.Variable.TheVariants.{Principal, Action, Resource, Context}
use Rattle.cedar_ast_expressions.specs.declared.error.EvaluationError.TheVariants.{«Type»}
use Rattle.cedar_ast_expressions.specs.Expression.{Expression, literal, variable, and, or, if_else, unary, binary, set_with, record_with, Expressions, no_more, and_then, Entries, no_entries, entry}
use Rattle.cedar_ast_expressions.specs.Answer.{Answer, with_answer}
use Rattle.cedar_ast_expressions.specs.Operators.{unary_of, binary_of}

-- What the request has for a variable (Cedar language reference, variables).
abbrev pub variable_of : Variable → Request → Datum
variable_of Principal q = uid q.principal
variable_of Action q = uid q.action
variable_of Resource q = uid q.resource
variable_of Context q = record_of (fields_of q.context)

-- A value that is a Boolean, else the error type (Cedar language reference, operators).
abbrev pub truth_of : Datum → Answer Datum
truth_of (boolean b) = Ok (boolean b)
truth_of _ = Err «Type»

-- `&&` of a left value and the right side (Cedar language reference, operators, `&&`).
abbrev pub and_of : Datum → Answer Datum → Answer Datum
and_of (boolean true) right = with_answer right truth_of
and_of (boolean false) right = Ok (boolean false)
and_of _ right = Err «Type»

-- `||` of a left value and the right side (Cedar language reference, operators, `||`).
abbrev pub or_of : Datum → Answer Datum → Answer Datum
or_of (boolean true) right = Ok (boolean true)
or_of (boolean false) right = with_answer right truth_of
or_of _ right = Err «Type»

-- `if` of the condition's value and the two branches (Cedar language reference, operators, `if`).
abbrev pub if_of : Datum → Answer Datum → Answer Datum → Answer Datum
if_of (boolean true) if_true if_false = if_true
if_of (boolean false) if_true if_false = if_false
if_of _ if_true if_false = Err «Type»

-- The set of these members (Cedar language reference, sets).
abbrev pub set_of_values : List Datum → Datum
set_of_values vs = set (members_of (set_from vs))

-- The record of these pairs (Cedar language reference, records).
abbrev pub record_of_pairs : List (List ℕ × Datum) → Datum
record_of_pairs ps = record_of (fields_of (record_from ps))

-- What an expression means for a request over a world. Operands are evaluated from left to right, the first error is the
-- result, and only then are their kinds tested (Cedar language reference, operators; cedar-spec, Lean: Cedar.Spec.evaluate).
abbrev mutual
  pub eval : Expression → Request → World → Answer Datum
  eval (literal v) q w = Ok v
  eval (variable x) q w = Ok (variable_of x q)
  eval (and a b) q w = with_answer (eval a q w) (λ x. and_of x (eval b q w))
  eval (or a b) q w = with_answer (eval a q w) (λ x. or_of x (eval b q w))
  eval (if_else c a b) q w = with_answer (eval c q w) (λ x. if_of x (eval a q w) (eval b q w))
  eval (unary op a) q w = with_answer (eval a q w) (unary_of w op)
  eval (binary op a b) q w = with_answer (eval a q w) (λ x. with_answer (eval b q w) (binary_of w op x))
  eval (set_with es) q w = with_answer (eval_all es q w) (λ vs. Ok (set_of_values vs))
  eval (record_with fs) q w = with_answer (eval_entries fs q w) (λ ps. Ok (record_of_pairs ps))

  -- The values of expressions, from left to right (Cedar language reference, sets).
  pub eval_all : Expressions → Request → World → Answer (List Datum)
  eval_all no_more q w = Ok []
  eval_all (and_then e es) q w = with_answer (eval e q w) (λ v. with_answer (eval_all es q w) (λ vs. Ok (v ∷ vs)))

  -- The keys of entries with their values, from left to right (Cedar language reference, records).
  pub eval_entries : Entries → Request → World → Answer (List (List ℕ × Datum))
  eval_entries no_entries q w = Ok []
  eval_entries (entry k e fs) q w = with_answer (eval e q w) (λ v. with_answer (eval_entries fs q w) (λ ps. Ok ((k, v) ∷ ps)))
