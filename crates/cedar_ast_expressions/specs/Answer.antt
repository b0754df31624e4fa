-- A result of evaluation: a value, or an error.
use Rattle.std.specs.Prelude.{Result, Ok, Err}
use Rattle.cedar_ast_expressions.specs.declared.error.EvaluationError.{EvaluationError}

-- A value, or an error of the evaluation (Cedar language reference, errors).
abbrev pub Answer : Type 0 → Type 0
Answer A = Result A EvaluationError

-- Goes on with the value, or stays an error (Cedar language reference, errors).
abbrev pub with_answer : {A B : Type 0} → Answer A → (A → Answer B) → Answer B
with_answer (Ok v) go = go v
with_answer (Err e) go = Err e
