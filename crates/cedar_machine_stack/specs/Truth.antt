-- What a value is where a Boolean is expected.
use Rattle.std.specs.Prelude.{Bool, Option, Some, None, Ok, Err}
use Rattle.cedar_value.specs.Datum.{Datum, boolean}
use Rattle.cedar_ast_expressions.specs.declared.error.EvaluationError.TheVariants.{«Type»}
use Rattle.cedar_ast_expressions.specs.Answer.{Answer}

-- Whether a value is true, where it is a Boolean (Cedar language reference, operators).
abbrev pub truth_of : Datum → Option Bool
truth_of (boolean b) = Some b
truth_of _ = None

-- Whether an answer is the value true where a Boolean is expected, else an error (Cedar language reference, operators).
abbrev pub truth_found : Answer Datum → Answer Bool
truth_found (Ok (boolean b)) = Ok b
truth_found (Ok _) = Err «Type»
truth_found (Err e) = Err e
