-- How the evaluation of a part of a condition ends.
use Rattle.std.specs.Prelude.{true, false}
use Rattle.cedar_value.specs.Datum.{Datum, boolean}
use Rattle.cedar_value.specs.World.{World}
use Rattle.cedar_value.specs.declared.request.Request.{Request}
use Rattle.cedar_ast_expressions.specs.Expression.{Expression}
use Rattle.cedar_ast_expressions.specs.Evaluation.{eval}
use Rattle.cedar_code.specs.declared.outcome.Outcome.{Outcome}
use Rattle.cedar_code.specs.declared.outcome.Outcome.TheVariants.{Value, Error, StackFault}
use Rattle.cedar_code.specs.Machine.{outcome_of}
use Rattle.cedar_why.specs.declared.ending.Ending.{Ending}
use Rattle.cedar_why.specs.declared.ending.Ending.TheVariants.{Holds, Fails, Errs, Other}

-- The ending of an evaluation that has this value (own).
abbrev pub ending_of_value : Datum → Ending
ending_of_value (boolean true) = Holds
ending_of_value (boolean false) = Fails
ending_of_value _ = Other

-- The ending of an execution (own).
abbrev pub ending_at : Outcome → Ending
ending_at (Value v) = ending_of_value v
ending_at (Error e) = Errs e
ending_at StackFault = Other

-- How the evaluation of an expression ends for a request over a world (Cedar language reference, operators).
abbrev pub ending_of : Expression → Request → World → Ending
ending_of e q w = ending_at (outcome_of (eval e q w))
