-- What is looked at in place of what an expression evaluates to.
use Rattle.std.specs.Prelude.{Ok, Err}
use Rattle.cedar_value.specs.Datum.{Datum}
use Rattle.cedar_value.specs.Glance.{datum_seen}
use Rattle.cedar_value.specs.declared.glance.Glance.{Glance}
use Rattle.cedar_ast_expressions.specs.Answer.{Answer}

-- the value that is looked at, or the error
abbrev pub answer_seen : Answer Glance → Answer Datum
answer_seen (Ok g) = Ok (datum_seen g)
answer_seen (Err e) = Err e
