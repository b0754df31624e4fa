use Rattle.std.specs.Bool.{one_answer}
use Rattle.cedar_schema_spec.specs.Declarations.{type_below}
use Rattle.cedar_schema_spec.proofs.DeclaredTests.{type_descents_decided}
use Rattle.cedar_check_operators.proofs.declared.type_below.Goals as goal

pub returns : goal.returns
returns c = one_answer c.type_descends.result (type_below c.args.schema.now c.args.low.now c.args.high.now) c.type_descends.ensures (type_descents_decided c.args.schema.now c.args.low.now c.args.high.now)
