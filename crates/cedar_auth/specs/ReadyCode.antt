-- What a struct of another crate cites in whose ghost field or model there are policies that are ready to answer.
use Rattle.std.specs.Coded.{codes}
use Rattle.cedar_value.specs.Private.DatumCode.{datum_code}
use Rattle.cedar_schema_types.specs.Private.TypeCode.{type_code}
use Rattle.cedar_ast_expressions.specs.Private.ExpressionCode.{expression_code}

-- The codes of values, types and expressions, of which a `ReadyTree` has one (own).
pub ruleset ready_codes = (datum_code, type_code, expression_code, codes)
