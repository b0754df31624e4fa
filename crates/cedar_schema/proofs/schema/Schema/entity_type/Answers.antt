use Rattle.std.proofs.Common.{sym}
use Rattle.cedar_value.specs.Private.Same.{text_same}
use Rattle.cedar_schema.proofs.schema.Schema.entity_type.Goals as goal

pub returns-in-Some-clause-same : goal.returns-in-Some-clause-same
returns-in-Some-clause-same c = sym (text_same _ _ c.in-Some.ensures.same_key)
