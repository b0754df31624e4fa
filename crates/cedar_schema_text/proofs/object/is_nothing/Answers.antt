use Rattle.cedar_schema_text.proofs.Members.{none_is_nothing}
use Rattle.cedar_schema_text.proofs.object.is_nothing.Goals as goal

pub returns : goal.returns
returns c = none_is_nothing c.args.found.now.entries c.is_empty.result c.is_empty.ensures
