use Rattle.cedar_schema_json.specs.Ends.{stays}
use Rattle.cedar_schema_json.proofs.form.table.end_of.Goals as goal

pub returns-in-None : goal.returns-in-None
returns-in-None c t ends = stays
