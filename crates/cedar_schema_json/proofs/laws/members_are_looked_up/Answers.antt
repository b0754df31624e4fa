use Rattle.cedar_schema_json.proofs.FormLemmas.{read_at-get, rows_at-get}
use Rattle.cedar_schema_json.proofs.laws.members_are_looked_up.Goals as goal

pub returns : goal.returns
returns c = record { types = read_at-get; attributes = rows_at-get }
