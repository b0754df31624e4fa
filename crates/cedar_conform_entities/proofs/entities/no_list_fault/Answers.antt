use Rattle.serde_json.specs.View.{view}
use Rattle.cedar_conform_entities.proofs.StoreLemmas.{no_list_refused}
use Rattle.cedar_conform_entities.proofs.entities.no_list_fault.Goals as goal

pub returns-in-Ok-Some : goal.returns-in-Ok-Some
returns-in-Ok-Some c = λ other. no_list_refused c.args.schema.now c.args.bytes.now (view c.in-Ok-Some.json) (rw c.in-Ok-Some.field-0-is at c.in-Ok-Some.ensures) c.requires
