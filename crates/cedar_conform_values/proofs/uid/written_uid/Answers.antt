use Rattle.serde_json.specs.View.{view}
use Rattle.cedar_conform_values.proofs.UidLemmas.{writes_object}
use Rattle.cedar_conform_values.proofs.uid.written_uid.Goals as goal

pub returns-in-None : goal.returns-in-None
returns-in-None c = writes_object (view c.args.json.now) c.uid_of_object.result c.in-None.ensures c.uid_of_object.ensures
