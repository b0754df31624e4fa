use Rattle.serde_json.specs.View.{view}
use Rattle.cedar_conform_values.specs.Uids.{uid_object}
use Rattle.cedar_policies_json.proofs.Uids.{no_uid}
use Rattle.cedar_policies_json.proofs.parts.read_uid.Goals as goal

pub returns-in-None : goal.returns-in-None
returns-in-None c = no_uid (uid_object (view c.args.json.now)) (rw c.in-None.is at c.in_ok-uid.ensures) c.is_name_tells_names.ensures
