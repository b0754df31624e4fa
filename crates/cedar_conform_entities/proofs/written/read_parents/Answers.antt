use Rattle.serde_json.specs.View.{view}
use Rattle.cedar_conform_entities.proofs.EntryLemmas.{no_parents}
use Rattle.cedar_conform_entities.proofs.written.read_parents.Goals as goal

pub returns-in_default : goal.returns-in_default
returns-in_default c = no_parents (view c.args.json.now) c.new.result.items c.in_default.ensures c.new.ensures.items
