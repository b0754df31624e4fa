use Rattle.cedar_conform_entities.proofs.ComingLemmas.{coming_start}
use Rattle.base_json.specs.Items.{to_come}
use Rattle.cedar_conform_entities.proofs.list.read_list.Goals as goal

pub returns : goal.returns
returns c = c.read_rest.ensures c.args.first.items (to_come c.args.items.now) (coming_start c.args.schema.now c.args.first.items (to_come c.args.items.now) c.new.result c.new.ensures.empty)
