use Rattle.base_json.specs.LentItems.{item_view}
use Rattle.cedar_conform_entities.proofs.EntryLemmas.{no_parents}
use Rattle.cedar_conform_entities.proofs.plain.plain_parents.Goals as goal

pub returns-in-None : goal.returns-in-None
returns-in-None c = no_parents (item_view c.args.item.now) c.new.result.items c.in-None.ensures c.new.ensures.items
