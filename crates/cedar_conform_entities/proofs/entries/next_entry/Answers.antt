use Rattle.serde_json.specs.View.{view}
use Rattle.cedar_conform_entities.proofs.ComingLemmas.{first_refused}
use Rattle.base_json.specs.Items.{to_come}
use Rattle.cedar_conform_entities.proofs.entries.next_entry.Goals as goal

pub returns-in-Ok-clause-entry : goal.returns-in-Ok-clause-entry
returns-in-Ok-clause-entry c = (view c.in-Some.tree, c.in-Ok.ensures, rw c.in-Some.is at c.in_ok-tree.ensures.items)

pub returns-in-Err-clause-entry : goal.returns-in-Err-clause-entry
returns-in-Err-clause-entry c =
    first_refused c.args.schema.now (view c.in-Some.tree) (to_come c.args.items.now) (to_come c.next_tree.new.items) c.in-Err.fault c.after_fault.result (rw c.in-Some.is at c.in_ok-tree.ensures.items) c.in-Err.ensures c.after_fault.ensures
