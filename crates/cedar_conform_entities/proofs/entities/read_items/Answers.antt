use Rattle.cedar_conform_entities.proofs.StoreLemmas.{list_answers}
use Rattle.base_json.specs.Items.{to_come}
use Rattle.cedar_conform_entities.proofs.entities.read_items.Goals as goal

pub returns-in-Some : goal.returns-in-Some
returns-in-Some c =
    list_answers c.args.schema.now c.args.bytes.now (λ v. v.items) c.args.actions.items (to_come c.in-Some.items) c.read_list.result (rw c.in-Some.is at c.in_ok-items.ensures) c.requires c.read_list.ensures
