use Rattle.cedar_conform_entities.proofs.StoreLemmas.{list_answers}
use Rattle.base_json.specs.Lists.{left_in}
use Rattle.cedar_conform_entities.proofs.entities.entities_of.Goals as goal

pub returns-in-Ok : goal.returns-in-Ok
returns-in-Ok c =
    list_answers c.args.schema.now c.args.bytes.items (λ v. v.items) c.in_ok-actions.actions.items (left_in c.in-Ok.list) c.read_objects.result c.in-Ok.ensures c.in_ok-actions.ensures c.read_objects.ensures
