use Rattle.cedar_conform_entities.proofs.StoreLemmas.{store_denoted, store_conforms, store_answers}
use Rattle.cedar_conform_entities.proofs.entities.read_entities_owned.Goals as goal

pub returns-clause-denotes : goal.returns-clause-denotes
returns-clause-denotes c =
    store_denoted c.args.schema.now c.args.bytes.items c.in_ok-entities.entities.items c.well_formedness.ensures.apart c.in_ok-entities.ensures c.build_store.result c.build_store.ensures.world c.build_store.ensures.distinct c.build_store.ensures.acyclic

pub returns-clause-conforms : goal.returns-clause-conforms
returns-clause-conforms c =
    store_conforms c.args.schema.now c.args.bytes.items c.in_ok-entities.entities.items c.well_formedness.ensures.apart c.in_ok-entities.ensures c.denoted_worlds_conform.ensures c.well_formedness.ensures.hierarchy c.build_store.result (returns-clause-denotes c)

pub returns-clause-refused : goal.returns-clause-refused
returns-clause-refused c =
    store_answers c.args.schema.now c.args.bytes.items c.in_ok-entities.entities.items c.well_formedness.ensures.apart c.in_ok-entities.ensures c.well_formedness.ensures.in_order.1 c.build_store.result c.build_store.ensures.refused
