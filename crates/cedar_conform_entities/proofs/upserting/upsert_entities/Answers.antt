use Rattle.std.proofs.Common.{[]}
use Rattle.std.proofs.lemmas.Result.{err_from_is_err_and}
use Rattle.serde_json.specs.View.{view}
use Rattle.cedar_conform_entities.specs.Changes.{upserts_only}
use Rattle.cedar_conform_entities.proofs.ChangesExact.{fine_changes, only_changed}
use Rattle.cedar_conform_entities.proofs.ChangesLemmas.{world_changed, world_conforms, world_refused}
use Rattle.cedar_conform_entities.proofs.OnlyMemory.{memory_alone}
use Rattle.cedar_conform_entities.proofs.upserting.upsert_entities.Goals as goal

pub returns-clause-denotes : goal.returns-clause-denotes
returns-clause-denotes c =
    world_changed c.args.schema.now (upserts_only (view c.args.entries.now)) c.args.store.now [] c.in_ok-upserted.upserted.items c.in_ok-upserted.ensures c.change_store.result c.change_store.ensures.world c.change_store.ensures.distinct c.change_store.ensures.acyclic

pub returns-clause-conforms : goal.returns-clause-conforms
returns-clause-conforms c =
    world_conforms c.args.schema.now (upserts_only (view c.args.entries.now)) c.args.store.now c.changed_worlds_conform.ensures c.well_formedness.ensures.entity_parents c.well_formedness.ensures.apart c.well_formedness.ensures.hierarchy c.change_store.result
    (returns-clause-denotes c)

pub returns-clause-refused : goal.returns-clause-refused
returns-clause-refused c =
    world_refused c.args.schema.now (upserts_only (view c.args.entries.now)) c.args.store.now [] c.in_ok-upserted.upserted.items c.in_ok-upserted.ensures c.change_store.result c.change_store.ensures.refused

pub returns-in_err-upserted-clause-only : goal.returns-in_err-upserted-clause-only
returns-in_err-upserted-clause-only c = λ w k.
    let p = err_from_is_err_and c.from_residual.result c.from_residual.ensures.1 in
    rw (p.1, p.2) (memory_alone _ (λ other. fine_changes c.args.schema.now (upserts_only (view c.args.entries.now)) c.args.store.now w k _ (c.in_err-upserted.ensures other c.args.store.now)))

pub returns-clause-only : goal.returns-clause-only
returns-clause-only c =
    only_changed c.args.schema.now (upserts_only (view c.args.entries.now)) c.args.store.now c.change_store.result (returns-clause-denotes c) (returns-clause-refused c)
