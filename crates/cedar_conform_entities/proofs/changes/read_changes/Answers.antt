use Rattle.std.proofs.Common.{List, sym, subst}
use Rattle.std.proofs.lemmas.Result.{err_from_is_err_and}
use Rattle.cedar_conform_entities.specs.Private.Changing.{AreChangesOf}
use Rattle.cedar_conform_entities.proofs.ChangesLemmas.{store_changed, store_conforms, store_refused}
use Rattle.cedar_conform_entities.proofs.changes.read_changes.Goals as goal
use Rattle.cedar_value.specs.declared.uid.Uid.{Uid}

pub returns-in_err-removed-clause-refused : goal.returns-in_err-removed-clause-refused
returns-in_err-removed-clause-refused c =
    let p = err_from_is_err_and c.from_residual.result c.from_residual.ensures.1 in
    rw (p.1, p.2) (λ other. c.in_err-removed.ensures other c.args.store.now)

pub returns-clause-denotes : goal.returns-clause-denotes
returns-clause-denotes c =
    let read = subst (λ (us : List Uid). AreChangesOf c.args.schema.now c.args.bytes.now us c.in_ok-removed.field-0.upserted.items) (sym c.deref.ensures.value) c.in_ok-removed.ensures in
    store_changed c.args.schema.now c.args.bytes.now c.args.store.now c.deref.result.now c.in_ok-removed.field-0.upserted.items read c.change_store.result c.change_store.ensures.world c.change_store.ensures.distinct c.change_store.ensures.acyclic

pub returns-clause-conforms : goal.returns-clause-conforms
returns-clause-conforms c =
    store_conforms c.args.schema.now c.args.bytes.now c.args.store.now c.changed_worlds_conform.ensures c.well_formedness.ensures.entity_parents c.well_formedness.ensures.apart c.well_formedness.ensures.hierarchy c.change_store.result
    (returns-clause-denotes c)

pub returns-clause-refused : goal.returns-clause-refused
returns-clause-refused c =
    let read = subst (λ (us : List Uid). AreChangesOf c.args.schema.now c.args.bytes.now us c.in_ok-removed.field-0.upserted.items) (sym c.deref.ensures.value) c.in_ok-removed.ensures in
    store_refused c.args.schema.now c.args.bytes.now c.args.store.now c.deref.result.now c.in_ok-removed.field-0.upserted.items read c.change_store.result c.change_store.ensures.refused
