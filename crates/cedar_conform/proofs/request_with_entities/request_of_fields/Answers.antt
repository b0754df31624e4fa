use Rattle.std.proofs.Common.{inl, ap, ◌∙◌}
use Rattle.std.proofs.lemmas.Result.{err_from_is_err_and}
use Rattle.serde_json.specs.Data.{object}
use Rattle.base_json.specs.Members.{lent_view}
use Rattle.cedar_conform.specs.Private.Fields.{data_in}
use Rattle.cedar_conform.proofs.WithEntitiesLemmas.{fault_of_entries, world_of_entries, world_of_none}
use Rattle.cedar_conform.proofs.request_with_entities.request_of_fields.Goals as goal

pub returns-in_err-request : goal.returns-in_err-request
returns-in_err-request c = λ ms are.
    let p = err_from_is_err_and c.from_residual.result c.from_residual.ensures.1 in
    rw (p.1, p.2) (λ other. inl (c.in_err-request.ensures.answer _ are.request other))

pub returns-in_default : goal.returns-in_default
returns-in_default c = λ ms are.
    world_of_none c.args.schema.now c.args.store.now (object ms) c.in_ok-request.request (are.entities ∙ ap data_in c.in_default.is) (c.in_ok-request.ensures.answer _ are.request)

pub returns-in_err-upserted : goal.returns-in_err-upserted
returns-in_err-upserted c = λ ms are.
    let p = err_from_is_err_and c.from_residual-in_err-upserted.result c.from_residual-in_err-upserted.ensures.1 in
    rw (p.1, p.2) (λ other. fault_of_entries c.args.schema.now c.args.store.now (object ms) (lent_view c.in-Some.entries) _ (are.entities ∙ ap data_in c.in-Some.is) (c.in_err-upserted.ensures other))

pub returns : goal.returns
returns c = λ ms are.
    world_of_entries c.args.schema.now c.args.store.now (object ms) (lent_view c.in-Some.entries) c.in_ok-request.request c.in_ok-upserted.upserted (are.entities ∙ ap data_in c.in-Some.is) (c.in_ok-request.ensures.answer _ are.request) c.in_ok-upserted.ensures
