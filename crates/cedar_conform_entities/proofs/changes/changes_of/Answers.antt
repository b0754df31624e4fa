use Rattle.std.proofs.Common.{sym, ◌∙◌}
use Rattle.std.proofs.lemmas.Result.{err_from_is_err_and}
use Rattle.serde_json.specs.View.{items_view, view}
use Rattle.cedar_conform_entities.proofs.ChangesLemmas.{keys_refused, upserts_missing, removals_missing, uids_refused, removals_refused, entries_refused, changes_denoted}
use Rattle.cedar_conform_entities.proofs.changes.changes_of.Goals as goal

pub returns-then-not-has_change_keys : goal.returns-then-not-has_change_keys
returns-then-not-has_change_keys c = keys_refused c.args.schema.now (view c.args.json.now) c.has_change_keys.result c.has_change_keys.ensures c.if-not-has_change_keys.true

pub returns-in_default : goal.returns-in_default
returns-in_default c = upserts_missing c.args.schema.now (view c.args.json.now) c.in_default.ensures

pub returns-in_default-items_at : goal.returns-in_default-items_at
returns-in_default-items_at c = removals_missing c.args.schema.now (view c.args.json.now) c.in_default-items_at.ensures

pub returns-in_err-removed : goal.returns-in_err-removed
returns-in_err-removed c =
    let p = err_from_is_err_and c.from_residual.result c.from_residual.ensures.1 in
    rw (p.1, p.2) (uids_refused c.args.schema.now (view c.args.json.now) (items_view c.in-Some-items_at.uids.now) _ c.in-Some-items_at.ensures c.in_err-removed.ensures)

pub returns-in_err-judge_removals : goal.returns-in_err-judge_removals
returns-in_err-judge_removals c =
    let p = err_from_is_err_and c.from_residual-in_err-judge_removals.result c.from_residual-in_err-judge_removals.ensures.1 in
    let keys = sym c.has_change_keys.ensures ∙ c.if-not-has_change_keys.false in
    rw (p.1, p.2) (removals_refused c.args.schema.now (view c.args.json.now) (items_view c.in-Some.entries.now) (items_view c.in-Some-items_at.uids.now) c.in_ok-removed.removed.items keys c.in-Some.ensures c.in-Some-items_at.ensures c.in_ok-removed.ensures _ c.deref.result.now c.deref.ensures.value c.in_err-judge_removals.ensures)

pub returns-in_err-upserted : goal.returns-in_err-upserted
returns-in_err-upserted c =
    let p = err_from_is_err_and c.from_residual-in_err-upserted.result c.from_residual-in_err-upserted.ensures.1 in
    let keys = sym c.has_change_keys.ensures ∙ c.if-not-has_change_keys.false in
    rw (p.1, p.2) (entries_refused c.args.schema.now (view c.args.json.now) (items_view c.in-Some.entries.now) (items_view c.in-Some-items_at.uids.now) c.in_ok-removed.removed.items keys c.in-Some.ensures c.in-Some-items_at.ensures c.in_ok-removed.ensures _ c.in_err-upserted.ensures)

pub returns : goal.returns
returns c =
    let keys = sym c.has_change_keys.ensures ∙ c.if-not-has_change_keys.false in
    changes_denoted c.args.schema.now (view c.args.json.now) (items_view c.in-Some.entries.now) (items_view c.in-Some-items_at.uids.now) c.in_ok-removed.removed.items keys c.in-Some.ensures c.in-Some-items_at.ensures c.in_ok-removed.ensures
    c.deref.result.now c.in_ok-upserted.upserted.items c.deref.ensures.value c.in_ok-judge_removals.ensures c.in_ok-upserted.ensures
