use Rattle.std.proofs.Common.{sym, ◌∙◌}
use Rattle.std.proofs.lemmas.Result.{err_from_is_err_and}
use Rattle.serde_json.specs.View.{view}
use Rattle.cedar_conform_entities.proofs.EntryLemmas.{no_entry_refused, action_refused, unlisted_refused, not_so}
use Rattle.cedar_conform_entities.proofs.entry.read_entry.Goals as goal

pub returns-in_err-written : goal.returns-in_err-written
returns-in_err-written c =
    let p = err_from_is_err_and c.from_residual.result c.from_residual.ensures.1 in
    rw (p.1, p.2) (no_entry_refused c.args.schema.now (view c.args.json.now) _ c.in_err-written.ensures)

pub returns-then-not-repeats_action : goal.returns-then-not-repeats_action
returns-then-not-repeats_action c =
    action_refused c.args.schema.now (view c.args.json.now) c.in_ok-written.written.uid c.in_ok-written.written.parents.items c.in_ok-written.ensures (c.is_action_name.ensures.0 c.if-is_action_name.true)
    (not_so c.repeats_action.result _ c.repeats_action.ensures c.if-not-repeats_action.true)

pub returns-then-is_listed : goal.returns-then-is_listed
returns-then-is_listed c = record { read = c.in_ok-entity.ensures; listed = sym c.is_listed.ensures ∙ c.if-is_listed.true }

pub returns : goal.returns
returns c = unlisted_refused c.args.schema.now (view c.args.json.now) c.in_ok-entity.entity c.in_ok-entity.ensures (sym c.is_listed.ensures ∙ c.if-is_listed.false)
