use Rattle.std.proofs.Common.{List, Some, ap, ◌∙◌}
use Rattle.serde_json.specs.View.{items_view, view}
use Rattle.serde_json.specs.declared.value.Value.{Value}
use Rattle.cedar_conform_entities.proofs.ChangesLemmas.{no_entries_refused, upserts_only_read}
use Rattle.cedar_conform_entities.proofs.upserting.upserted_by.Goals as goal

pub returns-in_default : goal.returns-in_default
returns-in_default c = no_entries_refused c.args.schema.now (view c.args.entries.now) c.in_default.ensures

pub returns : goal.returns
returns c =
    let list = ap (λ (xs : List Value). Some (items_view xs)) c.deref.ensures.value ∙ c.in-Some.ensures in
    upserts_only_read c.args.schema.now (view c.args.entries.now) (items_view c.deref.result.now) list (λ v. v.items) c.read_upserts.result c.read_upserts.ensures
