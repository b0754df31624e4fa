use Rattle.std.proofs.Common.{ap, ◌∙◌}
use Rattle.serde_json.specs.Data as data_spec
use Rattle.serde_json.specs.View.{view, members_view}
use Rattle.serde_json.proofs.Views.{members_view-insert_entry}
use Rattle.cedar_schema_text.proofs.object.put.Goals as goal

pub returns : goal.returns
returns c =
    let old = c.args.found.now.entries in
    ap members_view c.in_ok-insert.ensures.entries ∙ members_view-insert_entry old c.in_ok-key.key c.args.value ∙ ap (λ key. data_spec.put key (view c.args.value) (members_view old)) c.in_ok-key.ensures.ok
