use Rattle.std.proofs.Common.{◌∙◌, ap, sym}
use Rattle.serde_json.specs.View.{members_view}
use Rattle.serde_json.proofs.Views.{members_view-insert_entry}
use Rattle.base_json.specs.Private.Steps.{with_member}
use Rattle.base_json.proofs.scalars.put.Goals as goal

pub returns-in_ok-insert-clause-ok : goal.returns-in_ok-insert-clause-ok
returns-in_ok-insert-clause-ok c =
    let old = c.args.found.now.entries in
    ap members_view c.in_ok-insert.ensures.entries ∙ members_view-insert_entry old c.in-Some.key c.in-Some.value ∙ ap (λ m. with_member m (members_view old)) (sym c.in-Some.is)
