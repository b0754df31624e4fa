use Rattle.std.proofs.lemmas.Result.{err_from_is_err_and}
use Rattle.std.proofs.Common.{ap, ◌∙◌}
use Rattle.serde_json.specs.View.{members_view}
use Rattle.cedar_schema_json.specs.EntryView.{entries_view}
use Rattle.cedar_schema.specs.Private.SettingView.{sections_view}
use Rattle.cedar_schema.proofs.AnswerLemmas.{root_spaces, root_all}
use Rattle.cedar_schema.proofs.schema.reading.read_root.Goals as goal

pub returns-in_err-check_spaces : goal.returns-in_err-check_spaces
returns-in_err-check_spaces c =
    let p = err_from_is_err_and c.from_residual.result c.from_residual.ensures.1 in
    rw (p.1, p.2) (root_spaces c.args.language (members_view c.args.root.now.entries) _ c.in_err-check_spaces.ensures)

pub returns : goal.returns
returns c =
    root_all c.args.language (members_view c.args.root.now.entries) (sections_view c.deref.result.now c.deref-2.result.now c.deref-3.result.now) _ c.in_ok-check_spaces.ensures
    (λ i. record {
      commons = (ap entries_view c.deref.ensures.value ∙ c.in_ok-commons.ensures) i;
      entities = (ap entries_view c.deref-2.ensures.value ∙ c.in_ok-entities.ensures) i;
      actions = (ap entries_view c.deref-3.ensures.value ∙ c.in_ok-actions.ensures) i;
    }) c.read_sections.ensures
