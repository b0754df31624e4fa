use Rattle.std.proofs.lemmas.Result.{err_from_is_err_and}
use Rattle.cedar_schema_json.specs.EntryView.{entries_view}
use Rattle.cedar_schema.specs.Private.SettingView.{setting_view}
use Rattle.cedar_schema.proofs.AnswerLemmas.{setting_table, setting_entities, setting_enumerated, setting_actions, setting_all}
use Rattle.cedar_schema.proofs.DeclaredLemmas.{declared_well_formed}
use Rattle.cedar_schema.proofs.schema.reading.read_setting.Goals as goal

pub returns-in_err-judge_forms : goal.returns-in_err-judge_forms
returns-in_err-judge_forms c =
    let p = err_from_is_err_and c.from_residual.result c.from_residual.ensures.1 in
    rw (p.1, p.2) (setting_table (setting_view c.args.setting) (entries_view c.args.entities.now) (entries_view c.args.actions.now) _ c.in_err-judge_forms.ensures)

pub returns-in_err-entity_types : goal.returns-in_err-entity_types
returns-in_err-entity_types c =
    let p = err_from_is_err_and c.from_residual-in_err-entity_types.result c.from_residual-in_err-entity_types.ensures.1 in
    rw (p.1, p.2) (setting_entities (setting_view c.args.setting) (entries_view c.args.entities.now) (entries_view c.args.actions.now) _ c.in_err-entity_types.ensures)

pub returns-in_err-action_types : goal.returns-in_err-action_types
returns-in_err-action_types c =
    let p = err_from_is_err_and c.from_residual-in_err-action_types.result c.from_residual-in_err-action_types.ensures.1 in
    rw (p.1, p.2) (setting_actions (setting_view c.args.setting) (entries_view c.args.entities.now) (entries_view c.args.actions.now) _ c.in_err-action_types.ensures)

pub returns-in_err-enumerations : goal.returns-in_err-enumerations
returns-in_err-enumerations c =
    let p = err_from_is_err_and c.from_residual-in_err-enumerations.result c.from_residual-in_err-enumerations.ensures.1 in
    rw (p.1, p.2) (setting_enumerated (setting_view c.args.setting) (entries_view c.args.entities.now) (entries_view c.args.actions.now) _ c.in_err-enumerations.ensures)

pub returns : goal.returns
returns c =
    setting_all (setting_view c.args.setting) (entries_view c.args.entities.now) (entries_view c.args.actions.now) _ c.in_ok-entity_types.entity_types.entries c.in_ok-action_types.action_types.entries c.in_ok-enumerations.enumerations.entries
    c.in_ok-judge_forms.ensures c.in_ok-entity_types.ensures c.in_ok-enumerations.ensures c.in_ok-action_types.ensures c.new.ensures

pub new-requires : goal.new-requires
new-requires c =
    declared_well_formed (setting_view c.args.setting) (entries_view c.args.entities.now) (entries_view c.args.actions.now) c.in_ok-entity_types.entity_types.entries c.in_ok-action_types.action_types.entries c.in_ok-enumerations.enumerations.entries
    c.requires.setting c.in_ok-entity_types.ensures c.in_ok-enumerations.ensures.1 c.in_ok-action_types.ensures
