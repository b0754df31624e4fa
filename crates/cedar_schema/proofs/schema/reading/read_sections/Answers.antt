use Rattle.std.proofs.lemmas.Result.{err_from_is_err_and}
use Rattle.std.proofs.Common.{List, ap, sym, subst, ◌∙◌}
use Rattle.std.specs.List.{AllByRecursion}
use Rattle.cedar_schema_json.specs.Forms.{FormTree}
use Rattle.cedar_schema_json.specs.EntryView.{entries_view}
use Rattle.cedar_schema.specs.Private.SettingView.{sections_view}
use Rattle.cedar_schema_json.specs.TableView.{table_of}
use Rattle.cedar_schema.specs.Private.NamedForms.{FormNames}
use Rattle.cedar_schema.proofs.AnswerLemmas.{sections_forms, sections_all}
use Rattle.cedar_schema.proofs.NamedTypes.{forms_named}
use Rattle.cedar_schema.proofs.schema.reading.read_sections.Goals as goal

pub returns-in_err-forms : goal.returns-in_err-forms
returns-in_err-forms c =
    let p = err_from_is_err_and c.from_residual-in_err-forms.result c.from_residual-in_err-forms.ensures.1 in
    rw (p.1, p.2) (sections_forms c.args.language (sections_view c.args.commons.now c.args.entities.now c.args.actions.now) c.in_ok-entity_names.entity_names c.in_ok-common_names.common_names _ c.in_ok-entity_names.ensures c.in_ok-common_names.ensures c.in_err-forms.ensures)

pub returns : goal.returns
returns c =
    sections_all (sections_view c.args.commons.now c.args.entities.now c.args.actions.now)
    (record { language = c.args.language; entities = c.in_ok-entity_names.entity_names; commons = c.in_ok-common_names.common_names; table = table_of c.deref-2.result.now; uids = c.in_ok-uids.uids.keys }) _ c.in_ok-entity_names.ensures c.in_ok-common_names.ensures
    (c.in_ok-forms.ensures.0, ap table_of c.deref-2.ensures.value ∙ c.in_ok-forms.ensures.1) c.in_ok-uids.ensures c.read_setting.ensures

pub read_setting-requires-clause-setting : goal.read_setting-requires-clause-setting
read_setting-requires-clause-setting c = record {
  names = c.in_ok-entity_names.ensures;
  uids = c.in_ok-uids.ensures;
  forms = subst (λ (t : List FormTree). AllByRecursion (FormNames c.in_ok-entity_names.entity_names) t) (sym (ap table_of c.deref-2.ensures.value ∙ c.in_ok-forms.ensures.1))
      (forms_named c.args.language c.in_ok-entity_names.entity_names c.in_ok-common_names.common_names (entries_view c.args.commons.now));
}
