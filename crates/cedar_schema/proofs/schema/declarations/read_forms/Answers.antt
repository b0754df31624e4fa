use Rattle.std.proofs.Common.{◌+◌, ◌<◌, ◌++◌, ◌∷◌, [], List, drop, length, drop_of_length-le, arith, sym, ap, ◌∙◌, append_assoc, append-nil}
use Rattle.std.proofs.lemmas.List.{map-append}
use Rattle.std.proofs.lemmas.Result.{err_from_is_err_and}
use Rattle.cedar_schema_json.specs.declared.form.Form.{Form}
use Rattle.cedar_schema_json.specs.Forms.{FormTree}
use Rattle.cedar_schema_json.specs.Entries.{EntryTree}
use Rattle.cedar_schema_json.specs.FormView.{form_of}
use Rattle.cedar_schema_json.specs.TableView.{table_of}
use Rattle.cedar_schema_json.specs.EntryView.{entries_view, entry_of}
use Rattle.cedar_schema.specs.Schemas.{common_faults, forms_of}
use Rattle.cedar_schema.proofs.EachLemmas.{entries_here, faults_more, faults_refused, faults_end}
use Rattle.cedar_schema.proofs.schema.declarations.read_forms.Goals as goal

pub loop-i-preserved : goal.loop-i-preserved
loop-i-preserved c =
    let here : c.loop-i.i < length c.args.entries.now = omega arith in
    let at = entries_here c.args.entries.now c.loop-i.i c.index-entries-i.result here c.index-entries-i.is in
    let all = entries_view c.args.entries.now in
    let left = entries_view (drop (c.loop-i.i + 1) c.args.entries.now) in
    let forms = forms_of c.args.language c.args.entities.now c.args.commons.now in
    let done = table_of c.loop-i.forms.items in
    record {
      list = ap (λ (v : List Form). table_of v ++ forms left) c.in_ok-push.ensures.items ∙ ap (λ (v : List FormTree). v ++ forms left) (map-append form_of c.loop-i.forms.items (c.in_ok-form.form ∷ []))
          ∙ append_assoc done (form_of c.in_ok-form.form ∷ []) (forms left) ∙ ap (λ (f : FormTree). done ++ f ∷ forms left) c.in_ok-form.ensures.1 ∙ ap (λ (es : List EntryTree). done ++ forms es) (sym at) ∙ c.loop-i.invariant.list;
      faults = faults_more (common_faults c.args.language c.args.entities.now c.args.commons.now) all _ left (entry_of c.index-entries-i.result) at c.in_ok-form.ensures.0 c.loop-i.invariant.faults;
    }

pub returns-in_err-form : goal.returns-in_err-form
returns-in_err-form c =
    let here : c.loop-i.i < length c.args.entries.now = omega arith in
    let at = entries_here c.args.entries.now c.loop-i.i c.index-entries-i.result here c.index-entries-i.is in
    let p = err_from_is_err_and c.from_residual.result c.from_residual.ensures.1 in
    rw (p.1, p.2) (faults_refused (common_faults c.args.language c.args.entities.now c.args.commons.now) (entries_view c.args.entries.now) _ (entries_view (drop (c.loop-i.i + 1) c.args.entries.now)) (entry_of c.index-entries-i.result) _ at c.in_err-form.ensures c.loop-i.invariant.faults)

pub returns : goal.returns
returns c =
    let none = ap entries_view (drop_of_length-le c.args.entries.now {i = c.loop-i.i} (omega arith)) in
    let done = table_of c.loop-i.forms.items in (
      faults_end (common_faults c.args.language c.args.entities.now c.args.commons.now) (entries_view c.args.entries.now) _ none c.loop-i.invariant.faults,
      sym (append-nil done) ∙ ap (λ (es : List EntryTree). done ++ forms_of c.args.language c.args.entities.now c.args.commons.now es) (sym none) ∙ c.loop-i.invariant.list,
    )
