use Rattle.std.proofs.Common.{Some, sym, ap, ◌∙◌, subst, ℕ}
use Rattle.cedar_schema_json.specs.FormView.{form_of}
use Rattle.cedar_schema_json.specs.Ends.{Leads, stays}
use Rattle.cedar_schema_json.specs.TableView.{table_of}
use Rattle.cedar_schema_json.proofs.ChainLemmas.{leads_one, form_of-Common}
use Rattle.cedar_schema_json.proofs.Lookups.{got}
use Rattle.cedar_schema_json.proofs.form.chains.first_end.Goals as goal

pub returns-in-Some-Common : goal.returns-in-Some-Common
returns-in-Some-Common c =
    let s = c.in-Some-Common in
    let forms = c.args.forms.now in
    let here = leads_one (table_of forms) c.args.place s.next (got form_of forms c.args.place s.field-0.now s.ensures.lookup.0 s.ensures.lookup.1 ∙ ap Some (ap form_of s.field-0-is ∙ form_of-Common s.next)) in
    subst (λ (n : ℕ). Leads (table_of forms) c.args.place 1 n) (sym s.next-is) here

pub returns-in_default : goal.returns-in_default
returns-in_default c = stays

pub returns-in_default-2 : goal.returns-in_default-2
returns-in_default-2 c = stays
