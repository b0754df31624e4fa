use Rattle.std.proofs.Common.{length}
use Rattle.std.proofs.lemmas.List.{length-map}
use Rattle.cedar_schema_json.specs.FormView.{form_of}
use Rattle.cedar_schema_json.specs.TableView.{table_of}
use Rattle.cedar_schema_json.proofs.ExpandLemmas.{built}
use Rattle.cedar_schema_json.proofs.form.expansion.build.Goals as goal

pub returns : goal.returns
returns c =
    built (table_of c.args.table.forms.now) (form_of c.args.form.now) (length c.args.table.forms.now) _ (length-map c.args.table.forms.now form_of) c.in_ok-judge.ensures c.expand.ensures
