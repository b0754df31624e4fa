use Rattle.std.proofs.Common.{◌≡◌, ◌+◌, ◌-◌, suc, arith}
use Rattle.cedar_schema_json.specs.FormView.{form_of}
use Rattle.cedar_schema_json.specs.TableView.{table_of}
use Rattle.cedar_schema_json.proofs.ChainLemmas.{stands_behind, is_nothing, leads_too_far}
use Rattle.cedar_schema_json.proofs.Lookups.{got, got_none}
use Rattle.cedar_schema_json.proofs.form.table.Table.behind.Goals as goal

pub returns-then-names-followed : goal.returns-then-names-followed
returns-then-names-followed c =
    let t = table_of c.args.self.forms.now in
    leads_too_far t c.args.names c.args.place c.end_of-end.result.1 c.end_of-end.result.0 (c.end_of-end.ensures t c.requires) c.if-names-followed.true

pub returns-in-Some : goal.returns-in-Some
returns-in-Some c =
    let t = table_of c.args.self.forms.now in
    let e = c.end_of-end.result in
    let less = c.if-names-followed.false in
    let counted : c.args.names ≡ e.1 + suc (c.args.names - e.1 - 1) = omega arith in
    stands_behind t c.args.names c.args.place e.1 e.0 (c.args.names - e.1 - 1) (form_of c.in-Some.form.now) (c.end_of-end.ensures t c.requires) counted
    (got form_of c.args.self.forms.now e.0 c.in-Some.form.now c.in-Some.ensures.lookup.0 c.in-Some.ensures.lookup.1)

pub returns-in-None : goal.returns-in-None
returns-in-None c =
    let t = table_of c.args.self.forms.now in
    let e = c.end_of-end.result in
    let less = c.if-names-followed.false in
    let counted : c.args.names ≡ e.1 + suc (c.args.names - e.1 - 1) = omega arith in
    is_nothing t c.args.names c.args.place e.1 e.0 (c.args.names - e.1 - 1) (c.end_of-end.ensures t c.requires) counted (got_none form_of c.args.self.forms.now e.0 c.in-None.ensures.lookup.0)
