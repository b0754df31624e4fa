use Rattle.std.proofs.Common.{List, sym, ap, subst, ◌∙◌}
use Rattle.std.proofs.lemmas.Result.{err_from_is_err_and}
use Rattle.serde_json.specs.View.{view, members_view}
use Rattle.cedar_schema_json.specs.declared.schema_fault.SchemaFault.{SchemaFault}
use Rattle.cedar_schema_json.specs.Entries.{root_faults, space_faults}
use Rattle.cedar_schema_json.specs.Faults.{Told}
use Rattle.cedar_schema_json.proofs.FormLemmas.{told_first}
use Rattle.cedar_schema_json.proofs.json.entry.check_spaces.Goals as goal

pub returns-in_err-check_space : goal.returns-in_err-check_space
returns-in_err-check_space c =
    let p = err_from_is_err_and c.from_residual.result c.from_residual.ensures.1 in
    let all = c.loop-namespace.invariant ∙ ap (λ es. root_faults c.args.language (members_view es)) c.in-Some.ensures.steps in
    let told = subst (λ n. Told (space_faults c.args.language n (view c.in-Some.space.now)) c.in_err-check_space.field-0.0) c.as_str.ensures.value c.in_err-check_space.ensures in
    rw (p.1, p.2) (subst (λ (fs : List SchemaFault). Told fs c.in_err-check_space.field-0.0) (sym all) (told_first _ _ _ told))
