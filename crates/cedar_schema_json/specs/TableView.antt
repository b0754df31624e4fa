-- The table that a list of forms is, and the result of expanding.
use Rattle.std.specs.Prelude.{◌≡◌, List, [], map, Some, Result, MatchResult}
use Rattle.cedar_schema_json.specs.declared.form.Form.{Form}
use Rattle.cedar_schema_json.specs.declared.schema_fault.SchemaFault.{SchemaFault}
use Rattle.cedar_schema_types.specs.Types.{TypeTree}
use Rattle.cedar_schema_json.specs.Faults.{Told}
use Rattle.cedar_schema_json.specs.FormView.{form_of}
use Rattle.cedar_schema_json.specs.Expansion.{Table, Expanded}

-- The table that a list of forms is: each common type at its place (own).
abbrev pub table_of : List Form → Table
table_of = map form_of

-- A call that expands gives the type where there is no fault, and else one of the faults, or out of memory (own).
abbrev pub Expands : Result TypeTree SchemaFault → Expanded → Type 0
Expands result e = MatchResult result (λ t. (e.faults ≡ []) × (Some t ≡ e.ty)) (λ f. Told e.faults f)
