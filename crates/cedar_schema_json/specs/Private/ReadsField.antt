-- The result of a call that reads an attribute.
use Rattle.std.specs.Prelude.{◌≡◌, ℕ, List, [], ◌++◌, Option, Result, MatchResult}
use Rattle.serde_json.specs.Data.{Data}
use Rattle.cedar_schema_json.specs.declared.schema_fault.SchemaFault.{SchemaFault}
use Rattle.cedar_schema_json.specs.declared.form.FormField.{FormField}
use Rattle.cedar_schema_json.specs.Faults.{Told}
use Rattle.cedar_schema_json.specs.Private.FieldView.{field_of}
use Rattle.cedar_schema_json.specs.Reading.{Read, required_faults, is_required}

-- an attribute, where it has no fault
abbrev pub ReadsField : Result FormField SchemaFault → List ℕ → Option Data → Read → Type 0
ReadsField result k required r = MatchResult result
    (λ f. (required_faults required ++ r.faults ≡ []) × (field_of f ≡ record { name = k; required = is_required required; form = r.form }))
    (λ e. Told (required_faults required ++ r.faults) e)
