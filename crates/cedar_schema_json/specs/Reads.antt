-- The result of a call that reads a type.
use Rattle.std.specs.Prelude.{◌≡◌, [], Result, MatchResult}
use Rattle.cedar_schema_json.specs.declared.schema_fault.SchemaFault.{SchemaFault}
use Rattle.cedar_schema_json.specs.declared.form.Form.{Form}
use Rattle.cedar_schema_json.specs.declared.json.scope.Scope.{Scope as CodeScope}
use Rattle.cedar_schema_json.specs.Faults.{Told}
use Rattle.cedar_schema_json.specs.FormView.{form_of}
use Rattle.cedar_schema_json.specs.Reading.{Read, Scope}

-- The scope that a value of the code is: its language, its namespace, and the names of its two tables (own).
abbrev pub scope_of : CodeScope → Scope
scope_of s = record { language = s.language; namespace = s.namespace.now; entities = s.entities.now; commons = s.commons.now }

-- A call that reads a type gives its form where there is no fault, and else one of the faults, or out of memory (own).
abbrev pub Reads : Result Form SchemaFault → Read → Type 0
Reads result r = MatchResult result (λ f. (r.faults ≡ []) × (form_of f ≡ r.form)) (λ e. Told r.faults e)
