-- The results of calls that read lists.
use Rattle.std.specs.Prelude.{◌≡◌, [], ◌∷◌, Vec, Result, MatchResult}
use Rattle.std.specs.Global.{Global}
use Rattle.cedar_schema_json.specs.declared.schema_fault.SchemaFault.{SchemaFault}
use Rattle.cedar_schema_json.specs.Faults.{Told}
use Rattle.cedar_schema_json.specs.Lists.{ListRead}

-- A call that reads a list gives its items where there is no fault, and else one of the faults, or out of memory (own).
abbrev pub ReadsList : {A : Type 0} → Result (Vec A Global) SchemaFault → ListRead A → Type 0
ReadsList result r = MatchResult result (λ v. (r.faults ≡ []) × (v.items ≡ r.items)) (λ e. Told r.faults e)

-- A call that reads one item of a list gives it where there is no fault, and else one of the faults, or out of memory (own).
abbrev pub ReadsItem : {A : Type 0} → Result A SchemaFault → ListRead A → Type 0
ReadsItem result r = MatchResult result (λ x. (r.faults ≡ []) × (r.items ≡ x ∷ [])) (λ e. Told r.faults e)
