-- The result of a call that reads.
use Rattle.std.specs.Prelude.{◌≡◌, ◌++◌, ℕ, ⊤, List, [], Result, MatchResult}
use Rattle.cedar_value.specs.Datum.{Datum, record_of, fields_of}
use Rattle.cedar_conform_values.specs.declared.conform_fault.ConformFault.{ConformFault}
use Rattle.cedar_conform_values.specs.Faults.{Told}
use Rattle.cedar_conform_values.specs.Values.{Read, FieldsRead}

-- The answer is the value, where there is no fault; else one of the faults, or out of memory (this project).
abbrev pub Reads : Result Datum ConformFault → Read → Type 0
Reads result r = MatchResult result (λ v. (r.faults ≡ []) × (v ≡ r.value)) (λ e. Told r.faults e)

-- The same for a record, as the list of its pairs (this project).
abbrev pub ReadsRecord : Result (List (List ℕ × Datum)) ConformFault → Read → Type 0
ReadsRecord result r = MatchResult result (λ ps. (r.faults ≡ []) × (record_of (fields_of ps) ≡ r.value)) (λ e. Told r.faults e)

-- The pairs are added to a list, where there is no fault (this project).
abbrev pub Adds : Result ⊤ ConformFault → List (List ℕ × Datum) → List (List ℕ × Datum) → FieldsRead → Type 0
Adds result old new r = MatchResult result (λ _. (r.faults ≡ []) × (new ≡ old ++ r.pairs)) (λ e. Told r.faults e)
