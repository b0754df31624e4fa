-- The result of measuring a form.
use Rattle.std.specs.Prelude.{◌≡◌, ◌+◌, ◌<◌, ◌≤◌, ◌⊎◌, ℕ, List, [], Contains, Result, MatchResult}
use Rattle.cedar_schema_json.specs.declared.schema_fault.SchemaFault.{SchemaFault}
use Rattle.cedar_schema_json.specs.declared.schema_fault.SchemaFault.TheVariants.{TooLarge}
use Rattle.cedar_schema_json.specs.Expansion.{Size}

-- why a form of this size has no room, or it has faults
abbrev pub IsOver : SchemaFault → ℕ → ℕ → Size → List SchemaFault → Type 0
IsOver e room levels s faults = ((e ≡ TooLarge) × ((room < s.nodes) ⊎ (levels < s.height))) ⊎ Contains faults e

-- what is left of the room for nodes; or there is none, or it has faults
abbrev pub Leaves : Result ℕ SchemaFault → ℕ → ℕ → Size → List SchemaFault → Type 0
Leaves result room levels s faults = MatchResult result (λ left. (left + s.nodes ≡ room) × (s.height ≤ levels) × (faults ≡ [])) (λ e. IsOver e room levels s faults)
