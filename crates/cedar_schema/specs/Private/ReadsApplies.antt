-- The result of reading an `appliesTo`.
use Rattle.std.specs.Prelude.{◌≡◌, [], Result, MatchResult}
use Rattle.cedar_schema_json.specs.declared.schema_fault.SchemaFault.{SchemaFault}
use Rattle.cedar_schema.specs.declared.schema.action.AppliesTo.{AppliesTo}
use Rattle.cedar_schema_json.specs.Faults.{Told}
use Rattle.cedar_schema.specs.Declaring.{Applies}

-- what the action applies to
pub record IsApplies (a : AppliesTo) (r : Applies) : Type 0 where
  pub faults : r.faults ≡ []
  pub principals : a.principals.keys ≡ r.principals
  pub resources : a.resources.keys ≡ r.resources
  pub context : a.context ≡ r.context

abbrev pub ReadsApplies : Result AppliesTo SchemaFault → Applies → Type 0
ReadsApplies result r = MatchResult result (λ a. IsApplies a r) (λ e. Told r.faults e)
