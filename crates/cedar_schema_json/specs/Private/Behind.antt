-- What the name of a common type leads to.
use Rattle.std.specs.Prelude.{◌≡◌, ◌<◌, ℕ, Some, Contains}
use Rattle.std.specs.List.{slice_get}
use Rattle.cedar_schema_json.specs.declared.schema_fault.SchemaFault.TheVariants.{UnknownType, CommonCycle}
use Rattle.cedar_schema_json.specs.declared.form.table.Behind.{Behind as CodeBehind}
use Rattle.cedar_schema_json.specs.declared.form.table.Behind.TheVariants.{Form, Nothing, Cycle}
use Rattle.cedar_schema_json.specs.Forms.{FormTree}
use Rattle.cedar_schema_json.specs.FormView.{form_of}
use Rattle.cedar_schema_json.specs.Expansion.{Table, common_size, common_type, cycle_faults, form_type, form_faults, size}

-- with n names to follow, the common type gives what f gives with m
pub record StandsBehind (t : Table) (n place m : ℕ) (f : FormTree) : Type 0 where
  pub same_size : common_size t n place ≡ size t m f
  pub same_type : common_type t n place ≡ form_type (common_type t m) f
  pub same_faults : cycle_faults t n place ≡ form_faults (cycle_faults t m) f
  pub fewer : m < n
  pub at : ℕ
  pub found : slice_get t at ≡ Some f

-- it is not there
pub record IsNothing (t : Table) (n place : ℕ) : Type 0 where
  pub unknown : Contains (cycle_faults t n place) UnknownType

-- it leads through more than n names
pub record LeadsTooFar (t : Table) (n place : ℕ) : Type 0 where
  pub cycle : Contains (cycle_faults t n place) CommonCycle

abbrev pub IsBehind : Table → ℕ → ℕ → CodeBehind → Type 0
IsBehind t n place (Form f m) = StandsBehind t n place m (form_of f.now)
IsBehind t n place Nothing = IsNothing t n place
IsBehind t n place Cycle = LeadsTooFar t n place
