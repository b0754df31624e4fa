-- What is published to a handle, and why nothing is.
use Rattle.std.specs.Prelude.{◌≡◌, ℕ, List, [], Option, None, Some}
use Rattle.cedar_ast.specs.PolicySetTree.{PolicySetTree}
use Rattle.cedar_schema_spec.specs.SchemaTree.{SchemaTree}
use Rattle.cedar_schema_spec.specs.Conformance.{Conforms}
use Rattle.cedar_value.specs.declared.request.Request.{Request}
use Rattle.cedar_conform.specs.Requests.{LineDenotes}
use Rattle.cedar_auth_spec.specs.Headline.{IsAnsweredSoundlyWith}
use Rattle.cedar_auth_spec.specs.Ready.{ReadyTree}
use Rattle.cedar_check_spec.specs.Reports.{AreFaultsWith}
use Rattle.cedar_check_spec.specs.declared.settings.Settings.{Settings}
use Rattle.cedar_files.specs.Authorization.{IsFirstRefused}
use Rattle.cedar_files.specs.ChangesText.{HoldChanges, HoldNoChanges}
use Rattle.cedar_files.specs.EntitiesFile.{HoldsNoWorld, HoldsWorld}
use Rattle.cedar_files.specs.ReportText.{IsReportText}
use Rattle.cedar_files.specs.Roles.{Holdings}
use Rattle.cedar_files.specs.Standing.{IsRefusalLine}
use Rattle.cedar_files.specs.Validation.{Hold}
use Rattle.cedar_files.specs.declared.files.Role.{Role}
use Rattle.cedar_files.specs.declared.files.Role.TheVariants.{Schema, Policies, Links, Entities}
use Rattle.cedar_files.specs.declared.refusal.FileRefusal.{FileRefusal}
use Rattle.cedar_c.specs.declared.refusal.Refusal.{Refusal}

-- The number of a file, from 1 (own).
abbrev pub file_number : Role → ℕ
file_number Schema = 1
file_number Policies = 2
file_number Links = 3
file_number Entities = 4

-- The offset of a fault, or 2^64 - 1 where it has no place (own).
abbrev pub offset_number : Option ℕ → ℕ
offset_number None = 18446744073709551615
offset_number (Some at) = at

-- What is said where no file is refused (own).
abbrev pub no_refusal : Refusal
no_refusal = record { file = 0; number = 0; offset = 18446744073709551615 }

-- This is what C is given of the refusal of the file (own).
pub record IsRefusalOf (role : Role) (why : FileRefusal) (refusal : Refusal) : Type 0 where
  pub file : refusal.file ≡ file_number role
  pub number : refusal.number ≡ why.number
  pub offset : refusal.offset ≡ offset_number why.offset

-- Of these files under these settings, this one is refused first, and this is the line that says so (own).
pub record IsRefusedFirst (settings : Settings) (holds : Holdings) (refusal : Refusal) (line : List ℕ) : Type 0 where
  pub role : Role
  pub why : FileRefusal
  pub first : IsFirstRefused settings holds role why
  pub is_refusal : IsRefusalOf role why refusal
  pub is_line : IsRefusalLine role why line

-- The files hold policies in which strict validation under these settings finds faults for their schema, and this is the report on
-- them (Cedar documentation, policy validation).
pub record HaveFaults (settings : Settings) (holds : Holdings) (report : List ℕ) : Type 0 where
  pub schema : SchemaTree
  pub policies : PolicySetTree
  pub hold : Hold settings.language holds schema policies
  pub some : ¬ AreFaultsWith settings schema policies.policies []
  pub is_report : IsReportText settings schema policies.policies report

-- The world of the engine conforms to its schema, and each request that a line denotes for the schema is answered soundly (own;
-- cedar-spec, Lean: Cedar.Thm).
pub record IsSound (r : ReadyTree) : Type 0 where
  pub conforms : Conforms r.schema r.world
  pub sound : (line : List ℕ) (q : Request) → LineDenotes r.schema line q → IsAnsweredSoundlyWith r.settings r.policies.policies q r.world

-- The new engine has the schema, the policies and the settings of the old one, and the entities that the bytes denote for the schema. It
-- is sound (own; Cedar documentation, entities and context in JSON).
pub record IsOver (entities : List ℕ) (old new : ReadyTree) : Type 0 where
  pub schema : new.schema ≡ old.schema
  pub policies : new.policies ≡ old.policies
  pub settings : new.settings ≡ old.settings
  pub is_world : HoldsWorld old.schema (Some entities) new.world
  pub is_sound : IsSound new

-- The bytes denote no entities for the schema of the engine: this is why, and this is the line that says so (own).
pub record AreRefusedOver (entities : List ℕ) (engine : ReadyTree) (refusal : Refusal) (line : List ℕ) : Type 0 where
  pub why : FileRefusal
  pub has_fault : HoldsNoWorld engine.schema (Some entities) why
  pub is_refusal : IsRefusalOf Entities why refusal
  pub is_line : IsRefusalLine Entities why line

-- The new engine has the schema, the policies and the settings of the old one, and the entities that the changes hold for the schema
-- after the entities of the old one. It is sound (own; Cedar documentation, entities and context in JSON).
pub record IsChanged (changes : List ℕ) (old new : ReadyTree) : Type 0 where
  pub schema : new.schema ≡ old.schema
  pub policies : new.policies ≡ old.policies
  pub settings : new.settings ≡ old.settings
  pub is_world : HoldChanges old.schema changes old.world new.world
  pub is_sound : IsSound new

-- The changes hold no entities for the schema and the entities of the engine: this is why, and this is the line that says so, which
-- names the entities (own).
pub record AreChangesRefused (changes : List ℕ) (engine : ReadyTree) (refusal : Refusal) (line : List ℕ) : Type 0 where
  pub why : FileRefusal
  pub has_fault : HoldNoChanges engine.schema changes engine.world why
  pub is_refusal : IsRefusalOf Entities why refusal
  pub is_line : IsRefusalLine Entities why line
