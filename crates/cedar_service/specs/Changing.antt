-- What a service does where the entities of its current version change.
use Rattle.std.specs.Prelude.{◌≡◌, ◌≢◌, ◌⊎◌, ℕ, List}
use Rattle.cedar_auth_spec.specs.Ready.{ReadyTree}
use Rattle.cedar_conform_entities.specs.Changes.{BytesDenoteChanged, BytesHaveChangesFault}
use Rattle.cedar_conform_values.specs.Numbers.{number_of}
use Rattle.cedar_conform_values.specs.declared.conform_fault.ConformFault.{ConformFault}
use Rattle.cedar_conform_values.specs.declared.conform_fault.ConformFault.TheVariants.{OutOfMemory}
use Rattle.cedar_service_law.specs.Service.{ServiceState, publish, published, Happens, RefusesPublish}

-- The version after changes that these bytes write: the schema, the policies and the settings of the old one, and the world that
-- the bytes denote after its world (own).
pub record IsVersionAfter (old : ReadyTree) (changes : List ℕ) (new : ReadyTree) : Type 0 where
  pub schema : new.schema ≡ old.schema
  pub policies : new.policies ≡ old.policies
  pub settings : new.settings ≡ old.settings
  pub denotes : BytesDenoteChanged old.schema changes old.world new.world

-- A change is the publication of the version after it: one event, like any other publication (own).
pub record Changes (old : ServiceState) (changes : List ℕ) (number : ℕ) (new : ServiceState) : Type 0 where
  pub version : ReadyTree
  pub after : IsVersionAfter old.current changes version
  pub happens : Happens old (publish version) (published number) new

-- At the version, the changes have a fault of this number. Out of memory is not a fault of changes (own).
abbrev pub IsFaultOfChanges : ReadyTree → List ℕ → ℕ → Type 0
IsFaultOfChanges v changes number =
    (fault : ConformFault) × (fault ≢ OutOfMemory) × BytesHaveChangesFault v.schema v.world changes fault × (number ≡ number_of fault)

-- A change is refused as a publication is, or for a fault that the changes have at the current version (own).
abbrev pub RefusesChange : ServiceState → List ℕ → ℕ → Type 0
RefusesChange s changes number = RefusesPublish s number ⊎ IsFaultOfChanges s.current changes number
