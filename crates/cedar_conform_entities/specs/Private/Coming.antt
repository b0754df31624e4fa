-- How far the reading of a list has come while items are still to come.
use Rattle.std.specs.Prelude.{◌≡◌, ◌≢◌, ◌⊎◌, Option, Some, None, option_map}
use Rattle.std.specs.BTreeSet.{BTreeSet}
use Rattle.serde_json.specs.Data.{Data, Items, item}
use Rattle.cedar_conform_values.specs.declared.conform_fault.ConformFault.{ConformFault}
use Rattle.cedar_conform_values.specs.declared.conform_fault.ConformFault.TheVariants.{OutOfMemory, Json}
use Rattle.cedar_conform_entities.specs.Private.Parts.{IsEntry}
use Rattle.cedar_conform_entities.specs.Private.Progress.{HasListFault, IsRead, Progress}
use Rattle.cedar_conform_entities.specs.declared.entry.Entry.{Entry}
use Rattle.cedar_schema_spec.specs.SchemaTree.{SchemaTree}
use Rattle.cedar_value.specs.World.{World}
use Rattle.cedar_value.specs.declared.uid.Uid.{Uid}

-- the entry is that of the first of the items to come, before the others
abbrev pub ComesFirst : SchemaTree → Option Items → Option Items → Entry → Type 0
ComesFirst s all rest entry = (d : Data) × IsEntry s d entry × (all ≡ option_map (item d) rest)

-- what is reported for a fault once the items to come were read: that they are not JSON, or else the fault
abbrev pub IsToldAfter : Option Items → ConformFault → ConformFault → Type 0
IsToldAfter rest fault told = told ≢ OutOfMemory → ((told ≡ Json) × (rest ≡ None)) ⊎ ((told ≡ fault) × (ds : Items) × (rest ≡ Some ds))

-- what is to come is not JSON, or a list with the fault
abbrev pub HasComingFault : SchemaTree → Option Items → ConformFault → Type 0
HasComingFault s all f = ((f ≡ Json) × (all ≡ None)) ⊎ ((ds : Items) × (all ≡ Some ds) × HasListFault s ds f)

-- a refusal of what is to come
abbrev pub RefusesComing : SchemaTree → Option Items → ConformFault → Type 0
RefusesComing s all f = f ≢ OutOfMemory → HasComingFault s all f

-- what was to come is a list, whose entities come after the first ones
abbrev pub IsComingRead : SchemaTree → World → Option Items → World → Type 0
IsComingRead s first all w = (ds : Items) × (all ≡ Some ds) × IsRead s first ds w

-- the items that have been read come before those that are to come, and whatever these are, what has been read of the whole
-- list is known
pub record ComingProgress (s : SchemaTree) (first : World) (all rest : Option Items) (w : World) (told : BTreeSet Uid) : Type 0 where
  pub behind_read : Items → Items
  pub is_all : all ≡ option_map behind_read rest
  pub progress : (ds : Items) → Progress s first (behind_read ds) ds w told
