-- Which entry of a list of entities is the first that is refused, and with which number a line is refused.
use Rattle.std.specs.Prelude.{◌≡◌, ◌<◌, ℕ, List, Some}
use Rattle.serde_json.specs.Data.{Data, Items, array}
use Rattle.serde_json.specs.Find.{get_item}
use Rattle.base_json.specs.JsonTree.{json_of}
use Rattle.cedar_conform.specs.Requests.{LineHasFault}
use Rattle.cedar_conform_entities.specs.Denotes.{IsAccepted}
use Rattle.cedar_conform_entities.specs.Faults.{HasEntryFault}
use Rattle.cedar_conform_values.specs.Numbers.{number_of}
use Rattle.cedar_conform_values.specs.declared.conform_fault.ConformFault.{ConformFault}
use Rattle.cedar_schema_spec.specs.SchemaTree.{SchemaTree}

-- The bytes are the JSON of a list with these items (RFC 8259).
abbrev pub IsListOf : List ℕ → Items → Type 0
IsListOf bytes ds = json_of bytes ≡ Some (array ds)

-- Each entry of a list is accepted (Cedar documentation, entities and context in JSON).
abbrev pub AreAccepted : SchemaTree → Items → Type 0
AreAccepted s ds = (k : ℕ) (d : Data) → get_item k ds ≡ Some d → IsAccepted s d

-- Each entry of a list before a position is accepted (Cedar documentation, entities and context in JSON).
abbrev pub AreAcceptedBefore : SchemaTree → Items → ℕ → Type 0
AreAcceptedBefore s ds n = (k : ℕ) (d : Data) → k < n → get_item k ds ≡ Some d → IsAccepted s d

-- An entry has a fault with this number (Cedar documentation, entities and context in JSON; own).
abbrev pub IsEntryRefusedWith : SchemaTree → Data → ℕ → Type 0
IsEntryRefusedWith s d number = (f : ConformFault) × HasEntryFault s d f × (number ≡ number_of f)

-- The item at a position of a list has a fault with this number, and each item before it is accepted (own).
pub record IsFirstIn (s : SchemaTree) (ds : Items) (position number : ℕ) : Type 0 where
  pub entry : Data
  pub here : get_item position ds ≡ Some entry
  pub refused : IsEntryRefusedWith s entry number
  pub before : AreAcceptedBefore s ds position

-- The bytes are a list whose item at a position has a fault with this number, and each item before it is accepted (own).
abbrev pub IsFirstRefused : SchemaTree → List ℕ → ℕ → ℕ → Type 0
IsFirstRefused s bytes position number = (ds : Items) × IsListOf bytes ds × IsFirstIn s ds position number

-- A line has a fault with this number (own).
abbrev pub LineIsRefusedWith : SchemaTree → List ℕ → ℕ → Type 0
LineIsRefusedWith s line number = (f : ConformFault) × LineHasFault s line f × (number ≡ number_of f)
