-- Which request a line with entities denotes, which world it leaves for that request, and which faults it has.
use Rattle.std.specs.Prelude.{◌≡◌, ◌⊎◌, ◌↔◌, ℕ, codes, List, None, MatchOption, if◌then◌else◌}
use Rattle.std.specs.Str.{bytes_eq}
use Rattle.serde_json.specs.Data.{Data, null, boolean, number, string, array, object, Members, no_members, member}
use Rattle.serde_json.specs.Find.{get}
use Rattle.base_json.specs.JsonTree.{json_of}
use Rattle.cedar_value.specs.World.{World}
use Rattle.cedar_value.specs.declared.request.Request.{Request}
use Rattle.cedar_schema_spec.specs.Conformance.{Conforms, Fits}
use Rattle.cedar_schema_spec.specs.SchemaTree.{SchemaTree}
use Rattle.cedar_schema_spec.specs.WellFormed.{AreListsDeclared, AreParentsDeclared, AreTypesApart, IsHierarchy, IsListedInOrder}
use Rattle.cedar_conform_values.specs.declared.conform_fault.ConformFault.{ConformFault}
use Rattle.cedar_conform_values.specs.declared.conform_fault.ConformFault.TheVariants.{Json}
use Rattle.cedar_conform_entities.specs.Changes.{DenotesChangedWorld, HasChangesFault, upserts_only}
use Rattle.cedar_store.specs.Changes.{HaveSameEntities}
use Rattle.cedar_conform.specs.Requests.{Denotes, HasFault, LineDenotes, LineHasFault}

-- ---- the JSON

-- The members with other keys (RFC 8259).
abbrev pub members_without : List ℕ → Members → Members
members_without k no_members = no_members
members_without k (member l d ms) = if bytes_eq l k then members_without k ms else member l d (members_without k ms)

-- The JSON without the member at a key (RFC 8259).
abbrev pub without : List ℕ → Data → Data
without k null = null
without k (boolean b) = boolean b
without k (number n) = number n
without k (string s) = string s
without k (array ds) = array ds
without k (object ms) = object (members_without k ms)

-- The world for the request of a JSON: after the entries at `entities` are upserted, and as before where the key is absent (own;
-- Cedar's crate, `Entities::upsert_entities`).
abbrev pub DenotesWorldFor : SchemaTree → World → Data → World → Type 0
DenotesWorldFor s old d new = MatchOption (get (codes "entities") d) (new ≡ old) (λ entries. DenotesChangedWorld s (upserts_only entries) old new)

-- The entries at `entities` have the fault (own).
abbrev pub HasEntitiesFault : SchemaTree → World → Data → ConformFault → Type 0
HasEntitiesFault s old d f = MatchOption (get (codes "entities") d) ⊥ (λ entries. HasChangesFault s old (upserts_only entries) f)

-- A JSON with entities denotes a request and the world for it: without its key `entities` it denotes the request, and the entries
-- at that key make the world of the one before (own).
abbrev pub DenotesWithEntities : SchemaTree → World → Data → Request → World → Type 0
DenotesWithEntities s old d q new = Denotes s (without (codes "entities") d) q × DenotesWorldFor s old d new

-- The fault is there: it is one of the request, without the key `entities`, or one of the entries at that key (own).
abbrev pub HasFaultWithEntities : SchemaTree → World → Data → ConformFault → Type 0
HasFaultWithEntities s old d f = HasFault s (without (codes "entities") d) f ⊎ HasEntitiesFault s old d f

-- ---- the bytes

-- The bytes denote a request, and the world for it after the one before: they are JSON that does (own; RFC 8259).
abbrev pub LineDenotesWithEntities : SchemaTree → World → List ℕ → Request → World → Type 0
LineDenotesWithEntities s old line q new = MatchOption (json_of line) ⊥ (λ d. DenotesWithEntities s old d q new)

-- The bytes have the fault 501 where they are not JSON, else the fault is in their JSON (own; RFC 8259).
abbrev pub LineHasFaultWithEntities : SchemaTree → World → List ℕ → ConformFault → Type 0
LineHasFaultWithEntities s old line f = MatchOption (json_of line) (f ≡ Json) (λ d. HasFaultWithEntities s old d f)

-- ---- what is proved of them

-- A request that a line with entities denotes fits the schema (own; Cedar documentation, validation).
abbrev pub RequestsWithEntitiesFit : Type 0
RequestsWithEntitiesFit = (s : SchemaTree) (old : World) (line : List ℕ) (q : Request) (new : World) → LineDenotesWithEntities s old line q new → Fits s q

-- The world for a request conforms where the one before does (own; Cedar documentation, validation).
abbrev pub WorldsForRequestsConform : Type 0
WorldsForRequestsConform = (s : SchemaTree) (old : World) (line : List ℕ) (q : Request) (new : World) → AreParentsDeclared s → AreTypesApart s → IsHierarchy s → Conforms s old → LineDenotesWithEntities s old line q new → Conforms s new

-- A line with entities denotes one request, and its worlds for it have the same entities, for a schema that lists its entity types
-- and actions in order (own; Cedar documentation, entities and context in JSON).
abbrev pub OneRequestWithEntities : Type 0
OneRequestWithEntities = (s : SchemaTree) (old : World) (line : List ℕ) (q r : Request) (v w : World) → IsListedInOrder s → LineDenotesWithEntities s old line q v → LineDenotesWithEntities s old line r w → (q ≡ r) × HaveSameEntities v w

-- A line with entities that denotes a request and a world for it has no fault, for a schema that lists its entity types and actions
-- in order and declares the types to which its actions apply (own; Cedar documentation, validation).
abbrev pub RequestsWithEntitiesHaveNoFault : Type 0
RequestsWithEntitiesHaveNoFault = (s : SchemaTree) (old : World) (line : List ℕ) (q : Request) (new : World) (f : ConformFault) → IsListedInOrder s → AreListsDeclared s → LineDenotesWithEntities s old line q new → ¬ LineHasFaultWithEntities s old line f

-- The line is not JSON with the key `entities` (own).
abbrev pub BringsNothing : List ℕ → Type 0
BringsNothing line = MatchOption (json_of line) (Unit {0}) (λ d. get (codes "entities") d ≡ None)

-- A line that brings nothing denotes with entities what it denotes without, over the world before, and has the same faults (own).
pub record PlainLinesMeanTheSame : Type 0 where
  pub denote : (s : SchemaTree) (old : World) (line : List ℕ) (q : Request) (new : World) → BringsNothing line → LineDenotesWithEntities s old line q new ↔ (LineDenotes s line q × (new ≡ old))
  pub faults : (s : SchemaTree) (old : World) (line : List ℕ) (f : ConformFault) → BringsNothing line → LineHasFaultWithEntities s old line f ↔ LineHasFault s line f
