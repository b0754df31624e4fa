-- What is proved of the requests that lines and parts denote: that they fit, that there is but one, and that there is no fault then.
use Rattle.std.specs.Prelude.{◌≡◌, ℕ, List}
use Rattle.cedar_value.specs.declared.request.Request.{Request}
use Rattle.cedar_schema_spec.specs.Conformance.{Fits}
use Rattle.cedar_schema_spec.specs.SchemaTree.{SchemaTree}
use Rattle.cedar_schema_spec.specs.WellFormed.{AreListsDeclared, IsListedInOrder}
use Rattle.cedar_conform_values.specs.declared.conform_fault.ConformFault.{ConformFault}
use Rattle.cedar_conform.specs.Parts.{PartsDenote, PartsHaveFault, PartsTree}
use Rattle.cedar_conform.specs.Requests.{LineDenotes, LineHasFault}

-- A request that a line denotes for a schema fits that schema (Cedar documentation, validation).
abbrev pub DenotedRequestsFit : Type 0
DenotedRequestsFit = (s : SchemaTree) (line : List ℕ) (q : Request) → LineDenotes s line q → Fits s q

-- No line denotes two requests for a schema that lists its entity types and actions in order, as every schema that is read does
-- (Cedar documentation, entities and context in JSON).
abbrev pub OneRequest : Type 0
OneRequest = (s : SchemaTree) (line : List ℕ) (q r : Request) → IsListedInOrder s → LineDenotes s line q → LineDenotes s line r → q ≡ r

-- A line that denotes a request has no fault, for a schema that lists its entity types and actions in order and declares the types
-- to which its actions apply, as every schema that is read does (Cedar documentation, validation).
abbrev pub DenotedRequestsHaveNoFault : Type 0
DenotedRequestsHaveNoFault = (s : SchemaTree) (line : List ℕ) (q : Request) (f : ConformFault) → IsListedInOrder s → AreListsDeclared s → LineDenotes s line q → ¬ LineHasFault s line f

-- Parts that denote a request have no fault, for such a schema (Cedar documentation, validation).
abbrev pub DenotedPartsHaveNoFault : Type 0
DenotedPartsHaveNoFault = (s : SchemaTree) (parts : PartsTree) (q : Request) (f : ConformFault) → IsListedInOrder s → AreListsDeclared s → PartsDenote s parts q → ¬ PartsHaveFault s parts f
