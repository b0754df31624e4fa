-- Which request its parts denote for a schema, and which faults they have.
use Rattle.std.specs.Prelude.{◌≡◌, ◌⊎◌, ℕ, true, List, [], ◌∷◌, Option, Some, None, Contains}
use Rattle.serde_json.specs.Data.{Data, object, no_members}
use Rattle.base_json.specs.JsonTree.{json_of}
use Rattle.cedar_value.specs.Datum.{record_of, fields_of}
use Rattle.cedar_value.specs.Names.{IsName}
use Rattle.cedar_value.specs.declared.uid.Uid.{Uid}
use Rattle.cedar_value.specs.declared.request.Request.{Request}
use Rattle.cedar_schema_types.specs.Types.{TypeTree}
use Rattle.cedar_schema_spec.specs.Enumerated.{request_listed}
use Rattle.cedar_schema_spec.specs.SchemaTree.{SchemaTree, HasEnvironment}
use Rattle.cedar_conform_values.specs.declared.conform_fault.ConformFault.{ConformFault}
use Rattle.cedar_conform_values.specs.declared.conform_fault.ConformFault.TheVariants.{Json, Shape}
use Rattle.cedar_conform_values.specs.Values.{value_read}
use Rattle.cedar_conform.specs.Requests.{HasUidsFault, HasUnlistedUid}
use Rattle.cedar_conform.specs.declared.parts.RequestParts.{RequestParts}
use Rattle.cedar_conform.specs.declared.parts.UidParts.{UidParts}

-- A request in parts: the types and ids of the principal, the action and the resource, and the bytes of the context (own).
pub record PartsTree : Type 0 where
  pub principal : Uid
  pub action : Uid
  pub resource : Uid
  pub context : List ℕ

-- The uid of a type and an id (Cedar language reference, entity identifiers).
abbrev pub uid_of : UidParts → Uid
uid_of u = record { ty = u.ty.now; id = u.id.now }

-- What the parts of a request say (own).
abbrev pub parts_of : RequestParts → PartsTree
parts_of p = record { principal = uid_of p.principal; action = uid_of p.action; resource = uid_of p.resource; context = p.context.now }

-- The JSON of a context: that of its bytes, and the empty object where there are no bytes (own; RFC 8259).
abbrev pub context_json : List ℕ → Option Data
context_json [] = Some (object no_members)
context_json (b ∷ bs) = json_of (b ∷ bs)

-- The types of the three are names (Cedar language reference, entity identifiers).
pub record AreNamed (parts : PartsTree) : Type 0 where
  pub principal_named : IsName parts.principal.ty
  pub action_named : IsName parts.action.ty
  pub resource_named : IsName parts.resource.ty

-- Parts read as the request of their uids and their context, whichever ids enumerated types have. The action applies to the types of
-- the two, and the context is what its JSON writes as a value of the action's context type (Cedar documentation, validation; Cedar
-- documentation, entities and context in JSON).
pub record PartsRead (s : SchemaTree) (parts : PartsTree) (q : Request) : Type 0 where
  pub named : AreNamed parts
  pub principal : q.principal ≡ parts.principal
  pub action : q.action ≡ parts.action
  pub resource : q.resource ≡ parts.resource
  pub json : Data
  pub is_json : context_json parts.context ≡ Some json
  pub context_type : TypeTree
  pub applies : HasEnvironment s.actions parts.action parts.principal.ty parts.resource.ty context_type
  pub fine : (value_read context_type json).faults ≡ []
  pub context : record_of (fields_of q.context) ≡ (value_read context_type json).value

-- Parts denote a request: they read as the request, and each uid that the request writes is one that its type has (Cedar
-- documentation, validation; Cedar RFC 53).
pub record PartsDenote (s : SchemaTree) (parts : PartsTree) (q : Request) : Type 0 where
  pub read : PartsRead s parts q
  pub uids : request_listed s q ≡ true

-- A fault of the context of parts, for the context type of the environment (Cedar documentation, validation).
pub record HasPartsContextFault (s : SchemaTree) (parts : PartsTree) (f : ConformFault) : Type 0 where
  pub json : Data
  pub is_json : context_json parts.context ≡ Some json
  pub context_type : TypeTree
  pub applies : HasEnvironment s.actions parts.action parts.principal.ty parts.resource.ty context_type
  pub broken : Contains (value_read context_type json).faults f

-- The parts have the fault: 502 where a type is not a name; what the schema has against the uids; 501 where the bytes of the
-- context are not JSON; a fault of the context; or 503 for a uid that its enumerated type does not have (Cedar documentation,
-- validation; Cedar RFC 53).
abbrev pub PartsHaveFault : SchemaTree → PartsTree → ConformFault → Type 0
PartsHaveFault s parts f =
    ((f ≡ Shape) × ¬ AreNamed parts)
    ⊎ (HasUidsFault s parts.principal parts.action parts.resource f
    ⊎ (((f ≡ Json) × (context_json parts.context ≡ None))
    ⊎ (HasPartsContextFault s parts f ⊎ HasUnlistedUid s (PartsRead s parts) f)))
