-- Which request a JSON denotes for a schema, and which faults it has.
use Rattle.std.specs.Prelude.{◌≡◌, ◌⊎◌, ◌||◌, ℕ, Bool, true, false, codes, List, [], None, Contains, MatchOption, unwrap_or}
use Rattle.std.specs.Str.{bytes_eq}
use Rattle.serde_json.specs.Data.{Data, object, no_members}
use Rattle.serde_json.specs.Find.{get}
use Rattle.base_json.specs.JsonTree.{json_of}
use Rattle.cedar_value.specs.Datum.{record_of, fields_of}
use Rattle.cedar_value.specs.declared.uid.Uid.{Uid}
use Rattle.cedar_value.specs.declared.request.Request.{Request}
use Rattle.cedar_schema_types.specs.Types.{TypeTree}
use Rattle.cedar_schema_spec.specs.Declarations.{IsAction}
use Rattle.cedar_schema_spec.specs.Enumerated.{request_listed}
use Rattle.cedar_schema_spec.specs.SchemaTree.{SchemaTree, shape_of, HasEnvironment, HasNoEnvironment}
use Rattle.cedar_conform_values.specs.declared.conform_fault.ConformFault.{ConformFault}
use Rattle.cedar_conform_values.specs.declared.conform_fault.ConformFault.TheVariants.{Json, Shape, UnknownType, NoSuchAction, ActionDoesNotApply}
use Rattle.cedar_conform_values.specs.Objects.{has_only}
use Rattle.cedar_conform_values.specs.Values.{value_read}
use Rattle.cedar_conform_values.specs.WrittenUids.{UidAt}

-- ---- the shape

-- The keys of a request (own).
unfoldable pub is_request_key : List ℕ → Bool
is_request_key k = bytes_eq k (codes "principal") || bytes_eq k (codes "action") || bytes_eq k (codes "resource") || bytes_eq k (codes "context")

-- The three keys have the uids of the principal, the action and the resource (own; Cedar documentation, entities and context in
-- JSON).
pub record Names (d : Data) (principal action resource : Uid) : Type 0 where
  pub principal_at : UidAt (codes "principal") d principal
  pub action_at : UidAt (codes "action") d action
  pub resource_at : UidAt (codes "resource") d resource

-- The key has no uid (own).
abbrev pub Lacks : List ℕ → Data → Type 0
Lacks k d = (u : Uid) → ¬ UidAt k d u

-- The JSON is not an object, or it has another key, or no uid at one of the three (own).
abbrev pub IsShapeless : Data → Type 0
IsShapeless d = (has_only is_request_key d ≡ false) ⊎ (Lacks (codes "principal") d ⊎ (Lacks (codes "action") d ⊎ Lacks (codes "resource") d))

-- ---- the schema

-- What the schema has against the uids of the principal, the action and the resource: 503 for a type that is not an entity
-- type, 510 for an action that is not declared, 511 for one that does not apply to the two types (Cedar documentation,
-- validation).
abbrev pub HasUidsFault : SchemaTree → Uid → Uid → Uid → ConformFault → Type 0
HasUidsFault s p a r UnknownType = (shape_of s p.ty ≡ None) ⊎ (shape_of s r.ty ≡ None)
HasUidsFault s p a r NoSuchAction = ¬ IsAction s a
HasUidsFault s p a r ActionDoesNotApply = IsAction s a × HasNoEnvironment s.actions a p.ty r.ty
HasUidsFault s p a r _ = ⊥

-- ---- the context

-- The value at `context`, and the empty object where the key is absent (own).
abbrev pub context_of : Data → Data
context_of d = unwrap_or (get (codes "context") d) (object no_members)

-- ---- the whole

-- A JSON reads as a request, whichever ids enumerated types have: it is an object of a principal, an action, a resource and perhaps a
-- context. The action applies to the types of the two, and the context is what the JSON writes as a value of its context type
-- (Cedar documentation, validation; Cedar documentation, entities and context in JSON).
pub record Reads (s : SchemaTree) (d : Data) (q : Request) : Type 0 where
  pub keys : has_only is_request_key d ≡ true
  pub names : Names d q.principal q.action q.resource
  pub context_type : TypeTree
  pub applies : HasEnvironment s.actions q.action q.principal.ty q.resource.ty context_type
  pub fine : (value_read context_type (context_of d)).faults ≡ []
  pub context : record_of (fields_of q.context) ≡ (value_read context_type (context_of d)).value

-- A JSON denotes a request: it reads as the request, and each uid that the request writes is one that its type has (Cedar
-- documentation, validation; Cedar RFC 53).
pub record Denotes (s : SchemaTree) (d : Data) (q : Request) : Type 0 where
  pub read : Reads s d q
  pub uids : request_listed s q ≡ true

-- A fault of the context, for the context type of the environment (Cedar documentation, validation).
pub record HasContextFault (s : SchemaTree) (d : Data) (f : ConformFault) : Type 0 where
  pub principal : Uid
  pub action : Uid
  pub resource : Uid
  pub names : Names d principal action resource
  pub context_type : TypeTree
  pub applies : HasEnvironment s.actions action principal.ty resource.ty context_type
  pub broken : Contains (value_read context_type (context_of d)).faults f

-- The fault is 503, and what is read is a request that writes a uid which its enumerated type does not have (Cedar RFC 53).
abbrev pub HasUnlistedUid : SchemaTree → (Request → Type 0) → ConformFault → Type 0
HasUnlistedUid s IsRead f = (f ≡ UnknownType) × ((q : Request) × IsRead q × (request_listed s q ≡ false))

-- The fault is there: 502 where the shape is broken; what the schema has against the uids; a fault of the context; or 503 for a uid
-- that its enumerated type does not have (Cedar documentation, validation; Cedar RFC 53).
abbrev pub HasFault : SchemaTree → Data → ConformFault → Type 0
HasFault s d f =
    ((f ≡ Shape) × IsShapeless d)
    ⊎ (((p : Uid) × (a : Uid) × (r : Uid) × Names d p a r × HasUidsFault s p a r f)
    ⊎ (HasContextFault s d f ⊎ HasUnlistedUid s (Reads s d) f))

-- The bytes denote a request where they are JSON that does (Cedar documentation, validation).
abbrev pub LineDenotes : SchemaTree → List ℕ → Request → Type 0
LineDenotes s line q = MatchOption (json_of line) ⊥ (λ d. Denotes s d q)

-- The bytes have the fault 501 where they are not JSON, else the fault is in their JSON (RFC 8259).
abbrev pub LineHasFault : SchemaTree → List ℕ → ConformFault → Type 0
LineHasFault s line f = MatchOption (json_of line) (f ≡ Json) (λ d. HasFault s d f)
