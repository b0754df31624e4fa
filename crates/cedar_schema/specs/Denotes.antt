-- Which schema a JSON denotes, and which refusals it gives.
use Rattle.std.specs.Prelude.{◌≡◌, ◌⊎◌, ℕ, List, [], Contains, MatchOption}
use Rattle.serde_json.specs.Data.{Data}
use Rattle.serde_json.specs.Find.{as_object}
use Rattle.base_json.specs.JsonTree.{json_of}
use Rattle.cedar_ext.specs.declared.language.Language.{Language}
use Rattle.cedar_value.specs.declared.uid.Uid.{Uid}
use Rattle.cedar_schema_json.specs.declared.schema_fault.SchemaFault.{SchemaFault}
use Rattle.cedar_schema_json.specs.declared.schema_fault.SchemaFault.TheVariants.{Json, Shape, ActionCycle}
use Rattle.cedar_schema_spec.specs.Descents.{ActionDescends}
use Rattle.cedar_schema_spec.specs.SchemaTree.{SchemaTree}
use Rattle.cedar_schema.specs.Schemas.{schema_of, written_faults}

-- The schema is this one, and there is no fault: none written, and no action above itself (Cedar documentation, JSON schema
-- format; own).
pub record IsFine (faults : List SchemaFault) (tree s : SchemaTree) : Type 0 where
  pub fine : faults ≡ []
  pub acyclic : (u : Uid) → ¬ ActionDescends tree u u
  pub is : s ≡ tree

-- The fault is there: it is written, or it is 305 and some action is above itself (Cedar documentation, JSON schema format;
-- own).
abbrev pub IsThere : List SchemaFault → SchemaTree → SchemaFault → Type 0
IsThere faults tree e = Contains faults e ⊎ ((e ≡ ActionCycle) × ((u : Uid) × ActionDescends tree u u))

-- A JSON denotes a schema in a language where it is an object without faults (Cedar documentation, JSON schema format; own).
abbrev pub Denotes : Language → Data → SchemaTree → Type 0
Denotes language d s = MatchOption (as_object d) ⊥ (λ root. IsFine (written_faults language root) (schema_of language root) s)

-- A JSON is refused in a language with a fault that is there, and with 302 where it is not an object (Cedar documentation, JSON
-- schema format; own).
abbrev pub IsRefusedWith : Language → Data → SchemaFault → Type 0
IsRefusedWith language d e = MatchOption (as_object d) (e ≡ Shape) (λ root. IsThere (written_faults language root) (schema_of language root) e)

-- The bytes denote a schema in a language where they are JSON that does (Cedar documentation, JSON schema format; own).
abbrev pub BytesDenote : Language → List ℕ → SchemaTree → Type 0
BytesDenote language bytes s = MatchOption (json_of bytes) ⊥ (λ d. Denotes language d s)

-- A refusal other than out of memory names a fault that is there: 301 where the bytes are not JSON (own).
abbrev pub BytesAreRefusedWith : Language → List ℕ → SchemaFault → Type 0
BytesAreRefusedWith language bytes e = MatchOption (json_of bytes) (e ≡ Json) (λ d. IsRefusedWith language d e)
