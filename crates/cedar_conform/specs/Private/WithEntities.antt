-- The members of a request line with entities as they are kept, and what reading them gives.
use Rattle.std.specs.Prelude.{◌≡◌, ◌≢◌, ℕ, codes, List, Option, None, Result, MatchResult, unwrap_or}
use Rattle.serde_json.specs.Data.{Data, Members}
use Rattle.serde_json.specs.Find.{get_member}
use Rattle.base_json.specs.declared.three_quoted.ThreeQuoted.{ThreeQuoted}
use Rattle.cedar_value.specs.World.{World}
use Rattle.cedar_value.specs.declared.request.Request.{Request}
use Rattle.cedar_schema_spec.specs.SchemaTree.{SchemaTree}
use Rattle.cedar_conform_values.specs.declared.conform_fault.ConformFault.{ConformFault}
use Rattle.cedar_conform_values.specs.declared.conform_fault.ConformFault.TheVariants.{OutOfMemory, Json}
use Rattle.cedar_conform_entities.specs.Changes.{DenotesChangedWorld, HasChangesFault, upserts_only}
use Rattle.cedar_conform.specs.declared.fields_with_entities.FieldsWithEntities.{FieldsWithEntities}
use Rattle.cedar_conform.specs.Private.Fields.{AreFieldsOf, begun_fields, data_in}
use Rattle.cedar_conform.specs.RequestsWithEntities.{DenotesWithEntities, HasFaultWithEntities, LineDenotesWithEntities, LineHasFaultWithEntities, members_without}

-- the values are those of the other members, and the one at `entities`
pub record AreFieldsWith (ms : Members) (f : FieldsWithEntities) : Type 0 where
  pub request : AreFieldsOf (members_without (codes "entities") ms) f.request
  pub entities : get_member (codes "entities") ms ≡ data_in f.entities

-- the values of three strings, or none
abbrev pub begun_with : Option ThreeQuoted → FieldsWithEntities
begun_with values = record { request = begun_fields values; entities = None }

-- what is read: a request, and the world after the entities where there are some
abbrev pub IsReadWith : SchemaTree → World → Data → Request × Option World → Type 0
IsReadWith s old d r = DenotesWithEntities s old d r.0 (unwrap_or r.1 old)

-- a refusal other than out of memory names a fault that is there
abbrev pub IsAnswerWith : SchemaTree → World → Data → Result (Request × Option World) ConformFault → Type 0
IsAnswerWith s old d result = MatchResult result (IsReadWith s old d) (λ f. f ≢ OutOfMemory → HasFaultWithEntities s old d f)

-- the same of the bytes of a line
abbrev pub IsLineAnswerWith : SchemaTree → World → List ℕ → Result (Request × Option World) ConformFault → Type 0
IsLineAnswerWith s old line result = MatchResult result (λ r. LineDenotesWithEntities s old line r.0 (unwrap_or r.1 old)) (λ f. f ≢ OutOfMemory → LineHasFaultWithEntities s old line f)

-- what is not JSON is refused so, unless memory runs out
abbrev pub IsNoJsonWith : Result (Request × Option World) ConformFault → Type 0
IsNoJsonWith result = MatchResult result (λ r. ⊥) (λ f. f ≢ OutOfMemory → f ≡ Json)

-- the world after the entries, or their fault
abbrev pub IsUpserted : SchemaTree → World → Data → Result World ConformFault → Type 0
IsUpserted s old entries result = MatchResult result (DenotesChangedWorld s (upserts_only entries) old) (λ f. f ≢ OutOfMemory → HasChangesFault s old (upserts_only entries) f)
