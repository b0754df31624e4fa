-- Which faults the JSON of entities has for a schema.
use Rattle.std.specs.Prelude.{◌≡◌, ℕ, false, List, Some, None, Contains}
use Rattle.serde_json.specs.Data.{Data, Items}
use Rattle.serde_json.specs.Find.{as_array, get_item}
use Rattle.cedar_conform_values.specs.Values.{value_read}
use Rattle.cedar_conform_values.specs.declared.conform_fault.ConformFault.{ConformFault}
use Rattle.cedar_conform_values.specs.declared.conform_fault.ConformFault.TheVariants.{DuplicateEntity, Cycle, Shape, UnknownType, BadAncestor, ActionDiffers}
use Rattle.cedar_conform_entities.specs.Denotes.{ReadsEntity, RepeatsAction, DenoteEntities}
use Rattle.cedar_conform_entities.specs.Entries.{Writes, WritesEntity, IsActionName, TwoWrite, attributes_in}
use Rattle.cedar_conform_entities.specs.Worlds.{world_of}
use Rattle.cedar_schema_spec.specs.Declarations.{IsEntityType}
use Rattle.cedar_schema_spec.specs.Descents.{TypeDescends}
use Rattle.cedar_schema_spec.specs.Enumerated.{entity_listed}
use Rattle.cedar_schema_spec.specs.SchemaTree.{SchemaTree, shape_of}
use Rattle.cedar_schema_types.specs.Types.{TypeTree}
use Rattle.cedar_value.specs.World.{World, EntityTree, Below}
use Rattle.cedar_value.specs.declared.uid.Uid.{Uid}

-- The faults of one entry. 502: it writes no uid with parents. 503: its type, or that of a parent, is not declared, or it reads as an
-- entity that writes a uid which its enumerated type does not have. 507: its type does not descend from that of a parent. 508: its
-- type's last part is `Action`, and it does not repeat an action. 504, 505, 506, 509: those of the attributes, read for the type's
-- shape (Cedar documentation, entities and context in JSON; Cedar RFC 53; own).
pub data HasEntryFault (s : SchemaTree) (d : Data) : ConformFault → Type 0 where
  no_entry : ((u : Uid) (parents : List Uid) → ¬ Writes d u parents) → HasEntryFault s d Shape
  undeclared : {u : Uid} {parents : List Uid} → WritesEntity d u parents → ¬ IsEntityType s u.ty → HasEntryFault s d UnknownType
  undeclared_parent : {u p : Uid} {parents : List Uid} → WritesEntity d u parents → Contains parents p → ¬ IsEntityType s p.ty → HasEntryFault s d UnknownType
  no_descent : {u p : Uid} {parents : List Uid} → WritesEntity d u parents → Contains parents p → ¬ TypeDescends s u.ty p.ty → HasEntryFault s d BadAncestor
  no_repetition : {u : Uid} {parents : List Uid} → Writes d u parents → IsActionName u.ty → ¬ RepeatsAction s d u parents → HasEntryFault s d ActionDiffers
  attributes : {u : Uid} {parents : List Uid} {shape : TypeTree} {f : ConformFault} → WritesEntity d u parents → shape_of s u.ty ≡ Some shape → Contains (value_read shape (attributes_in d)).faults f → HasEntryFault s d f
  unlisted : {e : EntityTree} → ReadsEntity s d e → entity_listed s e ≡ false → HasEntryFault s d UnknownType

-- The faults of a JSON of entities. 502: it is not a list. Those of an entry. 401: two entries write one uid. 402: all entries
-- denote entities, and a uid is below itself (Cedar documentation, entities and context in JSON).
pub data HasFault (s : SchemaTree) (d : Data) : ConformFault → Type 0 where
  no_list : as_array d ≡ None → HasFault s d Shape
  of_entry : {ds : Items} {entry : Data} {f : ConformFault} → as_array d ≡ Some ds → (k : ℕ) × (get_item k ds ≡ Some entry) → HasEntryFault s entry f → HasFault s d f
  written_twice : {ds : Items} {u : Uid} → as_array d ≡ Some ds → TwoWrite ds u → HasFault s d (DuplicateEntity u)
  below_itself : {ds : Items} {es : World} {u : Uid} → as_array d ≡ Some ds → DenoteEntities s ds es → Below (world_of s es) u u → HasFault s d (Cycle u)
