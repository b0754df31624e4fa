-- Which uids an enumerated entity type has, and where they are written (Cedar RFC 53).
use Rattle.std.specs.Prelude.{◌≡◌, ℕ, Bool, true, ◌&&◌, List, Option, Some, None, Contains}
use Rattle.std.specs.List.{list_any, list_all}
use Rattle.std.specs.Str.{bytes_eq}
use Rattle.cedar_value.specs.Datum.{Datum, uid, set, record_of, Members, no_members, member, Fields, no_fields, field, fields_of}
use Rattle.cedar_value.specs.World.{World, EntityTree}
use Rattle.cedar_value.specs.declared.uid.Uid.{Uid}
use Rattle.cedar_value.specs.declared.request.Request.{Request}
use Rattle.cedar_schema_spec.specs.SchemaTree.{SchemaTree, ids_of}

-- Whether the id is one of these. Where none are listed, any id is (Cedar RFC 53).
abbrev pub is_among : List ℕ → Option (List (List ℕ)) → Bool
is_among id None = true
is_among id (Some ids) = list_any (bytes_eq id) ids

-- Whether the uid's type has the uid: an enumerated type has those of its ids alone (Cedar RFC 53).
abbrev pub is_listed : SchemaTree → Uid → Bool
is_listed s u = is_among u.id (ids_of s u.ty)

-- Whether each uid in a value, at every depth, is one that its type has (Cedar RFC 53).
abbrev mutual
  pub has_listed : SchemaTree → Datum → Bool
  has_listed s (uid u) = is_listed s u
  has_listed s (set ms) = members_listed s ms
  has_listed s (record_of fs) = fields_listed s fs
  has_listed s _ = true

  -- The same of the members of a set (Cedar RFC 53).
  pub members_listed : SchemaTree → Members → Bool
  members_listed s no_members = true
  members_listed s (member d ms) = has_listed s d && members_listed s ms

  -- The same of the values of a record (Cedar RFC 53).
  pub fields_listed : SchemaTree → Fields → Bool
  fields_listed s no_fields = true
  fields_listed s (field k d fs) = has_listed s d && fields_listed s fs

-- Whether an entity writes such uids alone: its own, those of its parents, and those in its attributes (Cedar RFC 53).
abbrev pub entity_listed : SchemaTree → EntityTree → Bool
entity_listed s e = is_listed s e.uid && (list_all (is_listed s) e.parents && fields_listed s (fields_of e.attributes))

-- Whether a request writes such uids alone: its principal, its resource, and those in its context (Cedar RFC 53).
abbrev pub request_listed : SchemaTree → Request → Bool
request_listed s q = is_listed s q.principal && (is_listed s q.resource && fields_listed s (fields_of q.context))
