-- What the languages have in common: a schema of the profile is a schema of Cedar 4, where its names mean the same in both.
use Rattle.std.specs.Prelude.{◌≡◌, ◌≢◌, ◌++◌, ℕ, nat_eq, false, codes, List, [], Contains, IfSome}
use Rattle.std.specs.List.{list_any}
use Rattle.serde_json.specs.Data.{Members}
use Rattle.serde_json.specs.Find.{as_object}
use Rattle.base_json.specs.JsonTree.{json_of}
use Rattle.cedar_ext.specs.declared.language.Language.TheVariants.{Profile, Cedar4}
use Rattle.cedar_schema_json.specs.Naming.{qualified}
use Rattle.cedar_schema_json.specs.Entries.{entries, whole_names}
use Rattle.cedar_schema_spec.specs.SchemaTree.{SchemaTree}
use Rattle.cedar_schema.specs.Denotes.{BytesDenote}

-- No name is declared both in the empty namespace and in another one (Cedar RFC 70).
abbrev pub ShadowsNone : List (List ℕ) → Type 0
ShadowsNone names = (namespace k : List ℕ) → namespace ≢ [] → list_any (nat_eq 58) k ≡ false → Contains names (qualified namespace k) → ¬ Contains names k

-- Nothing is declared by this name, in whatever namespace (own).
abbrev pub DeclaresNone : List (List ℕ) → List ℕ → Type 0
DeclaresNone names k = (namespace : List ℕ) → ¬ Contains names (qualified namespace k)

-- The names of an object of namespaces mean in Cedar 4 what they mean in the profile: no definition of a type shadows another, and
-- no common type is called `Bool` or `EntityOrCommon`, which are words of Cedar 4 (Cedar RFC 70; Cedar documentation, JSON schema
-- format: commonTypes, EntityOrCommon; own).
pub record NamesMeanTheSame (root : Members) : Type 0 where
  pub apart : ShadowsNone (whole_names (entries (codes "entityTypes") root) ++ whole_names (entries (codes "commonTypes") root))
  pub bool : DeclaresNone (whole_names (entries (codes "commonTypes") root)) (codes "Bool")
  pub key_word : DeclaresNone (whole_names (entries (codes "commonTypes") root)) (codes "EntityOrCommon")

-- Bytes that are the JSON of an object of namespaces, have names that mean the same (own).
abbrev pub BytesMeanTheSame : List ℕ → Type 0
BytesMeanTheSame bytes = IfSome (json_of bytes) (λ d. IfSome (as_object d) NamesMeanTheSame)

-- What bytes denote in the profile, they denote in Cedar 4, if their names mean the same there (own).
abbrev pub ProfileSchemasAreKept : Type 0
ProfileSchemasAreKept = (bytes : List ℕ) (s : SchemaTree) → BytesMeanTheSame bytes → BytesDenote Profile bytes s → BytesDenote Cedar4 bytes s
