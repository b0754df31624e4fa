-- Annotations of the definitions of a schema (Cedar documentation, JSON schema format: annotations).
use Rattle.std.specs.Prelude.{◌&&◌, ℕ, Bool, true, false, bytes_eq, codes, List, is_some, option_map, unwrap_or}
use Rattle.serde_json.specs.Data.{Data, Members, no_members, member}
use Rattle.serde_json.specs.Find.{as_object, as_str}
use Rattle.cedar_ext.specs.declared.language.Language.{Language}
use Rattle.cedar_ext.specs.declared.language.Language.TheVariants.{Profile, Cedar4}

-- Whether all members are strings (Cedar documentation, JSON schema format: annotations).
unfoldable pub all_strings : Members → Bool
all_strings no_members = true
all_strings (member k d ms) = is_some (as_str d) && all_strings ms

-- Whether a value is an object of strings (Cedar documentation, JSON schema format: annotations).
abbrev pub are_strings : Data → Bool
are_strings d = unwrap_or (option_map all_strings (as_object d)) false

-- Whether a key with its value are the annotations of a definition, which the profile does not have (Cedar documentation, JSON
-- schema format: annotations; own).
abbrev pub is_annotation : Language → List ℕ → Data → Bool
is_annotation Profile k d = false
is_annotation Cedar4 k d = bytes_eq k (codes "annotations") && are_strings d
