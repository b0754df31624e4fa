-- The JSON that says which file is refused.
use Rattle.std.specs.Prelude.{ℕ, List, Option, None, Some, codes}
use Rattle.serde_json.specs.Data.{Data, Members, number, unsigned, string, object, no_members, member}
use Rattle.cedar_files.specs.declared.files.Role.{Role}
use Rattle.cedar_files.specs.declared.files.Role.TheVariants.{Schema, Policies, Links, Entities}

-- The word for the file of a role (own).
abbrev pub file_name : Role → List ℕ
file_name Schema = codes "schema"
file_name Policies = codes "policies"
file_name Links = codes "links"
file_name Entities = codes "entities"

-- The member `"offset":N` before these members, where the fault has a place (own).
abbrev pub with_offset : Option ℕ → Members → Members
with_offset None others = others
with_offset (Some at) others = member (codes "offset") (number (unsigned at)) others

-- The refusal of a file: `{"file":F,"offset":O,"refused":N}`, or without `offset` where the fault has no place (own).
abbrev pub refusal_of : Role → Option ℕ → ℕ → Data
refusal_of role offset n =
    object (member (codes "file") (string (file_name role)) (with_offset offset (member (codes "refused") (number (unsigned n)) no_members)))
