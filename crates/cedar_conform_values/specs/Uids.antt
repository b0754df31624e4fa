-- The uid that a JSON object writes (Cedar documentation, entities and context in JSON).
use Rattle.std.specs.Prelude.{ℕ, ◌==◌, codes, List, Option, Some, None, if◌then◌else◌}
use Rattle.serde_json.specs.Data.{Data}
use Rattle.cedar_value.specs.declared.uid.Uid.{Uid}
use Rattle.cedar_conform_values.specs.Objects.{size_of, text_at, inside}

-- The uid of a type and an id, where there are both (Cedar documentation, entities and context in JSON).
abbrev pub uid_from : Option (List ℕ) → Option (List ℕ) → Option Uid
uid_from (Some ty) (Some id) = Some (record { ty = ty; id = id })
uid_from _ _ = None

-- The uid of an object of exactly `type` and `id`, each a string (Cedar documentation, entities and context in JSON).
abbrev pub plain_uid : Data → Option Uid
plain_uid d = if size_of d == 2 then uid_from (text_at (codes "type") d) (text_at (codes "id") d) else None

-- The uid of such an object, or of one that is alone at `__entity`. Whether the type's text is a name is not tested here (Cedar
-- documentation, entities and context in JSON).
abbrev pub uid_object : Data → Option Uid
uid_object d = plain_uid (inside (codes "__entity") d)
