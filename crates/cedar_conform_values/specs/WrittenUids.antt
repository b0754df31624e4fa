-- The uid that a JSON writes where one is required (Cedar documentation, entities and context in JSON).
use Rattle.std.specs.Prelude.{◌≡◌, ℕ, List, Some, MatchOption}
use Rattle.serde_json.specs.Data.{Data}
use Rattle.serde_json.specs.Find.{get, as_str}
use Rattle.cedar_value.specs.Names.{IsName}
use Rattle.cedar_value.specs.declared.uid.Uid.{Uid}
use Rattle.cedar_parser_tokens.specs.UidText.{IsUidText}
use Rattle.cedar_conform_values.specs.Uids.{uid_object}

-- The JSON is an object in either form, whose type is a name (Cedar documentation, entities and context in JSON).
abbrev pub IsUidObject : Data → Uid → Type 0
IsUidObject d u = (uid_object d ≡ Some u) × IsName u.ty

-- The JSON is a string such as `Type::"id"`, or such an object (Cedar language reference, entity identifiers; Cedar
-- documentation, entities and context in JSON).
abbrev pub WritesUid : Data → Uid → Type 0
WritesUid d u = MatchOption (as_str d) (IsUidObject d u) (λ s. IsUidText s u)

-- The value at the key writes the uid (Cedar documentation, entities and context in JSON).
abbrev pub UidAt : List ℕ → Data → Uid → Type 0
UidAt k d u = MatchOption (get k d) ⊥ (λ found. WritesUid found u)

-- No JSON writes two uids (Cedar language reference, entity identifiers).
abbrev pub WritesOneUid : Type 0
WritesOneUid = (d : Data) (u v : Uid) → WritesUid d u → WritesUid d v → u ≡ v
