-- Repeated keys (RFC 8259, section 4).
use Rattle.std.specs.Prelude.{ℕ, suc, ◌+◌, ◌==◌, Bool, List, [], ◌∷◌}
use Rattle.json.specs.Lex.{tokens}
use Rattle.json.specs.Token.{Token}
use Rattle.serde_json.specs.Data.{Data, null, boolean, number, string, array, object, Items, no_items, item, Members, no_members, member}

-- How many keys tokens write (RFC 8259, section 4).
abbrev pub keys_in : List Token → ℕ
keys_in [] = 0
keys_in (Token.key s ∷ ts) = suc (keys_in ts)
keys_in (t ∷ ts) = keys_in ts

abbrev mutual
  -- How many members the objects of a JSON have, at all levels (RFC 8259, section 4).
  pub members_in : Data → ℕ
  members_in (array ds) = members_in_items ds
  members_in (object ms) = members_in_members ms
  members_in _ = 0

  -- How many members the objects in the items of a list have (RFC 8259, section 5).
  pub members_in_items : Items → ℕ
  members_in_items no_items = 0
  members_in_items (item d ds) = members_in d + members_in_items ds

  -- How many members there are, with those of the objects in their values (RFC 8259, section 4).
  pub members_in_members : Members → ℕ
  members_in_members no_members = 0
  members_in_members (member k d ms) = suc (members_in d + members_in_members ms)

-- Whether no object of a text repeats a key: the text writes as many keys as the objects of its tree have members, since these have each
-- key once (RFC 8259, section 4; own).
abbrev pub has_each_key_once : List ℕ → Data → Bool
has_each_key_once text d = keys_in (tokens text) == members_in d
