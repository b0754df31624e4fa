-- Items of a list that are objects, of which keys, strings and the objects in members are lent.
use Rattle.std.specs.Prelude.{ℕ, List, [], ◌∷◌, Option, option_and_then}
use Rattle.json.specs.Json.{value}
use Rattle.json.specs.Lex.{tokens}
use Rattle.serde_json.specs.Data.{Data, array, object, string, Members, no_members, put}
use Rattle.serde_json.specs.Read.{of_json, converted}
use Rattle.base_json.specs.Items.{if_at_end}
use Rattle.base_json.specs.LentObjects.{items_of_objects, object_view}
use Rattle.serde_json.specs.View.{view}
use Rattle.base_json.specs.declared.item_value.ItemValue.{ItemValue}
use Rattle.base_json.specs.declared.item_value.ItemValue.TheVariants.{Text, Object, Objects, Other}
use Rattle.base_json.specs.declared.lent_item.ItemMember.{ItemMember}
use Rattle.base_json.specs.declared.lent_item.LentItem.{LentItem}

-- What the value of a member of an item is (RFC 8259, section 3).
abbrev pub value_view : ItemValue → Data
value_view (Text s) = string s.now
value_view (Object o) = object_view o
value_view (Objects os) = array (items_of_objects os.items)
value_view (Other v) = view v

-- The members of which some are there already, with those that come after them, in the order in which they are written (RFC 8259,
-- section 4; of a key that comes twice, the last value counts, as serde_json reads it).
abbrev pub put_values : List ItemMember → Members → Members
put_values [] old = old
put_values (m ∷ ms) old = put_values ms (put m.key.now (value_view m.value) old)

-- What a lent item is (RFC 8259, section 4).
abbrev pub item_view : LentItem → Data
item_view o = object (put_values o.members.items no_members)

-- The tree of a text that is an item of a list. The list is one of a text's 127 levels, so an item has 126 (RFC 8259, sections 2 and
-- 5; as serde_json states it).
abbrev pub item_of : List ℕ → Option Data
item_of text = option_and_then (λ p. if_at_end p.0 p.1) (converted of_json (value 126 (tokens text)))
