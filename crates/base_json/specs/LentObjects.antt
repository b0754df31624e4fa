-- Objects whose keys and strings are lent.
use Rattle.std.specs.Prelude.{List, [], ◌∷◌, map}
use Rattle.serde_json.specs.Data.{Data, string, object, Items, Members, no_members, put}
use Rattle.serde_json.specs.View.{items_of, view}
use Rattle.base_json.specs.declared.lent_object.LentMember.{LentMember}
use Rattle.base_json.specs.declared.lent_object.LentObject.{LentObject}
use Rattle.base_json.specs.declared.lent_object.LentPart.{LentPart}
use Rattle.base_json.specs.declared.lent_object.LentPart.TheVariants.{Text, Other}

-- What the value of a member is (RFC 8259, section 3).
abbrev pub part_view : LentPart → Data
part_view (Text s) = string s.now
part_view (Other v) = view v

-- The members of which some are there already, with those that come after them, in the order in which they are written (RFC 8259,
-- section 4; of a key that comes twice, the last value counts, as serde_json reads it).
abbrev pub put_all : List LentMember → Members → Members
put_all [] old = old
put_all (m ∷ ms) old = put_all ms (put m.key.now (part_view m.value) old)

-- What a lent object is (RFC 8259, section 4).
abbrev pub object_view : LentObject → Data
object_view o = object (put_all o.members.items no_members)

-- What a list of lent objects has as its items (RFC 8259, section 5).
abbrev pub items_of_objects : List LentObject → Items
items_of_objects os = items_of (map object_view os)
