-- The members of an object that are to come.
use Rattle.std.specs.Prelude.{◌≡◌, ℕ, List, length, Option, Some, None, option_and_then}
use Rattle.json.specs.Token.{Token}
use Rattle.json.specs.Json.{members, value}
use Rattle.serde_json.specs.Data.{Data, string, Members, put}
use Rattle.serde_json.specs.Read.{of_members, converted}
use Rattle.serde_json.specs.View.{view}
use Rattle.base_json.specs.Items.{if_at_end}
use Rattle.base_json.specs.LentObjects.{object_view}
use Rattle.base_json.specs.declared.lent_value.LentValue.{LentValue}
use Rattle.base_json.specs.declared.lent_value.LentValue.TheVariants.{String, Quoted, Object, Tree}

-- What a value is that may be a lent string, or an object of which keys and strings are lent (RFC 8259, section 3).
abbrev pub lent_view : LentValue → Data
lent_view (String s) = string s.now
lent_view (Quoted q) = string q
lent_view (Object o) = object_view o
lent_view (Tree v) = view v

-- The members of an object of which some are read already, with those that the tokens write up to the brace that closes the object
-- and the end of the text. The object itself is one of a text's 127 levels, so its members have 126 (RFC 8259, sections 2 and 4; as
-- serde_json states it).
unfoldable pub members_to_come : Members → List Token → Option Members
members_to_come old ts = option_and_then (λ p. if_at_end p.0 p.1) (converted (λ ms. of_members ms old) (members (value 126) (length ts) ts))

-- The tokens end the object and the text: the object has the members that are read already (RFC 8259, section 4).
abbrev pub IsEnd : List Token → Type 0
IsEnd ts = (old : Members) → members_to_come old ts ≡ Some old

-- The tokens begin with a member, which is put among those that are read already, and go on with the rest (RFC 8259, section 4; of a
-- key that comes twice, the last value counts, as serde_json reads it).
abbrev pub BeginsWith : List ℕ → Data → List Token → List Token → Type 0
BeginsWith key d ts rest = (old : Members) → members_to_come old ts ≡ members_to_come (put key d old) rest

-- The tokens begin with three members whose values are strings (RFC 8259, section 4).
abbrev pub BeginsWithThree : List ℕ → List ℕ → List ℕ → List ℕ → List ℕ → List ℕ → List Token → List Token → Type 0
BeginsWithThree k a l b m c ts rest = (old : Members) → members_to_come old ts ≡ members_to_come (put m (string c) (put l (string b) (put k (string a) old))) rest

-- The tokens are not the members of an object up to the end of the text (RFC 8259, section 4).
abbrev pub IsNoObject : List Token → Type 0
IsNoObject ts = (old : Members) → members_to_come old ts ≡ None
