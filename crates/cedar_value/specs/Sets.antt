-- Sets as ascending lists (Cedar language reference, set operators).
use Rattle.std.specs.Prelude.{Bool, List, Contains, ◌↔◌}
use Rattle.std.specs.List.{list_any}
use Rattle.cedar_value.specs.Datum.{Datum, same}
use Rattle.cedar_value.specs.Order.{datum_cmp}
use Rattle.cedar_value.specs.Ascending.{ascending_from}

-- Whether the value is one of the list; `has_member_tells_members` ties it to membership (Cedar language reference, set
-- operators).
abbrev pub has_member : List Datum → Datum → Bool
has_member ds d = list_any (same d) ds

-- The two lists have the same members (Cedar language reference, set operators).
abbrev pub SameMembers : List Datum → List Datum → Type 0
SameMembers ds es = (d : Datum) → Contains ds d ↔ Contains es d

-- The set of a list's members: the ascending list that has them; `set_from_has_the_members` says so (Cedar language
-- reference, set operators).
abbrev pub set_from : List Datum → List Datum
set_from = ascending_from datum_cmp
