-- What the stores keep in addition to their entities.
use Rattle.std.specs.Prelude.{◌≡◌, ◌↔◌, ℕ, ◌<◌, ◌||◌, not, Bool, false, List, [], Option, None, Some, Contains, get_or, length, nat_eq, option_map, position, unwrap_or}
use Rattle.std.specs.BTreeSet.{BTreeSet, contains}
use Rattle.std.specs.List.{AllZip, list_any, slice_get}
use Rattle.indexmap.specs.IndexMap.{IndexMap, get}
use Rattle.base_reach.specs.Closure.{IsClosure}
use Rattle.base_bits.specs.Bits.{has_bit}
use Rattle.base_search.specs.Links.{list_at}
use Rattle.base_search.specs.Numbered.{AreNumbersOf, bit_told}
use Rattle.cedar_value.specs.Datum.{Datum, uid, same_uid}
use Rattle.cedar_value.specs.Order.{uid_cmp}
use Rattle.cedar_value.specs.World.{EntityTree, World, parents_of}
use Rattle.cedar_value.specs.declared.uid.Uid.{Uid}

-- the map has for each uid its place in the list
abbrev pub ArePlaces : {S : Type 0} → IndexMap Uid ℕ S → List Uid → Type 0
ArePlaces m us = (u : Uid) (k : ℕ) → (get same_uid m u ≡ Some k) ↔ (slice_get us k ≡ Some u)

-- the test is true of what the uid is below, and of nothing else
abbrev pub AreAncestors : World → Uid → (Uid → Bool) → Type 0
AreAncestors w u test = IsClosure (parents_of w) u test

-- whether a value is a uid that passes
abbrev pub has_datum : (Uid → Bool) → Datum → Bool
has_datum test (uid v) = test v
has_datum test _ = false

-- ---- sets of uids

abbrev pub HasAncestors : World → EntityTree → BTreeSet Uid → Type 0
HasAncestors w e s = AreAncestors w e.uid (contains uid_cmp s)

-- ---- rows of bits

-- the number of the uid: the first place of it among the keys
abbrev pub number_in : List Uid → Uid → Option ℕ
number_in keys u = position (same_uid u) keys

-- what has a number keeps it
abbrev pub KeepsNumbers : List Uid → List Uid → Type 0
KeepsNumbers old new = (u : Uid) (n : ℕ) → number_in old u ≡ Some n → number_in new u ≡ Some n

-- for each entity the numbers of its parents
abbrev pub AreParentNumbers : List Uid → World → List (List ℕ) → Type 0
AreParentNumbers keys w lists = AllZip (λ e ns. AreNumbersOf (number_in keys) e.parents ns) w lists

-- the place of the uid, where it has one
abbrev pub IsPlace : List Uid → Uid → Option ℕ → Type 0
IsPlace us u o = (k : ℕ) → (o ≡ Some k) ↔ (slice_get us k ≡ Some u)

-- the list is the one at the place of the uid, or is empty where the uid has no place
abbrev pub IsListOf : List Uid → List (List ℕ) → Uid → List ℕ → Type 0
IsListOf us lists u ns = (o : Option ℕ) × IsPlace us u o × (ns ≡ list_at lists o)

-- each parent has a number
abbrev pub AreParentsNumbered : List Uid → World → Type 0
AreParentsNumbered keys w = (u p : Uid) → Contains (parents_of w u) p → (n : ℕ) × (number_in keys p ≡ Some n)

-- each number links to those of the parents of its uid
pub record IsNumberGraph (keys : List Uid) (w : World) (lists : List (List ℕ)) (places : List (Option ℕ)) : Type 0 where
  pub listed : AllZip (λ u ns. AreNumbersOf (number_in keys) (parents_of w u) ns) keys lists
  pub placed : (n : ℕ) → n < length keys → get_or places n None ≡ Some n
  pub long : length places ≡ length keys

-- whether the row has the bit of the uid's number
abbrev pub in_row : List Uid → List ℕ → Uid → Bool
in_row keys row u = bit_told row (number_in keys u)

-- each row has the numbers of what the uid of its number is below, and nothing else
abbrev pub AreRows : List Uid → World → List (List ℕ) → Type 0
AreRows keys w rows = (n : ℕ) (u : Uid) → number_in keys u ≡ Some n → AreAncestors w u (in_row keys (get_or rows n []))

-- whether a number m is the number n, or the row of n has its bit
abbrev pub is_ahead_of : List (List ℕ) → ℕ → ℕ → Bool
is_ahead_of rows m n = nat_eq n m || has_bit (get_or rows n []) m

-- whether a number is ahead of one of the near ones
abbrev pub has_ahead : List (List ℕ) → List ℕ → ℕ → Bool
has_ahead rows near m = list_any (is_ahead_of rows m) near

-- the same of a number, if there is one
abbrev pub ahead_told : List (List ℕ) → List ℕ → Option ℕ → Bool
ahead_told rows near None = false
ahead_told rows near (Some m) = has_ahead rows near m

-- whether the uid's number is ahead of the near ones
abbrev pub in_ahead : List Uid → List (List ℕ) → List ℕ → Uid → Bool
in_ahead keys rows near u = ahead_told rows near (number_in keys u)

-- whether the uid is the key at the place n
abbrev pub is_number_of : List Uid → Uid → ℕ → Bool
is_number_of keys u n = unwrap_or (option_map (same_uid u) (slice_get keys n)) false

-- whether there is something in the row of the number n
abbrev pub has_row : List (List ℕ) → ℕ → Bool
has_row rows n = not (nat_eq (length (get_or rows n [])) 0)
