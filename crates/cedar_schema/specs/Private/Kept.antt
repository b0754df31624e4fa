-- What a schema keeps in addition to what it declares.
use Rattle.std.specs.Prelude.{◌≡◌, ◌≢◌, ◌↔◌, ◌<◌, IsTrue, Bool, false, true, ◌&&◌, bytes_eq, ℕ, List, [], ◌∷◌, Contains, Option, None, Some, get_or, set, option_map, unwrap_or}
use Rattle.std.specs.List.{AllZip, slice_get}
use Rattle.std.specs.BTreeMap.{BTreeMap, get, btree_map_len}
use Rattle.std.specs.BTreeSet.{BTreeSet, contains, insert_key}
use Rattle.std.specs.declared.cmp.Ordering.{Ordering}
use Rattle.base_bits.specs.Bits.{has_bit}
use Rattle.base_search.specs.Numbered.{AreNumbersOf, bit_told}
use Rattle.cedar_value.specs.Order.{text_cmp, uid_cmp}
use Rattle.cedar_value.specs.declared.uid.Uid.{Uid}
use Rattle.base_reach.specs.Closure.{LeadsTo, IsClosure}
use Rattle.cedar_schema.specs.declared.schema.descents.Descents.{Descents}

-- ---- numbers

-- what has a number keeps it
abbrev pub KeepsNumbers : {A : Type 0} → (A → A → Ordering) → BTreeMap A ℕ → BTreeMap A ℕ → Type 0
KeepsNumbers {A} R old new = (u : A) (n : ℕ) → get R old u ≡ Some n → get R new u ≡ Some n

-- no two have the same number, and the next is free
pub record AreApart {A : Type 0} (R : A → A → Ordering) (numbers : BTreeMap A ℕ) : Type 0 where
  pub apart : (u v : A) (n : ℕ) → get R numbers u ≡ Some n → get R numbers v ≡ Some n → u ≡ v
  pub free : (u : A) (n : ℕ) → get R numbers u ≡ Some n → n < btree_map_len numbers

-- for each key the numbers of what it links to
abbrev pub AreLinkNumbers : {A : Type 0} → (A → A → Ordering) → (A → List A) → BTreeMap A ℕ → List A → List (List ℕ) → Type 0
AreLinkNumbers R up numbers keys lists = AllZip (λ u ns. AreNumbersOf (get R numbers) (up u) ns) keys lists

-- a place of the element among the first keys, where it is one of them
abbrev pub IsPlaceBelow : {A : Type 0} → List A → ℕ → A → Option ℕ → Type 0
IsPlaceBelow keys bound u None = (k : ℕ) → k < bound → slice_get keys k ≢ Some u
IsPlaceBelow keys bound u (Some k) = slice_get keys k ≡ Some u

-- each number has the place of its key among the first keys, where it is one of them
abbrev pub ArePlacesBelow : {A : Type 0} → (A → A → Ordering) → BTreeMap A ℕ → List A → ℕ → List (Option ℕ) → Type 0
ArePlacesBelow {A} R numbers keys bound places = (u : A) (n : ℕ) → get R numbers u ≡ Some n → IsPlaceBelow keys bound u (get_or places n None)

-- the places where a number, if there is one, has this one
abbrev pub with_place : List (Option ℕ) → Option ℕ → ℕ → List (Option ℕ)
with_place places None place = places
with_place places (Some n) place = set places n (Some place)

-- ---- rows of bits

-- each row that is there is the one at a place of its key
abbrev pub AreRowsAt : {A : Type 0} → (A → A → Ordering) → List A → List (List ℕ) → BTreeMap A (List ℕ) → Type 0
AreRowsAt {A} R keys rows found = (u : A) (row : List ℕ) → get R found u ≡ Some row → (k : ℕ) × (slice_get keys k ≡ Some u) × (row ≡ get_or rows k [])

-- whether the row has the bit of the element's number
abbrev pub in_row : {A : Type 0} → (A → A → Ordering) → BTreeMap A ℕ → List ℕ → A → Bool
in_row R numbers row u = bit_told row (get R numbers u)

-- each row that is there has what links lead to, and nothing else
abbrev pub AreFound : {A : Type 0} → (A → A → Ordering) → (A → List A) → BTreeMap A ℕ → BTreeMap A (List ℕ) → Type 0
AreFound {A} R up numbers rows = (u : A) (row : List ℕ) → get R rows u ≡ Some row → IsClosure up u (in_row R numbers row)

-- whether the row of the one has the other
abbrev pub has_row : {A : Type 0} → (A → A → Ordering) → Descents A → A → A → Bool
has_row R d low high = unwrap_or (option_map (λ row. in_row R d.numbers row high) (get R d.rows low)) false

-- the rows have what links lead to, and nothing else
abbrev pub AreRows : {A : Type 0} → (A → A → Ordering) → (A → List A) → Descents A → Type 0
AreRows {A} R up d = (low high : A) → IsTrue (has_row R d low high) ↔ LeadsTo up low high

-- ---- the types of actions

-- the types of the actions, each put into an ascending list
abbrev pub types_onto : {B : Type 0} → List (List ℕ) → List (Uid × B) → List (List ℕ)
types_onto before [] = before
types_onto before (x ∷ xs) = types_onto (insert_key text_cmp before (x.0).ty) xs

-- the set has the types of these uids, and nothing else
abbrev pub HasTypes : List Uid → BTreeSet (List ℕ) → Type 0
HasTypes uids s = (n : List ℕ) → IsTrue (contains text_cmp s n) ↔ ((u : Uid) × Contains uids u × (u.ty ≡ n))

-- whether the row of the type has the bit
abbrev pub type_bit : BTreeMap (List ℕ) (List ℕ) → List ℕ → ℕ → Bool
type_bit types ty n = unwrap_or (option_map (λ row. has_bit row n) (get text_cmp types ty)) false

-- an action of the type has the bit in its row
abbrev pub HasTypeBit : BTreeMap Uid (List ℕ) → List ℕ → ℕ → Type 0
HasTypeBit rows ty n = (u : Uid) × (row : List ℕ) × (u.ty ≡ ty) × (get uid_cmp rows u ≡ Some row) × (has_bit row n ≡ true)

-- the rows of the types have what rows of their actions have, and nothing else
abbrev pub AreTypeRows : BTreeMap Uid (List ℕ) → BTreeMap (List ℕ) (List ℕ) → Type 0
AreTypeRows rows types = (ty : List ℕ) (n : ℕ) → IsTrue (type_bit types ty n) ↔ HasTypeBit rows ty n

-- whether the number is of an action of the one type, and is in the row of the other
abbrev pub has_number : BTreeMap (List ℕ) (List ℕ) → List ℕ → List ℕ → Uid × ℕ → Bool
has_number types low high e = bytes_eq (e.0).ty high && type_bit types low e.1
