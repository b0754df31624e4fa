-- What is read between two steps down: scalars, and then what opens.
use Rattle.std.specs.Prelude.{◌≡◌, ℕ, ◌≤◌, List, [], ◌∷◌, length, Option, Some, None, String, string_bytes}
use Rattle.std.specs.declared.alloc.Global.{Global}
use Rattle.json.specs.Token.{Token}
use Rattle.json.specs.Json.{parse_map, read_key, items, members, value}
use Rattle.serde_json.specs.Data.{Items, item, Members, put}
use Rattle.serde_json.specs.Read.{of_json, of_items, of_members, converted}
use Rattle.serde_json.specs.View.{view, items_view}
use Rattle.serde_json.specs.declared.value.Value.{Value}
use Rattle.base_json.specs.declared.step.Opened.{Opened}
use Rattle.base_json.specs.declared.step.Opened.TheVariants.{Array, Object}
use Rattle.base_json.specs.declared.step.Step.{Step}
use Rattle.base_json.specs.declared.step.Step.TheVariants.{Scalar, Nested}

-- the token of the bracket or the brace
abbrev pub opening : Opened → Token
opening Array = Token.begin_array
opening Object = Token.begin_object

-- the step is the scalar that the tokens begin with, or what they open, and r follows it
abbrev pub IsStep : List Token → List Token → Step → Type 0
IsStep ts r (Scalar v) = (depth : ℕ) → converted of_json (value depth ts) ≡ Some (view v, r)
IsStep ts r (Nested o) = ts ≡ opening o ∷ r

abbrev pub items_before : List Value → Items → Items
items_before [] rest = rest
items_before (v ∷ vs) rest = item (view v) (items_before vs rest)

-- the items that the tokens write after those that are there already, in n turns
abbrev pub items_after : List Value → ℕ → ℕ → List Token → Option (Items × List Token)
items_after old depth n ts = parse_map (items_before old) (converted of_items (items (value depth) n ts))

-- the list grew by the tokens' scalars up to what they open or the end of the array, and r follows that
abbrev pub AddsItems : List Value → List Value → List Token → List Token → Option Opened → Type 0
AddsItems old new ts r None = (n depth : ℕ) → length ts ≤ n → items_after old depth n ts ≡ Some (items_view new, r)
AddsItems old new ts r (Some o) = (n depth : ℕ) → length ts ≤ n
    → (m : ℕ) × (length (opening o ∷ r) ≤ m) × (items_after old depth n ts ≡ items_after new depth m (opening o ∷ r))

-- the members that the tokens write put into those that are there already, in n turns
abbrev pub members_after : Members → ℕ → ℕ → List Token → Option (Members × List Token)
members_after old depth n ts = converted (λ ms. of_members ms old) (members (value depth) n ts)

-- the members with one more, where there is one
abbrev pub with_member : Option (String Global × Value) → Members → Members
with_member None old = old
with_member (Some q) old = put (string_bytes q.0) (view q.1) old

-- the members grew by the tokens' scalars up to a key whose value opens or the end of the object, and r follows that
abbrev pub AddsMembers : Members → Members → List Token → List Token → Option (String Global × Opened) → Type 0
AddsMembers old new ts r None = (n depth : ℕ) → length ts ≤ n → members_after old depth n ts ≡ Some (new, r)
AddsMembers old new ts r (Some q) = (n depth : ℕ) → length ts ≤ n
    → (m : ℕ) × (s : List Token) × (length s ≤ m) × (read_key s ≡ Some (Some (string_bytes q.0), opening q.1 ∷ r))
    × (members_after old depth n ts ≡ members_after new depth m s)
