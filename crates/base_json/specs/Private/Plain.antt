-- Values in the plain form, between two places in a text.
use Rattle.std.specs.Prelude.{◌≡◌, ◌≤◌, ℕ, List, [], ◌∷◌, Bool, false, ◌&&◌, ◌||◌, not, ◌==◌, nat_eq, drop, length, Some}
use Rattle.std.specs.Char.{is_ascii_digit}
use Rattle.std.specs.List.{list_all}
use Rattle.json.specs.Ascii as ascii
use Rattle.json.specs.Json.{read_key, value}
use Rattle.json.specs.Lex.{after_value, begins_colon, between, lex, punctuate, tokens}
use Rattle.json.specs.Token.{Token}
use Rattle.json.specs.Word.{after_minus}
use Rattle.serde_json.specs.Data.{Data, Items, item}
use Rattle.serde_json.specs.Read.{of_json, converted}
use Rattle.base_json.specs.LentObjects.{object_view}
use Rattle.base_json.specs.declared.lent_object.LentObject.{LentObject}

-- digits, of which the first is zero only where there are no others
abbrev pub is_whole : List ℕ → Bool
is_whole [] = false
is_whole (d ∷ ds) = is_ascii_digit d && list_all is_ascii_digit ds && (not (d == ascii.zero) || nat_eq (length ds) 0)

-- the same, after a minus sign where there is one
abbrev pub is_integer : List ℕ → Bool
is_integer s = is_whole (after_minus s)

-- the tokens after a value that ends at a place
abbrev pub tokens_after : List ℕ → ℕ → List Token
tokens_after text end = punctuate after_value (lex between (drop end text))

-- no colon follows the place
abbrev pub HasNoColon : List ℕ → ℕ → Type 0
HasNoColon text end = begins_colon (lex between (drop end text)) ≡ false

-- a value that nests at most so deep is between the places
abbrev pub ReadsValue : ℕ → List ℕ → ℕ → Data → ℕ → Type 0
ReadsValue least text at d end = (depth : ℕ) → least ≤ depth → HasNoColon text end → converted of_json (value depth (tokens (drop at text))) ≡ Some (d, tokens_after text end)

-- an object or a list that nests at most so deep is between the places
abbrev pub ReadsNested : ℕ → List ℕ → ℕ → Data → ℕ → Type 0
ReadsNested least text at d end = (depth : ℕ) → least ≤ depth → converted of_json (value depth (tokens (drop at text))) ≡ Some (d, tokens_after text end)

-- a member is at the place, and the next key or the closing brace at the other
abbrev pub ReadsMember : ℕ → List ℕ → ℕ → List ℕ → Data → ℕ → Type 0
ReadsMember least text at k d next = (s : List Token) × (read_key (tokens (drop at text)) ≡ Some (Some k, s))
    × ((depth : ℕ) → least ≤ depth → converted of_json (value depth s) ≡ Some (d, tokens (drop next text)))

-- the objects as items, and the items after them
abbrev pub objects_before : List LentObject → Items → Items
objects_before [] rest = rest
objects_before (o ∷ os) rest = item (object_view o) (objects_before os rest)
