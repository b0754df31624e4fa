-- Parts of the objects of policies in JSON (Cedar documentation, JSON policy format).
use Rattle.std.specs.Prelude.{ℕ, ◌==◌, codes, List, ◌∷◌, [], Option, Some, None, option_map, option_and_then, if◌then◌else◌}
use Rattle.serde_json.specs.Data.{Data, Items, no_items, item, Members, no_members, member}
use Rattle.serde_json.specs.Find.{get}
use Rattle.cedar_value.specs.Names.{is_name}
use Rattle.cedar_value.specs.declared.uid.Uid.{Uid}
use Rattle.cedar_parser_tokens.specs.declared.content.WrittenUid.{WrittenUid}
use Rattle.cedar_conform_values.specs.Objects.{size_of, text_at}
use Rattle.cedar_conform_values.specs.Uids.{uid_object}

-- Two parts, where there are both (own).
abbrev pub both : {A B : Type 0} → Option A → Option B → Option (A × B)
both (Some a) (Some b) = Some (a, b)
both _ _ = None

-- An item before others, where there are both (own).
abbrev pub in_front : {A : Type 0} → Option A → Option (List A) → Option (List A)
in_front (Some a) (Some xs) = Some (a ∷ xs)
in_front _ _ = None

-- What each item of a list denotes, in order, where each denotes something (own).
unfoldable pub each_read : {A : Type 0} → (Data → Option A) → Items → Option (List A)
each_read f no_items = Some []
each_read f (item d ds) = in_front (f d) (each_read f ds)

-- What each member of an object denotes, in the order of the keys, where each denotes something (own).
unfoldable pub members_read : {A : Type 0} → (List ℕ → Data → Option A) → Members → Option (List A)
members_read f no_members = Some []
members_read f (member k d ms) = in_front (f k d) (members_read f ms)

-- The value at the key of an object that has no other key (own).
abbrev pub only_at : List ℕ → Data → Option Data
only_at k d = if size_of d == 1 then get k d else None

-- The key and the value of the one member of an object (own).
abbrev pub only_member : Members → Option (List ℕ × Data)
only_member (member k d no_members) = Some (k, d)
only_member _ = None

-- The name that a string is: one or more identifiers with `::` between them (Cedar language reference, policy grammar: Path).
abbrev pub name_of : List ℕ → Option (List ℕ)
name_of s = if is_name s then Some s else None

-- The name at a key (own).
abbrev pub name_at : List ℕ → Data → Option (List ℕ)
name_at k d = option_and_then name_of (text_at k d)

-- A uid as a policy text writes it, where its type is a name (Cedar language reference, policy grammar: Entity).
abbrev pub uid_written : Uid → Option WrittenUid
uid_written u = option_map (λ ty. record { ty = ty; id = Some u.id }) (name_of u.ty)

-- The uid of an object of exactly `type` and `id`, or of one that is alone at `__entity` (Cedar documentation, JSON policy format:
-- entity).
abbrev pub uid_read : Data → Option WrittenUid
uid_read d = option_and_then uid_written (uid_object d)
