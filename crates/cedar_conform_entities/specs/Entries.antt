-- What an entry of a list of entities writes, whatever the schema is.
use Rattle.std.specs.Prelude.{◌≡◌, ◌⊎◌, ◌||◌, ◌++◌, ℕ, Bool, true, codes, List, [], ◌∷◌, IsSome, MatchOption, unwrap_or}
use Rattle.std.specs.Str.{bytes_eq}
use Rattle.serde_json.specs.Data.{Data, array, object, Items, no_items, item, no_members}
use Rattle.serde_json.specs.Find.{get, as_array, as_object}
use Rattle.cedar_conform_values.specs.Objects.{has_only}
use Rattle.cedar_conform_values.specs.WrittenUids.{IsUidObject}
use Rattle.cedar_value.specs.declared.uid.Uid.{Uid}

-- The keys of an entry (Cedar documentation, entities and context in JSON).
unfoldable pub is_entry_key : List ℕ → Bool
is_entry_key k = bytes_eq k (codes "uid") || bytes_eq k (codes "attrs") || bytes_eq k (codes "parents") || bytes_eq k (codes "tags")

-- The attributes of an entry, none where the key is absent (Cedar documentation, entities and context in JSON; own: the key may
-- be absent).
abbrev pub attributes_in : Data → Data
attributes_in d = unwrap_or (get (codes "attrs") d) (object no_members)

-- The parents of an entry, none where the key is absent (Cedar documentation, entities and context in JSON; own: the key may be
-- absent).
abbrev pub parents_in : Data → Data
parents_in d = unwrap_or (get (codes "parents") d) (array no_items)

-- The tags of an entry, none where the key is absent (Cedar documentation, entities and context in JSON).
abbrev pub tags_in : Data → Data
tags_in d = unwrap_or (get (codes "tags") d) (object no_members)

-- The uids that a list writes, each as an object (Cedar documentation, entities and context in JSON: parents).
pub data AreUids : Items → List Uid → Type 0 where
  no_uids : AreUids no_items []
  one_uid : {d : Data} {u : Uid} {ds : Items} {us : List Uid} → IsUidObject d u → AreUids ds us → AreUids (item d ds) (u ∷ us)

-- The uid that an entry writes (Cedar documentation, entities and context in JSON: uid).
abbrev pub IsUidOf : Data → Uid → Type 0
IsUidOf d u = MatchOption (get (codes "uid") d) ⊥ (λ found. IsUidObject found u)

-- An entry writes a uid and a list of parents: it is an object with no other keys than an entry's, attributes that are an
-- object, and no tags (Cedar documentation, entities and context in JSON).
pub record Writes (d : Data) (u : Uid) (parents : List Uid) : Type 0 where
  pub keys : has_only is_entry_key d ≡ true
  pub uid : IsUidOf d u
  pub listed : MatchOption (as_array (parents_in d)) ⊥ (λ ds. AreUids ds parents)
  pub attributed : IsSome (as_object (attributes_in d))
  pub untagged : tags_in d ≡ object no_members

-- The last part of the name of a type is `Action` (Cedar documentation, entities and context in JSON: actions; Cedar
-- language reference, namespaces).
abbrev pub IsActionName : List ℕ → Type 0
IsActionName n = (n ≡ codes "Action") ⊎ ((front : List ℕ) × (n ≡ front ++ codes "::Action"))

-- An entry writes an entity: the last part of its type is not `Action` (Cedar documentation, entities and context in JSON).
pub record WritesEntity (d : Data) (u : Uid) (parents : List Uid) : Type 0 where
  pub written : Writes d u parents
  pub no_action : ¬ IsActionName u.ty

-- Some entry writes the uid (Cedar documentation, entities and context in JSON).
abbrev pub SomeWrites : Items → Uid → Type 0
SomeWrites no_items u = ⊥
SomeWrites (item d ds) u = IsUidOf d u ⊎ SomeWrites ds u

-- Two entries write the uid (Cedar documentation, entities and context in JSON).
abbrev pub TwoWrite : Items → Uid → Type 0
TwoWrite no_items u = ⊥
TwoWrite (item d ds) u = (IsUidOf d u × SomeWrites ds u) ⊎ TwoWrite ds u
