-- Which list of links a JSON denotes.
use Rattle.std.specs.Prelude.{◌≡◌, ◌||◌, ℕ, Bool, true, codes, List, [], ◌∷◌, Option, Some, None, MatchOption}
use Rattle.std.specs.Str.{bytes_eq}
use Rattle.serde_json.specs.Data.{Data, Items, no_items, item}
use Rattle.serde_json.specs.Find.{get, as_array}
use Rattle.base_json.specs.JsonTree.{json_of}
use Rattle.cedar_value.specs.declared.uid.Uid.{Uid}
use Rattle.cedar_ast.specs.declared.link.Link.{Link}
use Rattle.cedar_ast.specs.declared.slots.Slots.{Slots}
use Rattle.cedar_conform_values.specs.Objects.{has_only, size_of, text_at}
use Rattle.cedar_conform_values.specs.WrittenUids.{UidAt}
use Rattle.cedar_conform_values.specs.declared.conform_fault.ConformFault.{ConformFault}
use Rattle.cedar_conform_values.specs.declared.conform_fault.ConformFault.TheVariants.{Json, Shape}

-- The keys at which a link gives uids: the slots of policies (Cedar language reference, policy templates).
unfoldable pub is_slot_key : List ℕ → Bool
is_slot_key k = bytes_eq k (codes "?principal") || bytes_eq k (codes "?resource")

-- What is given at a key: the uid at the key, or nothing where the object lacks the key (own).
abbrev pub IsGiven : List ℕ → Data → Option Uid → Type 0
IsGiven k d None = get k d ≡ None
IsGiven k d (Some u) = UidAt k d u

-- An object that gives uids for the slots and has no other key (own).
pub record DenotesSlots (d : Data) (s : Slots) : Type 0 where
  pub keys : has_only is_slot_key d ≡ true
  pub principal_given : IsGiven (codes "?principal") d s.principal
  pub resource_given : IsGiven (codes "?resource") d s.resource

-- An object of exactly `template_id` and `link_id`, each a string, and `args`, which gives uids for the slots (own; Cedar
-- language reference, policy templates).
pub record DenotesLink (d : Data) (l : Link) : Type 0 where
  pub keys : size_of d ≡ 3
  pub template_at : text_at (codes "template_id") d ≡ Some l.template
  pub id_at : text_at (codes "link_id") d ≡ Some l.id
  pub args_at : MatchOption (get (codes "args") d) ⊥ (λ args. DenotesSlots args l.slots)

-- Each item denotes a link, one after another (own).
abbrev pub DenoteLinks : Items → List Link → Type 0
DenoteLinks no_items [] = Unit {0}
DenoteLinks no_items (l ∷ ls) = ⊥
DenoteLinks (item d ds) [] = ⊥
DenoteLinks (item d ds) (l ∷ ls) = DenotesLink d l × DenoteLinks ds ls

-- The JSON is a list of links (own).
abbrev pub DenotesLinks : Data → List Link → Type 0
DenotesLinks d ls = MatchOption (as_array d) ⊥ (λ ds. DenoteLinks ds ls)

-- The bytes denote links where they are JSON that does (own).
abbrev pub BytesDenoteLinks : List ℕ → List Link → Type 0
BytesDenoteLinks bytes ls = MatchOption (json_of bytes) ⊥ (λ d. DenotesLinks d ls)

-- The fault is 501 where the bytes are not JSON, and else 502, where their JSON denotes no links (RFC 8259).
abbrev pub LinksAreRefused : List ℕ → ConformFault → Type 0
LinksAreRefused bytes f = MatchOption (json_of bytes) (f ≡ Json) (λ d. (f ≡ Shape) × ((ls : List Link) → ¬ DenotesLinks d ls))
