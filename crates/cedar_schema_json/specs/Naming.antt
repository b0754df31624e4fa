-- Names in a schema: what a name in a namespace denotes (Cedar documentation, JSON schema format: namespaces).
use Rattle.std.specs.Prelude.{ℕ, suc, ◌==◌, not, length, nat_eq, Bool, true, false, bytes_eq, codes, List, [], ◌∷◌, ◌++◌, Option, Some, None, option_map, is_some, if◌then◌else◌}
use Rattle.std.specs.List.{list_any}
use Rattle.cedar_value.specs.Names.{words_from, is_name}
use Rattle.cedar_schema_json.specs.declared.schema_fault.SchemaFault.{SchemaFault}
use Rattle.cedar_schema_json.specs.declared.schema_fault.SchemaFault.TheVariants.{Shape, UnknownType, ReservedName}

-- Whether `__cedar` is one of the words of the text (Cedar documentation, JSON schema format: reserved names).
unfoldable pub is_reserved : List ℕ → Bool
is_reserved s = list_any (λ word. bytes_eq word (codes "__cedar")) (words_from [] s)

-- The full name of a name in a namespace (Cedar language reference, namespaces).
unfoldable pub qualified : List ℕ → List ℕ → List ℕ
qualified namespace name = if length namespace == 0 then name else namespace ++ codes "::" ++ name

-- The place of a name among names, where they are counted from i (own).
abbrev pub place_from : ℕ → List ℕ → List (List ℕ) → Option ℕ
place_from i name [] = None
place_from i name (n ∷ names) = if bytes_eq n name then Some i else place_from (suc i) name names

-- The place of a name among names, from 0 (own).
abbrev pub place_of : List (List ℕ) → List ℕ → Option ℕ
place_of names name = place_from 0 name names

-- A declared name with its place (own).
abbrev pub Declared : Type 0
Declared = List ℕ × ℕ

-- A name with its place, where it is declared (own).
abbrev pub listed : List (List ℕ) → List ℕ → Option Declared
listed names name = option_map (λ place. (name, place)) (place_of names name)

-- The one, or else the other (own).
abbrev pub or_else : {A : Type 0} → Option A → Option A → Option A
or_else (Some x) o = Some x
or_else None o = o

-- What a name denotes: one with `::` denotes itself, another the name in its own namespace, or else in the empty one (Cedar
-- documentation, JSON schema format: namespaces; own).
unfoldable pub resolved : List (List ℕ) → List ℕ → List ℕ → Option Declared
resolved names namespace name =
    if list_any (nat_eq 58) name then listed names name else or_else (listed names (qualified namespace name)) (listed names name)

-- The full name that a name in a namespace is first looked for: one with `::` is that itself (Cedar documentation, JSON schema
-- format: namespaces).
unfoldable pub whole_name : List ℕ → List ℕ → List ℕ
whole_name namespace name = if list_any (nat_eq 58) name then name else qualified namespace name

-- One fault, where the test is true, and else none (own).
abbrev pub fault_if : Bool → SchemaFault → List SchemaFault
fault_if true e = e ∷ []
fault_if false e = []

-- The faults of a text that has to be a name: 302 where it is not one, 306 where it has a reserved word (Cedar documentation,
-- JSON schema format: reserved names).
unfoldable pub text_faults : List ℕ → List SchemaFault
text_faults s = fault_if (is_reserved s) ReservedName ++ fault_if (not (is_name s)) Shape

-- The faults of a name that also has to be declared: 303 where it is not (Cedar documentation, JSON schema format: namespaces).
unfoldable pub name_faults : List (List ℕ) → List ℕ → List ℕ → List SchemaFault
name_faults names namespace s = text_faults s ++ fault_if (not (is_some (resolved names namespace s))) UnknownType
