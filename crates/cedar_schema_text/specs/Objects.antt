-- Objects of JSON that are put together member by member, and those of the schema format (Cedar documentation, JSON schema format).
use Rattle.std.specs.Prelude.{ℕ, Bool, true, false, ◌&&◌, if◌then◌else◌, List, [], ◌∷◌, Result, Ok, Err, is_some, codes}
use Rattle.serde_json.specs.Data.{Data, object, Members, no_members, member, put}
use Rattle.serde_json.specs.Find.{get_member}
use Rattle.serde_json.specs.View.{members_view}
use Rattle.cedar_schema_text.specs.declared.fault.SchemaTextFault.{SchemaTextFault}
use Rattle.cedar_schema_text.specs.declared.fault.SchemaTextFault.TheVariants as f
use Rattle.cedar_schema_text.specs.declared.space.Space.{Space}
use Rattle.cedar_schema_text.specs.Marks.{Marks}

-- The members with one more, whose key may not be among them: it is written at the byte `at` (own).
unfoldable pub put_once : List ℕ → ℕ → Data → Members → Result Members SchemaTextFault
put_once key at d found = if is_some (get_member key found) then Err (f.Twice at) else Ok (put key d found)

-- One step after another: the first refusal is that of both (own).
abbrev pub and_then : {A B : Type 0} → Result A SchemaTextFault → (A → Result B SchemaTextFault) → Result B SchemaTextFault
and_then (Ok a) go = go a
and_then (Err fault) go = Err fault

-- The members with one more for each of the names, all with the same value (own).
unfoldable pub put_each : Marks → Data → Members → Result Members SchemaTextFault
put_each [] d found = Ok found
put_each (t ∷ names) d found = and_then (put_once t.text t.start d found) (λ more. put_each names d more)

-- Whether there is no member (own).
abbrev pub is_nothing : Members → Bool
is_nothing no_members = true
is_nothing (member k d ms) = false

-- An object with these annotations, if there are some, and nothing else (Cedar documentation, JSON schema format: annotations).
unfoldable pub noted : Members → Members
noted notes = if is_nothing notes then no_members else put (codes "annotations") (object notes) no_members

-- What is declared in a namespace: the members of its three sections (Cedar documentation, JSON schema format: namespaces).
pub record Sections : Type 0 where
  pub commons : Members
  pub entities : Members
  pub actions : Members

-- What contracts see of the sections of the code (own).
abbrev pub sections_of : Space → Sections
sections_of s = record { commons = members_view s.commons.entries; entities = members_view s.entities.entries; actions = members_view s.actions.entries }

-- No section has a member (own).
abbrev pub nothing : Sections
nothing = record { commons = no_members; entities = no_members; actions = no_members }

-- Whether no section has a member (own).
abbrev pub is_bare : Sections → Bool
is_bare s = is_nothing s.commons && (is_nothing s.entities && is_nothing s.actions)

-- The members of the object of a namespace, after these (Cedar documentation, JSON schema format: namespaces).
unfoldable pub space_of : Sections → Members → Members
space_of s found = put (codes "actions") (object s.actions) (put (codes "entityTypes") (object s.entities) (put (codes "commonTypes") (object s.commons) found))
