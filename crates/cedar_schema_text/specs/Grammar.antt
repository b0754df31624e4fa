-- The grammar of schema texts, rule by rule, and the JSON that each rule writes. A rule reads tokens from left to right, and gives
-- what it writes and the tokens after it, or a refusal.
--
--     Schema    = { Annots ( Namespace | Decl ) }
--     Namespace = "namespace" Path "{" { Annots Decl } "}"
--     Decl      = Entity | Action | TypeDecl
--     Entity    = "entity" IDENT {"," IDENT} ( [ "in" Types ] [ [ "=" ] Record ] [ "tags" Type ] | "enum" "[" STR {"," STR} [","] "]" ) ";"
--     Action    = "action" Name {"," Name} [ "in" ( Ref | "[" [ Ref {"," Ref} [","] ] "]" ) ]
--                 [ "appliesTo" "{" App {"," App} [","] "}" ] [ "attributes" "{" "}" ] ";"
--     App       = ( "principal" | "resource" ) ":" Types  |  "context" ":" ( Path | Record )
--     TypeDecl  = "type" IDENT "=" Type ";"
--     Type      = Path | "Set" "<" Type ">" | Record
--     Record    = "{" [ Attr {"," Attr} [","] ] "}"
--     Attr      = Annots Name [ "?" ] ":" Type
--     Types     = Path | "[" [ Path {"," Path} [","] ] "]"
--     Ref       = Path "::" STR | Name
--     Name      = IDENT | STR
--     Path      = IDENT { "::" IDENT }
--     Annots    = { "@" IDENT [ "(" STR ")" ] }
--
-- (Cedar documentation, schema grammar; JSON schema format)
use Rattle.std.specs.Prelude.{ℕ, zero, suc, true, false, Bool, ◌&&◌, if◌then◌else◌, List, [], ◌∷◌, ◌++◌, length, Ok, codes}
use Rattle.std.specs.Str.{bytes_eq}
use Rattle.serde_json.specs.Data.{Data, boolean, string, array, object, Members, no_members, put}
use Rattle.serde_json.specs.View.{items_of}
use Rattle.cedar_schema_text.specs.declared.token_kind.TokenKind.TheVariants as k
use Rattle.cedar_schema_text.specs.Marks.{Mark, Marks}
use Rattle.cedar_schema_text.specs.Objects.{put_once, put_each, noted, Sections, nothing, is_bare, space_of}
use Rattle.cedar_schema_text.specs.Reading.{Parser, and_then, before, refused, place, sees, sees_word, next, expect, items, some_items, one_or_more, member_at}

-- ---- names

-- A name is read: IDENT | STR (Cedar documentation, schema grammar: Name).
unfoldable pub name : Parser Mark
name ts = if sees k.String ts then expect k.String ts else expect k.Word ts

-- Whether a path goes on here: with `::` and a word (Cedar documentation, schema grammar: Path).
abbrev pub goes_on : Marks → Bool
goes_on ts = sees k.DoubleColon ts && sees k.Word (next ts)

-- The rest of a path is read in at most n turns (Cedar documentation, schema grammar: Path).
unfoldable pub path_from : ℕ → List ℕ → Parser (List ℕ)
path_from zero p ts = Ok (p, ts)
path_from (suc n) p ts = if goes_on ts then and_then (expect k.Word (next ts)) (λ t us. path_from n (p ++ codes "::" ++ t.text) us) else Ok (p, ts)

-- A path is read as its text, as far as it goes on: IDENT { "::" IDENT } (Cedar documentation, schema grammar: Path).
unfoldable pub path : Parser (List ℕ)
path ts = and_then (expect k.Word ts) (λ t us. path_from (length us) t.text us)

-- A name of what is declared is read, which may be a string where `quoted` says so (Cedar documentation, schema grammar: Entity,
-- Action).
unfoldable pub declared_name : Bool → Parser Mark
declared_name quoted ts = if quoted then name ts else expect k.Word ts

-- Further names are read in at most n turns, each after a comma (Cedar documentation, schema grammar: Entity, Action).
unfoldable pub names_from : Bool → ℕ → Marks → Parser Marks
names_from quoted zero found ts = Ok (found, ts)
names_from quoted (suc n) found ts = if sees k.Comma ts then and_then (declared_name quoted (next ts)) (λ t us. names_from quoted n (found ++ t ∷ []) us) else Ok (found, ts)

-- Names are read, as far as they go on: Name { "," Name } (Cedar documentation, schema grammar: Entity, Action).
unfoldable pub names : Bool → Parser Marks
names quoted ts = and_then (declared_name quoted ts) (λ t us. names_from quoted (length us) (t ∷ []) us)

-- ---- annotations

-- The value of an annotation is read, the empty text where none is written: [ "(" STR ")" ] (Cedar documentation, schema grammar:
-- Annots).
unfoldable pub annotation_value : Parser (List ℕ)
annotation_value ts = if sees k.LeftParen ts then and_then (expect k.String (next ts)) (λ t us. and_then (expect k.RightParen us) (λ r vs. Ok (t.text, vs))) else Ok ([], ts)

-- An annotation is read, and put among others: "@" IDENT [ "(" STR ")" ] (Cedar documentation, schema grammar: Annots).
unfoldable pub annotation : Members → Parser Members
annotation found ts =
    and_then (expect k.At ts) (λ a us. and_then (expect k.Word us) (λ t vs. and_then (annotation_value vs) (λ text ws.
    before (put_once t.text t.start (string text) found) ws)))

-- Annotations are read in at most n turns (Cedar documentation, schema grammar: Annots).
unfoldable pub annotations_from : ℕ → Members → Parser Members
annotations_from zero found ts = Ok (found, ts)
annotations_from (suc n) found ts = if sees k.At ts then and_then (annotation found ts) (λ more us. annotations_from n more us) else Ok (found, ts)

-- Annotations are read, and an object is begun that has them: { "@" IDENT [ "(" STR ")" ] } (Cedar documentation, schema grammar:
-- Annots).
unfoldable pub annotations : Parser Members
annotations ts = and_then (annotations_from (length ts) no_members ts) (λ notes us. Ok (noted notes, us))

-- ---- types

-- The members of a type that is a name, after these (Cedar documentation, JSON schema format: EntityOrCommon).
unfoldable pub named : List ℕ → Members → Members
named p found = put (codes "name") (string p) (put (codes "type") (string (codes "EntityOrCommon")) found)

-- A mark that an attribute may be missing is read: [ "?" ] (Cedar documentation, schema grammar: Attr).
unfoldable pub optional : Members → Parser Members
optional found ts = if sees k.Question ts then Ok (put (codes "required") (boolean false) found, next ts) else Ok (found, ts)

module _ (inner : Members → Parser Members) where
  -- An attribute is read, and put among others: Annots Name [ "?" ] ":" Type (Cedar documentation, schema grammar: Attr).
  unfoldable pub attribute : Members → Parser Members
  attribute found ts =
      and_then (annotations ts) (λ notes us. and_then (name us) (λ t vs. and_then (optional notes vs) (λ start ws. and_then (expect k.Colon ws) (λ c xs.
      and_then (inner start xs) (λ ty ys. before (put_once t.text t.start (object ty) found) ys)))))

  -- The attributes of a record are read: "{" [ Attr {"," Attr} [","] ] "}" (Cedar documentation, schema grammar: Record).
  unfoldable pub attributes : Parser Members
  attributes ts = and_then (expect k.LeftBrace ts) (λ b us. items attribute k.RightBrace no_members us)

  -- A record is read after these members (Cedar documentation, schema grammar: Record; JSON schema format: Record).
  unfoldable pub record_onto : Members → Parser Members
  record_onto found ts = member_at (codes "attributes") (put (codes "type") (string (codes "Record")) found) (λ us. and_then (attributes us) (λ ms vs. Ok (object ms, vs))) ts

  -- What follows `Set` is read: "<" Type ">" (Cedar documentation, schema grammar: Type; JSON schema format: Set).
  unfoldable pub set_onto : Members → Parser Members
  set_onto found ts =
      and_then (expect k.Less ts) (λ l us. and_then (inner no_members us) (λ ty vs. and_then (expect k.Greater vs) (λ g ws.
      Ok (put (codes "element") (object ty) (put (codes "type") (string (codes "Set")) found), ws))))

  -- A type that begins with a path is read: Path | "Set" "<" Type ">" (Cedar documentation, schema grammar: Type).
  unfoldable pub name_onto : Members → Parser Members
  name_onto found ts = and_then (path ts) (λ p us. if bytes_eq p (codes "Set") && sees k.Less us then set_onto found us else Ok (named p found, us))

  -- A type is read: Path | "Set" "<" Type ">" | Record (Cedar documentation, schema grammar: Type).
  unfoldable pub form_onto : Members → Parser Members
  form_onto found ts = if sees k.LeftBrace ts then record_onto found ts else name_onto found ts

-- A type of at most so many levels is read, and its members are put after these. A deeper one is refused where it begins (Cedar
-- documentation, schema grammar: Type; own in the limit).
unfoldable pub type_onto : ℕ → Members → Parser Members
type_onto zero found ts = refused ts
type_onto (suc d) found ts = form_onto (type_onto d) found ts

-- The most levels that a type has (own).
abbrev pub levels : ℕ
levels = 100

-- A type is read (Cedar documentation, schema grammar: Type).
unfoldable pub any_type : Parser Data
any_type ts = and_then (type_onto levels no_members ts) (λ ms us. Ok (object ms, us))

-- A type that is a record is read (Cedar documentation, schema grammar: Record).
unfoldable pub record_type : Parser Data
record_type ts = if sees k.LeftBrace ts then any_type ts else refused ts

-- ---- lists of names

-- A path is read, and put after others (Cedar documentation, schema grammar: Types).
unfoldable pub type_name : List Data → Parser (List Data)
type_name found ts = and_then (path ts) (λ p us. Ok (found ++ string p ∷ [], us))

-- Names of types are read: Path | "[" [ Path {"," Path} [","] ] "]" (Cedar documentation, schema grammar: Types).
unfoldable pub types : Parser Data
types ts = and_then (one_or_more type_name ts) (λ ds us. Ok (array (items_of ds), us))

-- The member `id` alone (Cedar documentation, JSON schema format: memberOf).
abbrev pub with_id : List ℕ → Members
with_id id = put (codes "id") (string id) no_members

-- An action of a type is read: Path "::" STR (Cedar documentation, schema grammar: Ref).
unfoldable pub typed_action : Parser Members
typed_action ts =
    and_then (path ts) (λ p us. and_then (expect k.DoubleColon us) (λ c vs. and_then (expect k.String vs) (λ t ws.
    Ok (put (codes "type") (string p) (with_id t.text), ws))))

-- An action is read: Path "::" STR | Name (Cedar documentation, schema grammar: Ref).
unfoldable pub action_ref : Parser Members
action_ref ts = if sees k.DoubleColon (next ts) then typed_action ts else and_then (name ts) (λ t us. Ok (with_id t.text, us))

-- An action is read, and put after others (Cedar documentation, schema grammar: Action).
unfoldable pub group : List Data → Parser (List Data)
group found ts = and_then (action_ref ts) (λ ms us. Ok (found ++ object ms ∷ [], us))

-- Actions are read: Ref | "[" [ Ref {"," Ref} [","] ] "]" (Cedar documentation, schema grammar: Action).
unfoldable pub groups : Parser Data
groups ts = and_then (one_or_more group ts) (λ ds us. Ok (array (items_of ds), us))

-- A string is read, and put after others (Cedar documentation, schema grammar: Entity).
unfoldable pub text : List Data → Parser (List Data)
text found ts = and_then (expect k.String ts) (λ t us. Ok (found ++ string t.text ∷ [], us))

-- The ids of an enumeration are read: "[" STR {"," STR} [","] "]" (Cedar documentation, schema grammar: Entity; Cedar RFC 53).
unfoldable pub ids : Parser Data
ids ts = and_then (expect k.LeftBracket ts) (λ b us. and_then (some_items text k.RightBracket [] us) (λ ds vs. Ok (array (items_of ds), vs)))

-- ---- entity types

-- Parents are read: [ "in" Types ] (Cedar documentation, schema grammar: Entity).
unfoldable pub parents : Members → Parser Members
parents found ts = if sees_word (codes "in") ts then member_at (codes "memberOfTypes") found types (next ts) else Ok (found, ts)

-- A shape is read and put at its key: Record (Cedar documentation, schema grammar: Entity; JSON schema format: shape).
abbrev pub shape_at : Members → Parser Members
shape_at found ts = member_at (codes "shape") found record_type ts

-- A shape is read, if it is written: [ [ "=" ] Record ] (Cedar documentation, schema grammar: Entity).
unfoldable pub shape : Members → Parser Members
shape found ts = if sees k.Equal ts then shape_at found (next ts) else (if sees k.LeftBrace ts then shape_at found ts else Ok (found, ts))

-- The type of tags is read: [ "tags" Type ] (Cedar documentation, schema grammar: Entity; Cedar RFC 82).
unfoldable pub tags : Members → Parser Members
tags found ts = if sees_word (codes "tags") ts then member_at (codes "tags") found any_type (next ts) else Ok (found, ts)

-- What follows the names of entity types is read (Cedar documentation, schema grammar: Entity).
unfoldable pub entity_body : Members → Parser Members
entity_body found ts =
    if sees_word (codes "enum") ts then member_at (codes "enum") found ids (next ts)
    else and_then (parents found ts) (λ more us. and_then (shape more us) (λ most vs. tags most vs))

-- What is declared is put among others, at each of its names, and its end is read: ";" (Cedar documentation, schema grammar:
-- Entity, Action, TypeDecl).
unfoldable pub declare : Marks → Members → Members → Parser Members
declare names body found ts = and_then (expect k.Semicolon ts) (λ e us. before (put_each names (object body) found) us)

-- Entity types are read, and put among others (Cedar documentation, schema grammar: Entity).
unfoldable pub entities : Members → Members → Parser Members
entities notes found ts = and_then (names false ts) (λ all us. and_then (entity_body notes us) (λ body vs. declare all body found vs))

-- ---- actions

-- What an action applies to is read at a key, which may come once: its word, ":", and its value (Cedar documentation, schema
-- grammar: App).
unfoldable pub applies_at : List ℕ → Parser Data → Members → Parser Members
applies_at key value found ts = and_then (expect k.Colon (next ts)) (λ c us. and_then (value us) (λ d vs. before (put_once key (place ts) d found) vs))

-- The type of a context is read: Path | Record (Cedar documentation, schema grammar: App).
unfoldable pub context : Parser Data
context ts = if sees k.LeftBrace ts then any_type ts else and_then (path ts) (λ p us. Ok (object (named p no_members), us))

-- One thing that an action applies to is read: ( "principal" | "resource" ) ":" Types | "context" ":" ( Path | Record ) (Cedar
-- documentation, schema grammar: App).
unfoldable pub applies : Members → Parser Members
applies found ts =
    if sees_word (codes "principal") ts then applies_at (codes "principalTypes") types found ts
    else (if sees_word (codes "resource") ts then applies_at (codes "resourceTypes") types found ts
    else (if sees_word (codes "context") ts then applies_at (codes "context") context found ts else refused ts))

-- What an action applies to is read: "{" App {"," App} [","] "}" (Cedar documentation, schema grammar: Action).
unfoldable pub applied : Parser Data
applied ts = and_then (expect k.LeftBrace ts) (λ b us. and_then (some_items applies k.RightBrace no_members us) (λ ms vs. Ok (object ms, vs)))

-- Attributes of an action are read, which has none: "{" "}" (Cedar documentation, schema grammar: Action).
unfoldable pub no_attributes : Parser Data
no_attributes ts = and_then (expect k.LeftBrace ts) (λ b us. and_then (expect k.RightBrace us) (λ e vs. Ok (object no_members, vs)))

-- The actions that an action is in are read: [ "in" ( Ref | "[" .. "]" ) ] (Cedar documentation, schema grammar: Action).
unfoldable pub members : Members → Parser Members
members found ts = if sees_word (codes "in") ts then member_at (codes "memberOf") found groups (next ts) else Ok (found, ts)

-- What an action applies to is read, if it is written (Cedar documentation, schema grammar: Action).
unfoldable pub scope : Members → Parser Members
scope found ts = if sees_word (codes "appliesTo") ts then member_at (codes "appliesTo") found applied (next ts) else Ok (found, ts)

-- The attributes of an action are read, if they are written (Cedar documentation, schema grammar: Action).
unfoldable pub extras : Members → Parser Members
extras found ts = if sees_word (codes "attributes") ts then member_at (codes "attributes") found no_attributes (next ts) else Ok (found, ts)

-- What follows the names of actions is read (Cedar documentation, schema grammar: Action).
unfoldable pub action_body : Members → Parser Members
action_body found ts = and_then (members found ts) (λ more us. and_then (scope more us) (λ most vs. extras most vs))

-- Actions are read, and put among others (Cedar documentation, schema grammar: Action).
unfoldable pub actions : Members → Members → Parser Members
actions notes found ts = and_then (names true ts) (λ all us. and_then (action_body notes us) (λ body vs. declare all body found vs))

-- ---- common types

-- A common type is read, and put among others: IDENT "=" Type ";" (Cedar documentation, schema grammar: TypeDecl).
unfoldable pub common_type : Members → Members → Parser Members
common_type notes found ts =
    and_then (expect k.Word ts) (λ t us. and_then (expect k.Equal us) (λ e vs. and_then (type_onto levels notes vs) (λ body ws. declare (t ∷ []) body found ws)))

-- ---- the whole

-- What follows the annotations of a declaration is read, and put into its section: Entity | Action | TypeDecl (Cedar
-- documentation, schema grammar: Decl).
unfoldable pub declaration : Members → Sections → Parser Sections
declaration notes s ts =
    if sees_word (codes "entity") ts then and_then (entities notes s.entities (next ts)) (λ all us. Ok (record { commons = s.commons; entities = all; actions = s.actions }, us))
    else (if sees_word (codes "action") ts then and_then (actions notes s.actions (next ts)) (λ all us. Ok (record { commons = s.commons; entities = s.entities; actions = all }, us))
    else (if sees_word (codes "type") ts then and_then (common_type notes s.commons (next ts)) (λ all us. Ok (record { commons = all; entities = s.entities; actions = s.actions }, us))
    else refused ts))

-- The declarations of a namespace are read in at most n turns, up to its brace (Cedar documentation, schema grammar: Namespace).
unfoldable pub declarations_from : ℕ → Sections → Parser Sections
declarations_from zero s ts = refused ts
declarations_from (suc n) s ts =
    if sees k.RightBrace ts then Ok (s, next ts)
    else and_then (annotations ts) (λ notes us. and_then (declaration notes s us) (λ more vs. declarations_from n more vs))

-- A namespace is read, and put among others: Path "{" { Annots Decl } "}" (Cedar documentation, schema grammar: Namespace).
unfoldable pub namespace : Members → Members → Parser Members
namespace notes found ts =
    and_then (path ts) (λ p us. and_then (expect k.LeftBrace us) (λ b vs. and_then (declarations_from (length vs) nothing vs) (λ s ws.
    before (put_once p (place ts) (object (space_of s notes)) found) ws)))

-- What was read of a schema: what is declared outside of namespaces, and the namespaces (own).
pub record Spaces : Type 0 where
  pub bare : Sections
  pub named : Members

-- A namespace or a declaration outside of one is read: Namespace | Decl (Cedar documentation, schema grammar: Schema).
unfoldable pub part : Members → Spaces → Parser Spaces
part notes r ts =
    if sees_word (codes "namespace") ts then and_then (namespace notes r.named (next ts)) (λ all us. Ok (record { bare = r.bare; named = all }, us))
    else and_then (declaration notes r.bare ts) (λ all us. Ok (record { bare = all; named = r.named }, us))

-- The parts of a schema are read in at most n turns, up to its end (Cedar documentation, schema grammar: Schema).
unfoldable pub parts_from : ℕ → Spaces → Parser Spaces
parts_from zero r ts = refused ts
parts_from (suc n) r ts = if sees k.End ts then Ok (r, ts) else and_then (annotations ts) (λ notes us. and_then (part notes r us) (λ more vs. parts_from n more vs))

-- The object of namespaces: what is declared outside of them is in the empty one, which is there if something is (Cedar
-- documentation, JSON schema format: namespaces).
unfoldable pub root_of : Spaces → Members
root_of r = if is_bare r.bare then r.named else put [] (object (space_of r.bare no_members)) r.named

-- A schema is read: { Annots ( Namespace | Decl ) } (Cedar documentation, schema grammar: Schema).
unfoldable pub schema : Parser Data
schema ts = and_then (parts_from (length ts) (record { bare = nothing; named = no_members }) ts) (λ r us. Ok (object (root_of r), us))
