-- Reading tokens from left to right: what each rule of the grammar is written with (own).
use Rattle.std.specs.Prelude.{ℕ, zero, suc, false, Bool, ◌&&◌, if◌then◌else◌, List, [], ◌∷◌, length, Result, Ok, Err}
use Rattle.std.specs.Str.{bytes_eq}
use denote.Enum.Bare.{sameb}
use Rattle.serde_json.specs.Data.{Data, Members, put}
use Rattle.cedar_schema_text.specs.contracts.token_kind.TokenKind.{the_type}
use Rattle.cedar_schema_text.specs.declared.token_kind.TokenKind.{TokenKind}
use Rattle.cedar_schema_text.specs.declared.token_kind.TokenKind.TheVariants as k
use Rattle.cedar_schema_text.specs.declared.fault.SchemaTextFault.{SchemaTextFault}
use Rattle.cedar_schema_text.specs.declared.fault.SchemaTextFault.TheVariants as f
use Rattle.cedar_schema_text.specs.Marks.{Mark, Marks}

-- What a reading gives: what was read and the tokens after it, or a refusal (own).
abbrev pub Outcome : Type 0 → Type 0
Outcome A = Result (A × Marks) SchemaTextFault

-- A reading gives an outcome for each list of tokens (own).
abbrev pub Parser : Type 0 → Type 0
Parser A = Marks → Outcome A

-- One reading after another: the first refusal is that of both (own).
abbrev pub and_then : {A B : Type 0} → Outcome A → (A → Marks → Outcome B) → Outcome B
and_then (Ok p) go = go p.0 p.1
and_then (Err fault) go = Err fault

-- A result, before these tokens (own).
abbrev pub before : {A : Type 0} → Result A SchemaTextFault → Parser A
before (Ok a) ts = Ok (a, ts)
before (Err fault) ts = Err fault

-- The place of the first token (own).
unfoldable pub place : Marks → ℕ
place [] = 0
place (t ∷ ts) = t.start

-- The fault of the first token, which the grammar does not allow here (own).
abbrev pub refusal : Marks → SchemaTextFault
refusal ts = f.Syntax (place ts)

-- The first token is refused (own).
abbrev pub refused : {A : Type 0} → Parser A
refused ts = Err (refusal ts)

-- Whether two tokens are of one kind (own).
abbrev pub same_kind : TokenKind → TokenKind → Bool
same_kind = sameb the_type

-- Whether the first token is of this kind (own).
unfoldable pub sees : TokenKind → Marks → Bool
sees kind [] = false
sees kind (t ∷ ts) = same_kind t.kind kind

-- Whether the first token is this word (own).
unfoldable pub sees_word : List ℕ → Marks → Bool
sees_word word [] = false
sees_word word (t ∷ ts) = same_kind t.kind k.Word && bytes_eq t.text word

-- The tokens after the first (own).
unfoldable pub next : Marks → Marks
next [] = []
next (t ∷ ts) = ts

-- The first token is read where it is of this kind (own).
unfoldable pub expect : TokenKind → Parser Mark
expect kind [] = Err (f.Syntax 0)
expect kind (t ∷ ts) = if same_kind t.kind kind then Ok (t, ts) else Err (f.Syntax t.start)

-- ---- lists

module _ {S : Type 0} (item : S → Parser S) (closer : TokenKind) where
  -- Items are read in at most n turns, each with the comma after it, up to the token that closes the list. The last one needs no
  -- comma (own).
  unfoldable pub items_from : ℕ → S → Parser S
  items_from zero found ts = refused ts
  items_from (suc n) found ts =
      if sees closer ts then Ok (found, next ts)
      else and_then (item found ts) (λ more us. if sees k.Comma us then items_from n more (next us) else and_then (expect closer us) (λ c vs. Ok (more, vs)))

  -- Items are read, perhaps none, with commas between them and perhaps one after the last, and then the token that closes the
  -- list: { item "," } [ item ] closer (own).
  abbrev pub items : S → Parser S
  items found ts = items_from (length ts) found ts

  -- The same, of at least one item: item { "," item } [ "," ] closer (own).
  unfoldable pub some_items : S → Parser S
  some_items found ts = if sees closer ts then refused ts else items found ts

-- One item is read, or some in square brackets: item | "[" [ item { "," item } [ "," ] ] "]" (own).
unfoldable pub one_or_more : {A : Type 0} → (List A → Parser (List A)) → Parser (List A)
one_or_more item ts = if sees k.LeftBracket ts then items item k.RightBracket [] (next ts) else item [] ts

-- A value is read, and put at a key of an object (own).
abbrev pub member_at : List ℕ → Members → Parser Data → Parser Members
member_at key found value ts = and_then (value ts) (λ d us. Ok (put key d found, us))
