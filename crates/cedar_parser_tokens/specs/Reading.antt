-- Reading names from left to right, looking at two tokens, as the functions of this crate do. The grammar in `specs/Names.antt`
-- says what a name is, and what a reader gives is proved to be that (own).
use Rattle.std.specs.Prelude.{ℕ, zero, suc, false, Bool, ◌&&◌, if◌then◌else◌, List, [], ◌∷◌, ◌++◌, length, Option, Some, None, Result, Ok, Err, option_and_then, codes}
use denote.Enum.Bare.{sameb}
use Rattle.cedar_text.specs.contracts.token_kind.TokenKind.{the_type}
use Rattle.cedar_text.specs.declared.token_kind.TokenKind.{TokenKind}
use Rattle.cedar_text.specs.declared.token_kind.TokenKind.TheVariants as k
use Rattle.cedar_parser_tokens.specs.declared.content.WrittenUid.{WrittenUid}
use Rattle.cedar_parser_tokens.specs.Content.{Content}
use Rattle.cedar_parser_tokens.specs.Marks.{Mark, Marks, content_of}
use Rattle.cedar_parser_tokens.specs.Names.{is_word_kind}

-- Why a reading stops: the grammar does not allow the next token, or a bracket or `if` nests too deep (own).
pub data Refusal : Type 0 where
  Syntax : Refusal
  TooDeep : Refusal

-- What a reading gives: what was read and the tokens after it, or a refusal (own).
abbrev pub Outcome : Type 0 → Type 0
Outcome A = Result (A × Marks) Refusal

-- One reading after another: the first refusal is that of both (own).
abbrev pub and_then : {A B : Type 0} → Outcome A → (A → Marks → Outcome B) → Outcome B
and_then (Ok p) f = f p.0 p.1
and_then (Err x) f = Err x

-- A reading gives an outcome for each list of tokens (own).
abbrev pub Parser : Type 0 → Type 0
Parser A = Marks → Outcome A

-- ---- tokens

-- Whether two tokens are of one kind (own).
abbrev pub same_kind : TokenKind → TokenKind → Bool
same_kind = sameb the_type

-- Whether the first token is of this kind (own).
unfoldable pub sees : TokenKind → Marks → Bool
sees kind [] = false
sees kind (t ∷ ts) = same_kind t.kind kind

-- The tokens after the first (own).
unfoldable pub next : Marks → Marks
next [] = []
next (t ∷ ts) = ts

-- The first token, if there is one (own).
unfoldable pub first : Marks → Option Mark
first [] = None
first (t ∷ ts) = Some t

-- The first token is read where it is of this kind (own).
unfoldable pub expect : TokenKind → Parser Mark
expect kind [] = Err Syntax
expect kind (t ∷ ts) = if same_kind t.kind kind then Ok (t, ts) else Err Syntax

-- The kind of the first token, if there is one (own).
unfoldable pub kind_at : Marks → Option TokenKind
kind_at [] = None
kind_at (t ∷ ts) = Some t.kind

-- The sign that the first token is, if it is one of these (own).
abbrev pub sign_at : {S : Type 0} → (TokenKind → Option S) → Marks → Option S
sign_at signs ts = option_and_then signs (kind_at ts)

-- What comes where there is no sign, and what comes where there is one (own).
abbrev pub on_some : {S B : Type 0} → Option S → B → (S → B) → B
on_some None stop go = stop
on_some (Some sign) stop go = go sign

-- The first token is read where it is a word, reserved or not (Cedar language reference, grammar: ANYIDENT).
unfoldable pub any_word : Parser Mark
any_word [] = Err Syntax
any_word (t ∷ ts) = if is_word_kind t.kind then Ok (t, ts) else Err Syntax

-- ---- texts, paths, uids

-- A string is read as the text that it denotes (Cedar language reference, grammar: STR).
unfoldable pub text : Parser Content
text ts = and_then (expect k.String ts) (λ t us. Ok (content_of t.letters, us))

-- A key is read as the text that it denotes (Cedar language reference, grammar: RecInits).
unfoldable pub key : Parser Content
key ts = if sees k.String ts then text ts else and_then (expect k.Identifier ts) (λ t us. Ok (Some t.text, us))

-- Whether a path goes on here: with `::` and an identifier (Cedar language reference, grammar: Path).
abbrev pub goes_on : Marks → Bool
goes_on ts = sees k.DoubleColon ts && sees k.Identifier (next ts)

-- The rest of a path is read in at most n turns, each of which takes `::` and an identifier (Cedar language reference, grammar:
-- Path).
unfoldable pub path_from : ℕ → List ℕ → Parser (List ℕ)
path_from zero p ts = Ok (p, ts)
path_from (suc n) p ts = if goes_on ts then and_then (expect k.Identifier (next ts)) (λ t us. path_from n (p ++ codes "::" ++ t.text) us) else Ok (p, ts)

-- A path is read as its text, as far as it goes on (Cedar language reference, grammar: Path).
unfoldable pub path : Parser (List ℕ)
path ts = and_then (expect k.Identifier ts) (λ t us. path_from (length us) t.text us)

-- The rest of a uid after its path, which is the name of its type, is read (Cedar language reference, grammar: Entity).
unfoldable pub uid_of : List ℕ → Parser WrittenUid
uid_of p ts = and_then (expect k.DoubleColon ts) (λ c us. and_then (text us) (λ s vs. Ok (record { ty = p; id = s }, vs)))

-- A uid is read as it is written (Cedar language reference, grammar: Entity).
unfoldable pub entity : Parser WrittenUid
entity ts = and_then (path ts) (λ p us. uid_of p us)
