-- The grammar of names, as relations. `R ts a us` says that the tokens from ts up to us are read as a.
--
--     Path     = IDENT { "::" IDENT }
--     Entity   = Path "::" STR
--     Key      = IDENT | STR
--     ANYIDENT = a word, reserved or not
--
-- (Cedar language reference, grammar)
use Rattle.std.specs.Prelude.{◌≡◌, ℕ, Bool, true, false, List, ◌∷◌, ◌++◌, Some, codes}
use Rattle.cedar_value.specs.declared.uid.Uid.{Uid}
use Rattle.cedar_text.specs.declared.token_kind.TokenKind.{TokenKind}
use Rattle.cedar_text.specs.declared.token_kind.TokenKind.TheVariants as k
use Rattle.cedar_parser_tokens.specs.declared.content.WrittenUid.{WrittenUid}
use Rattle.cedar_parser_tokens.specs.Content.{Content, text_of}
use Rattle.cedar_parser_tokens.specs.Marks.{Mark, Marks, content_of}

-- A rule of the grammar relates the tokens before what is read, what they are read as, and the tokens after it (own).
abbrev pub Rule : Type 0 → Type 1
Rule A = Marks → A → Marks → Type 0

-- The tokens ts are this token, which is of this kind, and then us (own).
pub record Takes (kind : TokenKind) (t : Mark) (ts us : Marks) : Type 0 where
  pub whole : ts ≡ t ∷ us
  pub is : t.kind ≡ kind

-- Whether a token of this kind is a word, reserved or not (Cedar language reference, grammar: ANYIDENT).
abbrev pub is_word_kind : TokenKind → Bool
is_word_kind k.True = true
is_word_kind k.False = true
is_word_kind k.If = true
is_word_kind k.Then = true
is_word_kind k.Else = true
is_word_kind k.In = true
is_word_kind k.Is = true
is_word_kind k.Like = true
is_word_kind k.Has = true
is_word_kind k.Identifier = true
is_word_kind _ = false

-- ---- texts, paths, uids

-- A string is read as the text that it denotes: STR (Cedar language reference, grammar: STR).
pub data Text : Marks → Content → Marks → Type 0 where
  string : {ts us : Marks} {t : Mark} → Takes k.String t ts us → Text ts (content_of t.letters) us

-- A key is read as the text that it denotes: IDENT | STR (Cedar language reference, grammar: RecInits).
pub data Key : Marks → Content → Marks → Type 0 where
  word : {ts us : Marks} {t : Mark} → Takes k.Identifier t ts us → Key ts (Some t.text) us
  string : {ts us : Marks} {c : Content} → Text ts c us → Key ts c us

-- A path is read as its text: IDENT { "::" IDENT } (Cedar language reference, grammar: Path).
pub data Path : Marks → List ℕ → Marks → Type 0 where
  word : {ts us : Marks} {t : Mark} → Takes k.Identifier t ts us → Path ts t.text us
  longer : {ts us vs ws : Marks} {p : List ℕ} {c t : Mark} → Path ts p us → Takes k.DoubleColon c us vs → Takes k.Identifier t vs ws → Path ts (p ++ codes "::" ++ t.text) ws

-- A uid is read as it is written: Path "::" STR (Cedar language reference, grammar: Entity).
pub data Entity : Marks → WrittenUid → Marks → Type 0 where
  entity : {ts us vs ws : Marks} {p : List ℕ} {s : Content} {c : Mark} → Path ts p us → Takes k.DoubleColon c us vs → Text vs s ws → Entity ts (record { ty = p; id = s }) ws

-- The uid that is written, with the empty id where its string denotes no text (Cedar language reference, grammar: Entity).
abbrev pub to_uid : WrittenUid → Uid
to_uid u = record { ty = u.ty; id = text_of u.id }
