-- The spellings that Cedar 4 has beside those of the profile: a comma after the last item of a list, an annotation without a value, and
-- a reserved word as the name of an attribute. The normal tokens are those that spell the same in the profile (Cedar language
-- reference, grammar).
use Rattle.std.specs.Prelude.{ℕ, ◌-◌, Bool, true, false, not, ◌&&◌, ◌||◌, if◌then◌else◌, List, [], ◌∷◌, ◌++◌, take, length, codes, Option, Some, None, unwrap_or}
use Rattle.std.specs.List.{slice_get}
use Rattle.cedar_text.specs.declared.normal.Before.{Before}
use Rattle.cedar_text.specs.declared.normal.Before.TheVariants as before
use Rattle.cedar_text.specs.declared.token_kind.TokenKind.{TokenKind}
use Rattle.cedar_text.specs.declared.token_kind.TokenKind.TheVariants as k
use Rattle.cedar_text.specs.Lexeme.{Lexeme, Lexemes}

-- Whether a token of this kind is a reserved word (Cedar language reference, grammar: RESERVED).
abbrev pub is_reserved : TokenKind → Bool
is_reserved k.True = true
is_reserved k.False = true
is_reserved k.If = true
is_reserved k.Then = true
is_reserved k.Else = true
is_reserved k.In = true
is_reserved k.Is = true
is_reserved k.Like = true
is_reserved k.Has = true
is_reserved _ = false

-- Whether a token of this kind closes a bracket (Cedar language reference, grammar).
abbrev pub is_closing : Option TokenKind → Bool
is_closing (Some k.RightParen) = true
is_closing (Some k.RightBracket) = true
is_closing (Some k.RightBrace) = true
is_closing _ = false

-- Whether the next token is a colon, before which a record has a key (Cedar language reference, grammar: RecInits).
abbrev pub is_colon : Option TokenKind → Bool
is_colon (Some k.Colon) = true
is_colon _ = false

-- Whether the next token opens arguments, or the value of an annotation (Cedar language reference, grammar: Member, Annotation).
abbrev pub is_left_paren : Option TokenKind → Bool
is_left_paren (Some k.LeftParen) = true
is_left_paren _ = false

-- The kind of the first token, if there is one (own).
abbrev pub first_kind : Lexemes → Option TokenKind
first_kind [] = None
first_kind (t ∷ ts) = Some t.kind

-- What is before a token that comes after one of this kind (Cedar language reference, grammar).
abbrev pub after_kind : TokenKind → Before
after_kind k.At = before.Sign
after_kind k.Dot = before.Access
after_kind k.Has = before.Access
after_kind k.Identifier = before.Word
after_kind k.True = before.Operand
after_kind k.False = before.Operand
after_kind k.Number = before.Operand
after_kind k.String = before.Operand
after_kind k.Slot = before.Operand
after_kind k.RightParen = before.Operand
after_kind k.RightBracket = before.Operand
after_kind k.RightBrace = before.Operand
after_kind _ = before.Other

-- The same, where the token after an `@` is the key of an annotation (Cedar language reference, grammar: Annotation).
abbrev pub after : Before → TokenKind → Before
after before.Sign kind = before.Key
after _ kind = after_kind kind

-- Whether an operand, or an item of a list, may end before the token (Cedar language reference, grammar: Member).
abbrev pub ends_item : Before → Bool
ends_item before.Word = true
ends_item before.Operand = true
ends_item _ = false

-- Whether the name of an attribute is wanted (Cedar language reference, grammar: Access; operators: has).
abbrev pub is_access : Before → Bool
is_access before.Access = true
is_access _ = false

-- Whether the key of a record may be here: after neither a word, an operand, a `.`, `has` nor an `@` (Cedar language reference, grammar:
-- RecInits).
abbrev pub may_be_key : Before → Bool
may_be_key before.Other = true
may_be_key _ = false

-- Whether the token comes right after an `@` (Cedar language reference, grammar: Annotation).
abbrev pub is_sign : Before → Bool
is_sign before.Sign = true
is_sign _ = false

-- Whether the token comes right after an identifier that is not the key of an annotation (own).
abbrev pub is_word : Before → Bool
is_word before.Word = true
is_word _ = false

-- ---- words

-- The kind of a token: a reserved word is an identifier where it is the key of a record, or the name of an attribute. A method may not
-- be called so (Cedar language reference, grammar: IDENT, Access, RecInits).
abbrev pub normal_kind : Before → TokenKind → Option TokenKind → TokenKind
normal_kind b kind next = if is_reserved kind && ((may_be_key b && is_colon next) || (is_access b && not (is_left_paren next))) then k.Identifier else kind

-- ---- annotations

-- A token of this kind and text, at a place (own).
abbrev pub token_at : ℕ → TokenKind → List ℕ → Lexeme
token_at start kind text = record { kind = kind; start = start; text = text; number = 0 }

-- The tokens of `("")`, at a place (Cedar language reference, grammar: Annotation).
abbrev pub empty_value : ℕ → Lexemes
empty_value start = token_at start k.LeftParen (codes "(") ∷ token_at start k.String (codes "\"\"") ∷ token_at start k.RightParen (codes ")") ∷ []

-- What comes after a token: the empty value, where it is the key of an annotation that has none (Cedar language reference, grammar:
-- Annotation).
abbrev pub value_after : Before → ℕ → Option TokenKind → Lexemes
value_after b start next = if is_sign b && not (is_left_paren next) then empty_value start else []

-- ---- commas

-- Whether a bracket of this kind opens a list: arguments or a scope come after a word, a set where no operand ends, and a record where no
-- word ends (Cedar language reference, grammar: Scope, Member, Primary).
abbrev pub opens_list : Before → TokenKind → Bool
opens_list b k.LeftParen = is_word b
opens_list b k.LeftBracket = not (ends_item b)
opens_list b k.LeftBrace = not (is_word b)
opens_list b _ = false

-- For each bracket that is open after a token, the outermost first, whether it opens a list (own).
abbrev pub opened : Before → List Bool → TokenKind → List Bool
opened b lists k.LeftParen = lists ++ opens_list b k.LeftParen ∷ []
opened b lists k.LeftBracket = lists ++ opens_list b k.LeftBracket ∷ []
opened b lists k.LeftBrace = lists ++ opens_list b k.LeftBrace ∷ []
opened b lists k.RightParen = take (length lists - 1) lists
opened b lists k.RightBracket = take (length lists - 1) lists
opened b lists k.RightBrace = take (length lists - 1) lists
opened b lists _ = lists

-- Whether the innermost bracket that is open opens a list (own).
abbrev pub is_in_list : List Bool → Bool
is_in_list lists = unwrap_or (slice_get lists (length lists - 1)) false

-- Whether the token is a comma between the last item of a list and the bracket that closes it (Cedar language reference, grammar:
-- Scope, ExprList, RecInits).
abbrev pub is_last_comma : Before → List Bool → TokenKind → Option TokenKind → Bool
is_last_comma b lists k.Comma next = ends_item b && (is_in_list lists && is_closing next)
is_last_comma b lists _ next = false

-- ---- all tokens

-- The normal tokens of a token: itself, of its kind, and the empty value where it is the key of an annotation without one (Cedar language
-- reference, grammar).
abbrev pub normal_token : Before → Lexeme → Option TokenKind → Lexemes
normal_token b t next = record { kind = normal_kind b t.kind next; start = t.start; text = t.text; number = t.number } ∷ value_after b t.start next

-- The normal tokens of these, which come after what is before them, inside the brackets that are open (Cedar language reference,
-- grammar).
unfoldable pub normal_from : Before → List Bool → Lexemes → Lexemes
normal_from b lists [] = []
normal_from b lists (t ∷ ts) =
    if is_last_comma b lists t.kind (first_kind ts) then normal_from b lists ts
    else (normal_token b t (first_kind ts) ++ normal_from (after b (normal_kind b t.kind (first_kind ts))) (opened b lists t.kind) ts)

-- The normal tokens of a whole text (Cedar language reference, grammar).
abbrev pub normal : Lexemes → Lexemes
normal ts = normal_from before.Other [] ts
