-- The grammar of expressions, level by level. `R ts a us` says that the tokens from ts up to us are read as a.
--
--     Path     = IDENT { "::" IDENT }
--     Entity   = Path "::" STR
--     Expr     = "if" Expr "then" Expr "else" Expr | Or
--     Or       = And { "||" And }
--     And      = Relation { "&&" Relation }
--     Relation = Add [ ("<" | "<=" | ">" | ">=" | "==" | "!=" | "in") Add | "has" Attributes | "like" STR | "is" Path [ "in" Add ] ]
--     Attributes = STR | IDENT { "." IDENT }
--     Add      = Mult { ("+" | "-") Mult }
--     Mult     = Unary { "*" Unary }
--     Unary    = up to four "!" Member | up to four "-" Member
--     Member   = Primary { "." IDENT | "[" STR "]" | "." IDENT "(" Args ")" }
--     Primary  = "true" | "false" | NUMBER | STR | Entity | "principal" | "action" | "resource" | "context" | SLOT
--              | Path "(" Args ")" | "(" Expr ")" | "[" Args "]" | "{" [ Key ":" Expr { "," Key ":" Expr } ] "}"
--     Args     = [ Expr { "," Expr } ]
--     Key      = IDENT | STR
--
-- (Cedar language reference, grammar)
use Rattle.std.specs.Prelude.{◌≡◌, ℕ, zero, suc, ◌<◌, true, false, List, [], ◌∷◌, ◌++◌, Option, Some, None, codes, if◌then◌else◌}
use Rattle.std.specs.Str.{bytes_eq}
use Rattle.cedar_ast_expressions.specs.declared.variable.Variable.{Variable}
use Rattle.cedar_ast_expressions.specs.declared.variable.Variable.TheVariants as v
use Rattle.cedar_text.specs.declared.token_kind.TokenKind.{TokenKind}
use Rattle.cedar_text.specs.declared.token_kind.TokenKind.TheVariants as k
use Rattle.cedar_parser_tokens.specs.declared.content.WrittenUid.{WrittenUid}
use Rattle.cedar_parser_tree.specs.declared.sign.ChainSign.{ChainSign}
use Rattle.cedar_parser_tree.specs.declared.sign.ChainSign.TheVariants as chain_sign
use Rattle.cedar_parser_tree.specs.declared.sign.RelationSign.{RelationSign}
use Rattle.cedar_parser_tree.specs.declared.sign.RelationSign.TheVariants as relation_sign
use Rattle.cedar_parser_tree.specs.declared.written.Field.{Field}
use Rattle.cedar_parser_tree.specs.declared.written.Link.{Link}
use Rattle.cedar_parser_tree.specs.declared.written.Link.TheVariants.{Operand, Attribute, Method}
use Rattle.cedar_parser_tokens.specs.Marks.{Mark, Marks, pattern_of}
pub use Rattle.cedar_parser_tokens.specs.Names.{Rule, Takes, Text, Key, Path, Entity, string, word, longer, entity}
use Rattle.cedar_parser_tree.specs.Written as w
use Rattle.cedar_parser_tokens.specs.Content.{Content}
use Rattle.cedar_parser_tree.specs.Written.{Written, members_of}
use Rattle.cedar_parser_tree.specs.WrittenKind.{links_of, fields_of}

-- The tokens ts are a token of this kind, which opens where one more may be open, and then us (own).
pub record Opens (d : ℕ) (kind : TokenKind) (t : Mark) (ts us : Marks) : Type 0 where
  pub takes : Takes kind t ts us
  pub allowed : 0 < d

-- ---- lists

-- One or more items with commas between them: Item { "," Item } (Cedar language reference, grammar: ExprList).
pub data Series {A : Type 0} (Item : Rule A) : Marks → List A → Marks → Type 0 where
  one : {ts us : Marks} {a : A} → Item ts a us → Series Item ts (a ∷ []) us
  next : {ts us vs ws : Marks} {as' : List A} {a : A} {t : Mark} → Series Item ts as' us → Takes k.Comma t us vs → Item vs a ws → Series Item ts (as' ++ a ∷ []) ws

-- Items with commas between them, or none: [ Item { "," Item } ] (Cedar language reference, grammar: ExprList).
pub data Arguments {A : Type 0} (Item : Rule A) : Marks → List A → Marks → Type 0 where
  none : {ts : Marks} → Arguments Item ts [] ts
  some : {ts us : Marks} {as' : List A} → Series Item ts as' us → Arguments Item ts as' us

-- An entry of a record: Key ":" Expr (Cedar language reference, grammar: RecInits).
pub data Entry (Inner : Rule Written) : Marks → Field → Marks → Type 0 where
  entry : {ts us vs ws : Marks} {c : Content} {a : Written} {t : Mark} → Key ts c us → Takes k.Colon t us vs → Inner vs a ws → Entry Inner ts (record { key = c; value = a }) ws

-- ---- what follows `has`

-- The attributes that follow the first one after `has`: { "." IDENT } (Cedar language reference, operators: has).
pub data Further : Marks → List (List ℕ) → Marks → Type 0 where
  none : {ts : Marks} → Further ts [] ts
  more : {ts us vs ws : Marks} {names : List (List ℕ)} {p t : Mark} → Further ts names us → Takes k.Dot p us vs → Takes k.Identifier t vs ws → Further ts (names ++ t.text ∷ []) ws

-- What follows `has`, as the first attribute and the further ones: STR | IDENT { "." IDENT } (Cedar language reference,
-- operators: has).
pub data Attributes : Marks → Content × List (List ℕ) → Marks → Type 0 where
  quoted : {ts us : Marks} {c : Content} → Text ts c us → Attributes ts (c, []) us
  words : {ts us vs : Marks} {t : Mark} {names : List (List ℕ)} → Takes k.Identifier t ts us → Further us names vs → Attributes ts (Some t.text, names) vs

-- ---- expressions

-- The variable of a word: principal, action, resource or context (Cedar language reference, grammar: VAR).
abbrev pub variable_of : List ℕ → Option Variable
variable_of name =
    if bytes_eq name (codes "principal") then Some v.Principal
    else (if bytes_eq name (codes "action") then Some v.Action
    else (if bytes_eq name (codes "resource") then Some v.Resource else (if bytes_eq name (codes "context") then Some v.Context else None)))

-- The variable whose slot a token is: `?principal` or `?resource` (Cedar language reference, grammar: SLOT).
abbrev pub slot_of : List ℕ → Option Variable
slot_of name = if bytes_eq name (codes "?principal") then Some v.Principal else (if bytes_eq name (codes "?resource") then Some v.Resource else None)

-- A primary, where d more brackets may open and Inner is what may be inside them (Cedar language reference, grammar: Primary).
pub data Primary (d : ℕ) (Inner : Rule Written) : Marks → Written → Marks → Type 0 where
  yes : {ts us : Marks} {t : Mark} → Takes k.True t ts us → Primary d Inner ts (w.truth true) us
  no : {ts us : Marks} {t : Mark} → Takes k.False t ts us → Primary d Inner ts (w.truth false) us
  number : {ts us : Marks} {t : Mark} → Takes k.Number t ts us → Primary d Inner ts (w.number t.number) us
  text : {ts us : Marks} {c : Content} → Text ts c us → Primary d Inner ts (w.text c) us
  uid : {ts us : Marks} {u : WrittenUid} → Entity ts u us → Primary d Inner ts (w.entity u) us
  variable : {ts us : Marks} {t : Mark} {x : Variable} → Takes k.Identifier t ts us → variable_of t.text ≡ Some x → Primary d Inner ts (w.variable x) us
  slot : {ts us : Marks} {t : Mark} {x : Variable} → Takes k.Slot t ts us → slot_of t.text ≡ Some x → Primary d Inner ts (w.slot x) us
  call : {ts us vs ws xs : Marks} {l r : Mark} {p : List ℕ} {as' : List Written} → Path ts p us → Opens d k.LeftParen l us vs → Arguments Inner vs as' ws → Takes k.RightParen r ws xs
      → Primary d Inner ts (w.call p (members_of as')) xs
  group : {ts us vs ws : Marks} {l r : Mark} {a : Written} → Opens d k.LeftParen l ts us → Inner us a vs → Takes k.RightParen r vs ws → Primary d Inner ts (w.group a) ws
  set : {ts us vs ws : Marks} {l r : Mark} {as' : List Written} → Opens d k.LeftBracket l ts us → Arguments Inner us as' vs → Takes k.RightBracket r vs ws
      → Primary d Inner ts (w.set (members_of as')) ws
  record_of : {ts us vs ws : Marks} {l r : Mark} {fs : List Field} → Opens d k.LeftBrace l ts us → Arguments (Entry Inner) us fs vs → Takes k.RightBrace r vs ws
      → Primary d Inner ts (w.record_of (fields_of fs)) ws

-- A primary and what follows it, each an attribute, an index or a method (Cedar language reference, grammar: Member, Access).
pub data Suffixes (d : ℕ) (Inner : Rule Written) : Marks → Written → List Link → Marks → Type 0 where
  first : {ts us : Marks} {a : Written} → Primary d Inner ts a us → Suffixes d Inner ts a [] us
  attribute : {ts us vs ws : Marks} {a : Written} {ls : List Link} {p t : Mark} → Suffixes d Inner ts a ls us → Takes k.Dot p us vs → Takes k.Identifier t vs ws
      → Suffixes d Inner ts a (ls ++ Attribute (Some t.text) ∷ []) ws
  index : {ts us vs ws xs : Marks} {a : Written} {ls : List Link} {l r : Mark} {c : Content} → Suffixes d Inner ts a ls us → Opens d k.LeftBracket l us vs → Text vs c ws
      → Takes k.RightBracket r ws xs → Suffixes d Inner ts a (ls ++ Attribute c ∷ []) xs
  method : {ts us vs ws xs ys zs : Marks} {a : Written} {ls : List Link} {p t l r : Mark} {as' : List Written} → Suffixes d Inner ts a ls us → Takes k.Dot p us vs
      → Takes k.Identifier t vs ws → Opens d k.LeftParen l ws xs → Arguments Inner xs as' ys → Takes k.RightParen r ys zs
      → Suffixes d Inner ts a (ls ++ Method t.text as' ∷ []) zs

-- A lone operand as it is, and one with links after it as a chain (own).
abbrev pub chained : Written → List Link → Written
chained a [] = a
chained a (l ∷ ls) = w.chain a (links_of (l ∷ ls))

-- A primary with what follows it, as one tree (Cedar language reference, grammar: Member).
pub data Member (d : ℕ) (Inner : Rule Written) : Marks → Written → Marks → Type 0 where
  suffixes : {ts us : Marks} {a : Written} {ls : List Link} → Suffixes d Inner ts a ls us → Member d Inner ts (chained a ls) us

-- A member after up to n of the sign, each of which makes a tree of what follows it (Cedar language reference, grammar: Unary).
pub data Signed (d : ℕ) (Inner : Rule Written) (sign : TokenKind) (signed_as : Written → Written) : ℕ → Marks → Written → Marks → Type 0 where
  bare : {n : ℕ} {ts us : Marks} {a : Written} → Member d Inner ts a us → Signed d Inner sign signed_as n ts a us
  signed : {n : ℕ} {ts us vs : Marks} {t : Mark} {a : Written} → Takes sign t ts us → Signed d Inner sign signed_as n us a vs → Signed d Inner sign signed_as (suc n) ts (signed_as a) vs

-- A member after up to four `!` or up to four `-` (Cedar language reference, grammar: Unary).
pub data Unary (d : ℕ) (Inner : Rule Written) : Marks → Written → Marks → Type 0 where
  nots : {ts us : Marks} {a : Written} → Signed d Inner k.Not w.not 4 ts a us → Unary d Inner ts a us
  minuses : {ts us : Marks} {a : Written} → Signed d Inner k.Minus w.minus 4 ts a us → Unary d Inner ts a us

-- The first operand, and each sign with the operand after it: Item { sign Item } (Cedar language reference, grammar: Or, And,
-- Add, Mult).
pub data Operands (signs : TokenKind → Option ChainSign) (Item : Rule Written) : Marks → Written → List Link → Marks → Type 0 where
  first : {ts us : Marks} {a : Written} → Item ts a us → Operands signs Item ts a [] us
  more : {ts us vs : Marks} {a b : Written} {ls : List Link} {t : Mark} {sign : ChainSign} → Operands signs Item ts a ls (t ∷ us) → signs t.kind ≡ Some sign → Item us b vs
      → Operands signs Item ts a (ls ++ Operand sign b ∷ []) vs

-- Operands with these signs between them, as one tree (Cedar language reference, grammar: Or, And, Add, Mult).
pub data Chain (signs : TokenKind → Option ChainSign) (Item : Rule Written) : Marks → Written → Marks → Type 0 where
  operands : {ts us : Marks} {a : Written} {ls : List Link} → Operands signs Item ts a ls us → Chain signs Item ts (chained a ls) us

-- The sign between the operands of Or: `||` (Cedar language reference, grammar: Or).
abbrev pub or_sign : TokenKind → Option ChainSign
or_sign k.OrOr = Some chain_sign.Or
or_sign _ = None

-- The sign between the operands of And: `&&` (Cedar language reference, grammar: And).
abbrev pub and_sign : TokenKind → Option ChainSign
and_sign k.AndAnd = Some chain_sign.And
and_sign _ = None

-- The signs between the operands of a sum: `+` and `-` (Cedar language reference, grammar: Add).
abbrev pub add_sign : TokenKind → Option ChainSign
add_sign k.Plus = Some chain_sign.Plus
add_sign k.Minus = Some chain_sign.Minus
add_sign _ = None

-- The sign between the operands of a product: `*` (Cedar language reference, grammar: Mult).
abbrev pub mult_sign : TokenKind → Option ChainSign
mult_sign k.Star = Some chain_sign.Times
mult_sign _ = None

-- The signs between the two operands of a relation (Cedar language reference, grammar: RELOP).
abbrev pub relation_sign_of : TokenKind → Option RelationSign
relation_sign_of k.Less = Some relation_sign.Less
relation_sign_of k.LessEqual = Some relation_sign.LessEqual
relation_sign_of k.Greater = Some relation_sign.Greater
relation_sign_of k.GreaterEqual = Some relation_sign.GreaterEqual
relation_sign_of k.Equal = Some relation_sign.Equal
relation_sign_of k.NotEqual = Some relation_sign.NotEqual
relation_sign_of k.In = Some relation_sign.In
relation_sign_of _ = None

-- A product: Unary { "*" Unary } (Cedar language reference, grammar: Mult).
abbrev pub Mult : ℕ → Rule Written → Rule Written
Mult d Inner = Chain mult_sign (Unary d Inner)

-- A sum: Mult { ("+" | "-") Mult } (Cedar language reference, grammar: Add).
abbrev pub Add : ℕ → Rule Written → Rule Written
Add d Inner = Chain add_sign (Mult d Inner)

-- A sum alone, two sums with a sign between them, or a sum with what `has`, `like` or `is` say of it (Cedar language reference,
-- grammar: Relation).
pub data Relation (d : ℕ) (Inner : Rule Written) : Marks → Written → Marks → Type 0 where
  alone : {ts us : Marks} {a : Written} → Add d Inner ts a us → Relation d Inner ts a us
  pair : {ts us vs : Marks} {a b : Written} {t : Mark} {sign : RelationSign} → Add d Inner ts a (t ∷ us) → relation_sign_of t.kind ≡ Some sign → Add d Inner us b vs
      → Relation d Inner ts (w.relation sign a b) vs
  has : {ts us vs ws : Marks} {a : Written} {path : Content × List (List ℕ)} {t : Mark} → Add d Inner ts a us → Takes k.Has t us vs → Attributes vs path ws → Relation d Inner ts (w.has a path.0 path.1) ws
  like : {ts us vs ws : Marks} {a : Written} {t s : Mark} → Add d Inner ts a us → Takes k.Like t us vs → Takes k.String s vs ws → Relation d Inner ts (w.like a (pattern_of s.letters)) ws
  is : {ts us vs ws : Marks} {a : Written} {ty : List ℕ} {t : Mark} → Add d Inner ts a us → Takes k.Is t us vs → Path vs ty ws → Relation d Inner ts (w.is a ty) ws
  is_in : {ts us vs ws xs ys : Marks} {a b : Written} {ty : List ℕ} {t s : Mark} → Add d Inner ts a us → Takes k.Is t us vs → Path vs ty ws → Takes k.In s ws xs → Add d Inner xs b ys
      → Relation d Inner ts (w.is_in a ty b) ys

-- Relations with `&&` between them: Relation { "&&" Relation } (Cedar language reference, grammar: And).
abbrev pub And : ℕ → Rule Written → Rule Written
And d Inner = Chain and_sign (Relation d Inner)

-- Ands with `||` between them: And { "||" And } (Cedar language reference, grammar: Or).
abbrev pub Or : ℕ → Rule Written → Rule Written
Or d Inner = Chain or_sign (And d Inner)

-- An Or, or `if`, `then` and `else` with an expression each, inside which one more is open (Cedar language reference, grammar:
-- Expr).
pub data Expression (d : ℕ) (Inner : Rule Written) : Marks → Written → Marks → Type 0 where
  or : {ts us : Marks} {a : Written} → Or d Inner ts a us → Expression d Inner ts a us
  choice : {ts c0 c1 a0 a1 b0 us : Marks} {i t e : Mark} {c a b : Written} → Opens d k.If i ts c0 → Inner c0 c c1 → Takes k.Then t c1 a0 → Inner a0 a a1 → Takes k.Else e a1 b0 → Inner b0 b us
      → Expression d Inner ts (w.choice c a b) us

-- An expression with less than d brackets and `if`s open at one place (Cedar language reference, grammar: Expr; own in the
-- limit).
abbrev pub Nested : ℕ → Rule Written
Nested zero = λ ts a us. ⊥
Nested (suc d) = Expression d (Nested d)
