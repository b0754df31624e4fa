-- Reading expressions from left to right, looking at two tokens, as the functions of this crate do. The grammar in
-- `specs/Grammar.antt` says what an expression is, and what a reading gives is proved to be that (own).
use Rattle.std.specs.Prelude.{ℕ, zero, suc, true, false, Bool, ◌||◌, ◌==◌, if◌then◌else◌, List, [], ◌∷◌, ◌++◌, length, Option, Some, None, Ok, Err}
use Rattle.cedar_text.specs.declared.token_kind.TokenKind.{TokenKind}
use Rattle.cedar_text.specs.declared.token_kind.TokenKind.TheVariants as k
use Rattle.cedar_ast_expressions.specs.declared.variable.Variable.{Variable}
use Rattle.cedar_parser_expressions.specs.declared.chain_level.ChainLevel.{ChainLevel}
use Rattle.cedar_parser_expressions.specs.declared.chain_level.ChainLevel.TheVariants as level
use Rattle.cedar_parser_tree.specs.declared.sign.ChainSign.{ChainSign}
use Rattle.cedar_parser_tree.specs.declared.written.Field.{Field}
use Rattle.cedar_parser_tree.specs.declared.written.Link.{Link}
use Rattle.cedar_parser_tree.specs.declared.written.Link.TheVariants.{Operand, Attribute, Method}
use Rattle.cedar_ext.specs.declared.pattern.Element.{Element}
use Rattle.cedar_parser_tokens.specs.Marks.{Mark, Marks, pattern_of}
pub use Rattle.cedar_parser_tokens.specs.Reading.{Refusal, Syntax, TooDeep, Outcome, and_then, Parser, same_kind, sign_at, on_some, goes_on}
unfoldable pub use Rattle.cedar_parser_tokens.specs.Reading.{sees, next, first, expect, kind_at, text, key, path_from, path, uid_of, entity}
use Rattle.cedar_parser_tokens.specs.Content.{Content}
use Rattle.cedar_parser_tree.specs.Written as w
use Rattle.cedar_parser_tree.specs.Written.{Written, members_of}
use Rattle.cedar_parser_tree.specs.WrittenKind.{fields_of}
use Rattle.cedar_parser_expressions.specs.Grammar.{variable_of, slot_of, chained, or_sign, and_sign, add_sign, mult_sign, relation_sign_of}

-- A reading goes past a token that opens where d more may, and is refused where none may (own).
unfoldable pub open_one : ℕ → Parser (Unit {0})
open_one d ts = if d == 0 then Err TooDeep else Ok (tt, next ts)

-- ---- lists

module _ {A : Type 0} (item : Parser A) where
  -- The rest of a series is read in at most n turns, each of which takes a comma and an item (own).
  unfoldable pub series_from : ℕ → List A → Parser (List A)
  series_from zero found ts = Ok (found, ts)
  series_from (suc n) found ts = if sees k.Comma ts then and_then (item (next ts)) (λ a us. series_from n (found ++ a ∷ []) us) else Ok (found, ts)

  -- A series is read, as far as it goes on (Cedar language reference, grammar: ExprList).
  abbrev pub series : Parser (List A)
  series ts = and_then (item ts) (λ a us. series_from (length us) (a ∷ []) us)

  -- Items, perhaps none, are read with the token that closes them (Cedar language reference, grammar: ExprList).
  unfoldable pub arguments : TokenKind → Parser (List A)
  arguments closer ts = if sees closer ts then Ok ([], next ts) else and_then (series ts) (λ found us. and_then (expect closer us) (λ r vs. Ok (found, vs)))

-- ---- expressions

-- The signs of a level of chains (Cedar language reference, grammar: Or, And, Add, Mult).
abbrev pub signs_of : ChainLevel → TokenKind → Option ChainSign
signs_of level.Or = or_sign
signs_of level.And = and_sign
signs_of level.Add = add_sign
signs_of level.Mult = mult_sign

-- The first operand, and the links that were read after it (own).
abbrev pub behind : Written → Outcome (List Link) → Outcome Written
behind a o = and_then o (λ ls us. Ok (chained a ls, us))

module _ (signs : TokenKind → Option ChainSign) (item : Parser Written) where
  -- The rest of a chain is read in at most n turns, each of which takes a sign and an operand (own).
  unfoldable pub links_from : ℕ → List Link → Parser (List Link)
  links_from zero ls ts = Ok (ls, ts)
  links_from (suc n) ls ts = on_some (sign_at signs ts) (Ok (ls, ts)) (λ sign. and_then (item (next ts)) (λ b us. links_from n (ls ++ Operand sign b ∷ []) us))

  -- The signs of a chain and the operands after them are read, as far as it goes on (Cedar language reference, grammar: Or,
  -- And, Add, Mult).
  abbrev pub links : Parser (List Link)
  links ts = links_from (length ts) [] ts

  -- A chain is read: an operand and what follows it (Cedar language reference, grammar: Or, And, Add, Mult).
  abbrev pub chain : Parser Written
  chain ts = and_then (item ts) (λ a us. behind a (links us))

-- A word that is a variable is read as it, and another one is refused (own).
abbrev pub variable_read : Option Variable → Parser Written
variable_read None ts = Err Syntax
variable_read (Some x) ts = Ok (w.variable x, ts)

-- A variable is read (Cedar language reference, grammar: VAR).
unfoldable pub variable : Parser Written
variable ts = and_then (expect k.Identifier ts) (λ t us. variable_read (variable_of t.text) us)

-- A slot of a variable is read as it, and another one is refused (own).
abbrev pub slot_read : Option Variable → Parser Written
slot_read None ts = Err Syntax
slot_read (Some x) ts = Ok (w.slot x, ts)

-- A slot is read (Cedar language reference, grammar: SLOT).
unfoldable pub slot : Parser Written
slot ts = and_then (expect k.Slot ts) (λ t us. slot_read (slot_of t.text) us)

-- Whether a path begins here and not a lone word: whether `::` or `(` comes after the word (own).
abbrev pub begins_path : Marks → Bool
begins_path ts = sees k.DoubleColon (next ts) || sees k.LeftParen (next ts)

-- An entry of a record is read (Cedar language reference, grammar: RecInits).
unfoldable pub entry : Parser Written → Parser Field
entry inner ts = and_then (key ts) (λ c us. and_then (expect k.Colon us) (λ t vs. and_then (inner vs) (λ a ws. Ok (record { key = c; value = a }, ws))))

-- Whether a member goes on here: with a dot or an opening bracket (Cedar language reference, grammar: Access).
abbrev pub has_suffix : Marks → Bool
has_suffix ts = sees k.Dot ts || sees k.LeftBracket ts

-- Further attributes are read in at most n turns, each of which takes a dot and a word (own).
unfoldable pub further_from : ℕ → List (List ℕ) → Parser (List (List ℕ))
further_from zero names ts = Ok (names, ts)
further_from (suc n) names ts = if sees k.Dot ts then and_then (expect k.Identifier (next ts)) (λ t us. further_from n (names ++ t.text ∷ []) us) else Ok (names, ts)

-- The attributes that follow the first one after `has` are read, as far as they go on (Cedar language reference, operators:
-- has).
unfoldable pub further : Parser (List (List ℕ))
further ts = further_from (length ts) [] ts

-- The attributes after `has` are read (Cedar language reference, operators: has).
unfoldable pub attributes : Parser (Content × List (List ℕ))
attributes ts =
    if sees k.String ts then and_then (text ts) (λ c us. Ok ((c, []), us))
    else and_then (expect k.Identifier ts) (λ t us. and_then (further us) (λ names vs. Ok ((Some t.text, names), vs)))

-- What follows `has` is read, with the operand to its left (Cedar language reference, grammar: Relation).
unfoldable pub asked : Written → Parser Written
asked left ts = and_then (attributes ts) (λ path us. Ok (w.has left path.0 path.1, us))

-- What follows `like` is read as a pattern (Cedar language reference, operators: like).
unfoldable pub pattern : Parser (List Element)
pattern ts = and_then (expect k.String ts) (λ t us. Ok (pattern_of t.letters, us))

-- What follows `like` is read, with the operand to its left (Cedar language reference, grammar: Relation).
unfoldable pub matched : Written → Parser Written
matched left ts = and_then (pattern ts) (λ p us. Ok (w.like left p, us))

-- A string between brackets is read as an attribute (Cedar language reference, grammar: Access).
unfoldable pub indexed : ℕ → Parser Link
indexed d ts = and_then (open_one d ts) (λ o us. and_then (text us) (λ c vs. and_then (expect k.RightBracket vs) (λ r ws. Ok (Attribute c, ws))))

-- d more brackets may open, and inner reads what is inside them
module _ (d : ℕ) (inner : Parser Written) where
  -- An expression in brackets is read (Cedar language reference, grammar: Primary).
  unfoldable pub group : Parser Written
  group ts = and_then (open_one d ts) (λ o us. and_then (inner us) (λ a vs. and_then (expect k.RightParen vs) (λ r ws. Ok (w.group a, ws))))

  -- A set is read (Cedar language reference, grammar: Primary).
  unfoldable pub set : Parser Written
  set ts = and_then (open_one d ts) (λ o us. and_then (arguments inner k.RightBracket us) (λ found vs. Ok (w.set (members_of found), vs)))

  -- A record is read (Cedar language reference, grammar: Primary).
  unfoldable pub record_of : Parser Written
  record_of ts = and_then (open_one d ts) (λ o us. and_then (arguments (entry inner) k.RightBrace us) (λ found vs. Ok (w.record_of (fields_of found), vs)))

  -- The arguments of a function or a method are read (Cedar language reference, grammar: ExprList).
  unfoldable pub called : Parser (List Written)
  called ts = and_then (open_one d ts) (λ o us. arguments inner k.RightParen us)

  -- What begins with a path is read: the call of a function, or a uid (Cedar language reference, grammar: Primary).
  unfoldable pub with_path : Parser Written
  with_path ts =
      and_then (path ts) (λ p us. if sees k.LeftParen us then and_then (called us) (λ found vs. Ok (w.call p (members_of found), vs))
      else and_then (uid_of p us) (λ u vs. Ok (w.entity u, vs)))

  -- What begins with a word is read: a call, a uid or a variable (Cedar language reference, grammar: Primary).
  unfoldable pub named : Parser Written
  named ts = if begins_path ts then with_path ts else variable ts

  -- A primary is read, form by form of the kind of its first token (Cedar language reference, grammar: Primary).
  abbrev pub primary_by : TokenKind → Mark → Parser Written
  primary_by k.True t ts = Ok (w.truth true, next ts)
  primary_by k.False t ts = Ok (w.truth false, next ts)
  primary_by k.Number t ts = Ok (w.number t.number, next ts)
  primary_by k.String t ts = and_then (text ts) (λ c us. Ok (w.text c, us))
  primary_by k.Identifier t ts = named ts
  primary_by k.Slot t ts = slot ts
  primary_by k.LeftParen t ts = group ts
  primary_by k.LeftBracket t ts = set ts
  primary_by k.LeftBrace t ts = record_of ts
  primary_by _ t ts = Err Syntax

  -- A primary is read where there is a first token, and refused where there is none (own).
  abbrev pub primary_of : Option Mark → Parser Written
  primary_of None ts = Err Syntax
  primary_of (Some t) ts = primary_by t.kind t ts

  -- A primary is read (Cedar language reference, grammar: Primary).
  unfoldable pub primary : Parser Written
  primary ts = primary_of (first ts) ts

  -- What follows a dot is read: a method or an attribute (Cedar language reference, grammar: Access).
  unfoldable pub dotted : Parser Link
  dotted ts =
      and_then (expect k.Identifier ts) (λ t us. if sees k.LeftParen us then and_then (called us) (λ found vs. Ok (Method t.text found, vs))
      else Ok (Attribute (Some t.text), us))

  -- One attribute, index or method is read (Cedar language reference, grammar: Access).
  unfoldable pub suffix : Parser Link
  suffix ts = if sees k.Dot ts then dotted (next ts) else indexed d ts

  -- What follows a primary is read in at most n turns, each of which takes one attribute, index or method (own).
  unfoldable pub suffixes_from : ℕ → List Link → Parser (List Link)
  suffixes_from zero ls ts = Ok (ls, ts)
  suffixes_from (suc n) ls ts = if has_suffix ts then and_then (suffix ts) (λ l us. suffixes_from n (ls ++ l ∷ []) us) else Ok (ls, ts)

  -- What follows a primary is read, as far as it goes on (Cedar language reference, grammar: Member).
  abbrev pub suffixes : Parser (List Link)
  suffixes ts = suffixes_from (length ts) [] ts

  -- A primary is read with what follows it (Cedar language reference, grammar: Member).
  unfoldable pub member : Parser Written
  member ts = and_then (primary ts) (λ a us. behind a (suffixes us))

  -- Up to n of the sign `!` are read, and then a member (Cedar language reference, grammar: Unary).
  unfoldable pub nots : ℕ → Parser Written
  nots zero ts = member ts
  nots (suc n) ts = if sees k.Not ts then and_then (nots n (next ts)) (λ a us. Ok (w.not a, us)) else member ts

  -- Up to n of the sign `-` are read, and then a member (Cedar language reference, grammar: Unary).
  unfoldable pub minuses : ℕ → Parser Written
  minuses zero ts = member ts
  minuses (suc n) ts = if sees k.Minus ts then and_then (minuses n (next ts)) (λ a us. Ok (w.minus a, us)) else member ts

  -- A member with up to four signs before it is read (Cedar language reference, grammar: Unary).
  unfoldable pub unary : Parser Written
  unary ts = if sees k.Minus ts then minuses 4 ts else nots 4 ts

  -- A product is read (Cedar language reference, grammar: Mult).
  unfoldable pub mult : Parser Written
  mult = chain mult_sign unary

  -- A sum is read (Cedar language reference, grammar: Add).
  unfoldable pub add : Parser Written
  add = chain add_sign mult

  -- What follows `is` and a type is read: `in` and a sum, or nothing (Cedar language reference, grammar: Relation).
  unfoldable pub of_type : Written → List ℕ → Parser Written
  of_type left ty ts = if sees k.In ts then and_then (add (next ts)) (λ right us. Ok (w.is_in left ty right, us)) else Ok (w.is left ty, ts)

  -- What follows `is` is read, with the operand to its left (Cedar language reference, grammar: Relation).
  unfoldable pub typed : Written → Parser Written
  typed left ts = and_then (path ts) (λ ty us. of_type left ty us)

  -- The sign of a relation and the sum after it are read, or nothing (Cedar language reference, grammar: Relation).
  unfoldable pub related : Written → Parser Written
  related left ts =
      on_some (sign_at relation_sign_of ts) (Ok (left, ts)) (λ sign. and_then (add (next ts)) (λ right us. Ok (w.relation sign left right, us)))

  -- What follows the first sum of a relation is read (Cedar language reference, grammar: Relation).
  unfoldable pub relation_from : Written → Parser Written
  relation_from left ts =
      if sees k.Has ts then asked left (next ts)
      else (if sees k.Like ts then matched left (next ts)
      else (if sees k.Is ts then typed left (next ts) else related left ts))

  -- A relation is read (Cedar language reference, grammar: Relation).
  unfoldable pub relation : Parser Written
  relation ts = and_then (add ts) (λ left us. relation_from left us)

  -- Relations with `&&` between them are read (Cedar language reference, grammar: And).
  unfoldable pub and : Parser Written
  and = chain and_sign relation

  -- Ands with `||` between them are read (Cedar language reference, grammar: Or).
  unfoldable pub or : Parser Written
  or = chain or_sign and

  -- An operand of a level of chains is read (Cedar language reference, grammar: Or, And, Add, Mult).
  abbrev pub operand_of : ChainLevel → Parser Written
  operand_of level.Or = and
  operand_of level.And = relation
  operand_of level.Add = mult
  operand_of level.Mult = unary

  -- The signs and operands that follow the first one of a level of chains are read (Cedar language reference, grammar: Or, And,
  -- Add, Mult).
  abbrev pub links_of : ChainLevel → Parser (List Link)
  links_of l = links (signs_of l) (operand_of l)

  -- A chain of this level is read (Cedar language reference, grammar: Or, And, Add, Mult).
  abbrev pub chain_of : ChainLevel → Parser Written
  chain_of l = chain (signs_of l) (operand_of l)

  -- The expression between `then` and `else` is read, with `else` (Cedar language reference, grammar: Expr).
  unfoldable pub before_else : Parser Written
  before_else ts = and_then (inner ts) (λ a us. and_then (expect k.Else us) (λ e vs. Ok (a, vs)))

  -- The expression after `else` is read, with the condition and the branch before it (Cedar language reference, grammar: Expr).
  unfoldable pub behind_else : Written → Written → Parser Written
  behind_else c a ts = and_then (inner ts) (λ b us. Ok (w.choice c a b, us))

  -- Both branches are read, with the condition before them (Cedar language reference, grammar: Expr).
  unfoldable pub branches : Written → Parser Written
  branches c ts = and_then (before_else ts) (λ a us. behind_else c a us)

  -- An `if` with its `then` and `else` is read, which is open up to its end (Cedar language reference, grammar: Expr).
  unfoldable pub choice : Parser Written
  choice ts = and_then (open_one d ts) (λ o us. and_then (inner us) (λ c vs. and_then (expect k.Then vs) (λ t ws. branches c ws)))

  -- An expression is read where d more brackets may open (Cedar language reference, grammar: Expr).
  unfoldable pub expression : Parser Written
  expression ts = if sees k.If ts then choice ts else or ts

-- An expression is read with less than so many brackets and `if`s open at one place (Cedar language reference, grammar: Expr;
-- own in the limit).
unfoldable pub nested : ℕ → Parser Written
nested zero ts = Err TooDeep
nested (suc d) ts = expression d (nested d) ts
