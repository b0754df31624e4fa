-- The grammar as it was before `has` could have a path of attributes, from the level on that this changes.
--
--     Relation = Add [ ("<" | "<=" | ">" | ">=" | "==" | "!=" | "in") Add | "has" Key | "like" STR | "is" Path [ "in" Add ] ]
--
-- (Cedar language reference, grammar)
use Rattle.std.specs.Prelude.{◌≡◌, ℕ, zero, suc, List, [], ◌∷◌, ◌++◌, Some}
use Rattle.cedar_ast.specs.declared.effect.Effect.{Effect}
use Rattle.cedar_ast.specs.declared.condition.ConditionKind.{ConditionKind}
use Rattle.cedar_text.specs.declared.token_kind.TokenKind.TheVariants as k
use Rattle.cedar_parser_tokens.specs.Marks.{Mark, Marks, start_of, pattern_of}
use Rattle.cedar_parser_tokens.specs.Names.{Rule, Takes, Key, Path}
use Rattle.cedar_parser_tokens.specs.Content.{Content}
use Rattle.cedar_parser_tree.specs.Written as w
use Rattle.cedar_parser_tree.specs.Written.{Written}
use Rattle.cedar_parser_tree.specs.declared.sign.RelationSign.{RelationSign}
use Rattle.cedar_parser_tree.specs.declared.written_statement.WrittenAnnotation.{WrittenAnnotation}
use Rattle.cedar_parser_tree.specs.declared.written_statement.WrittenCondition.{WrittenCondition}
use Rattle.cedar_parser_expressions.specs.Grammar.{Opens, Chain, or_sign, and_sign, relation_sign_of, Add}
use Rattle.cedar_parser_tree.specs.StatementTree.{StatementTree, WrittenScope}
use Rattle.cedar_parser_statements.specs.Statements.{Annotations, Scopes, effect_of, condition_kind_of}

-- A relation as it was: after `has` comes one key (Cedar language reference, grammar: Relation).
pub data EarlierRelation (d : ℕ) (Inner : Rule Written) : Marks → Written → Marks → Type 0 where
  alone : {ts us : Marks} {a : Written} → Add d Inner ts a us → EarlierRelation d Inner ts a us
  pair : {ts us vs : Marks} {a b : Written} {t : Mark} {sign : RelationSign} → Add d Inner ts a (t ∷ us) → relation_sign_of t.kind ≡ Some sign → Add d Inner us b vs
      → EarlierRelation d Inner ts (w.relation sign a b) vs
  has : {ts us vs ws : Marks} {a : Written} {c : Content} {t : Mark} → Add d Inner ts a us → Takes k.Has t us vs → Key vs c ws → EarlierRelation d Inner ts (w.has a c []) ws
  like : {ts us vs ws : Marks} {a : Written} {t s : Mark} → Add d Inner ts a us → Takes k.Like t us vs → Takes k.String s vs ws
      → EarlierRelation d Inner ts (w.like a (pattern_of s.letters)) ws
  is : {ts us vs ws : Marks} {a : Written} {ty : List ℕ} {t : Mark} → Add d Inner ts a us → Takes k.Is t us vs → Path vs ty ws → EarlierRelation d Inner ts (w.is a ty) ws
  is_in : {ts us vs ws xs ys : Marks} {a b : Written} {ty : List ℕ} {t s : Mark} → Add d Inner ts a us → Takes k.Is t us vs → Path vs ty ws → Takes k.In s ws xs → Add d Inner xs b ys
      → EarlierRelation d Inner ts (w.is_in a ty b) ys

-- Chains as they were, of relations as they were: Or = And { "||" And }, And = Relation { "&&" Relation } (Cedar language
-- reference, grammar: Or, And).
abbrev pub EarlierOrs : ℕ → Rule Written → Rule Written
EarlierOrs d Inner = Chain or_sign (Chain and_sign (EarlierRelation d Inner))

-- An expression as it was: an Or, or "if" Expr "then" Expr "else" Expr (Cedar language reference, grammar: Expr).
pub data EarlierExpression (d : ℕ) (Inner : Rule Written) : Marks → Written → Marks → Type 0 where
  or : {ts us : Marks} {a : Written} → EarlierOrs d Inner ts a us → EarlierExpression d Inner ts a us
  choice : {ts c0 c1 a0 a1 b0 us : Marks} {i t e : Mark} {c a b : Written} → Opens d k.If i ts c0 → Inner c0 c c1 → Takes k.Then t c1 a0 → Inner a0 a a1 → Takes k.Else e a1 b0 → Inner b0 b us
      → EarlierExpression d Inner ts (w.choice c a b) us

-- An expression as it was with less than d brackets and `if`s open at one place (Cedar language reference, grammar: Expr; own
-- in the limit).
abbrev pub EarlierNested : ℕ → Rule Written
EarlierNested zero = λ ts a us. ⊥
EarlierNested (suc d) = EarlierExpression d (EarlierNested d)

-- An expression as it was in braces, with less than d brackets open at one place inside (Cedar language reference, grammar:
-- Condition; own in the limit).
pub data EarlierBlock (d : ℕ) : Marks → Written → Marks → Type 0 where
  block : {ts us vs ws : Marks} {l r : Mark} {a : Written} → Takes k.LeftBrace l ts us → EarlierNested d us a vs → Takes k.RightBrace r vs ws → EarlierBlock d ts a ws

-- Conditions as they were, or none: { ("when" | "unless") "{" Expr "}" } (Cedar language reference, grammar: Conditions).
pub data EarlierConditions (d : ℕ) : Marks → List WrittenCondition → Marks → Type 0 where
  none : {ts : Marks} → EarlierConditions d ts [] ts
  more : {ts us vs ws : Marks} {cs : List WrittenCondition} {t : Mark} {kind : ConditionKind} {a : Written} → EarlierConditions d ts cs us → Takes k.Identifier t us vs
      → condition_kind_of t.text ≡ Some kind → EarlierBlock d vs a ws → EarlierConditions d ts (cs ++ record { kind = kind; body = a } ∷ []) ws

-- A statement as it was: annotations, effect and scope as today, conditions as they were, and `;` (Cedar language reference,
-- grammar: Policy).
pub data EarlierStatement (d : ℕ) : Marks → StatementTree → Marks → Type 0 where
  statement : {ts us vs ws xs ys : Marks} {t s : Mark} {notes : List WrittenAnnotation} {effect : Effect} {scope : WrittenScope} {cs : List WrittenCondition} → Annotations ts notes us
      → Takes k.Identifier t us vs → effect_of t.text ≡ Some effect → Scopes vs scope ws → EarlierConditions d ws cs xs → Takes k.Semicolon s xs ys
      → EarlierStatement d ts (record { start = start_of ts; annotations = notes; effect = effect; scope = scope; conditions = cs }) ys

-- Statements as they were, or none: { Statement } (Cedar language reference, grammar: Policy).
pub data EarlierStatements (d : ℕ) : Marks → List StatementTree → Marks → Type 0 where
  end : {ts : Marks} → EarlierStatements d ts [] ts
  next : {ts us vs : Marks} {s : StatementTree} {ss : List StatementTree} → EarlierStatement d ts s us → EarlierStatements d us ss vs → EarlierStatements d ts (s ∷ ss) vs
