-- What the earlier grammar reads, the grammar reads as the same tree.
use Rattle.std.specs.Prelude.{ℕ, zero, suc, List, Option}
use Rattle.cedar_text.specs.declared.token_kind.TokenKind.{TokenKind}
use Rattle.cedar_parser_tokens.specs.Marks.{Marks}
use Rattle.cedar_parser_tokens.specs.Names as n
use Rattle.cedar_parser_tokens.specs.Names.{Rule}
use Rattle.cedar_parser_tree.specs.declared.sign.ChainSign.{ChainSign}
use Rattle.cedar_parser_tree.specs.declared.written.Link.{Link}
use Rattle.cedar_parser_tree.specs.Written.{Written}
use Rattle.cedar_parser_tree.specs.StatementTree.{StatementTree}
use Rattle.cedar_parser_expressions.specs.Grammar as g
use Rattle.cedar_parser_expressions.specs.Grammar.{Series, Arguments, Entry, Primary, Suffixes, Member, Signed, Unary, Operands, Chain, or_sign, and_sign, add_sign, mult_sign, Mult, Add, Relation, Or, Expression, Nested}
use Rattle.cedar_parser_statements.specs.Statements as s
use Rattle.cedar_parser_statements.specs.Statements.{Block, Conditions, Statement, Statements}
use Rattle.cedar_parser_statements.specs.Earlier as o
use Rattle.cedar_parser_statements.specs.Earlier.{EarlierRelation, EarlierOrs, EarlierExpression, EarlierNested, EarlierBlock, EarlierConditions, EarlierStatement, EarlierStatements}

-- what the one rule reads, the other does
abbrev Within : {A : Type 0} → Rule A → Rule A → Type 0
Within {A} R S = (ts : Marks) (a : A) (us : Marks) → R ts a us → S ts a us

-- ---- lists

series_within : {A : Type 0} (R S : Rule A) → Within R S → Within (Series R) (Series S)
series_within R S f ts xs us (g.one i) = g.one (f _ _ _ i)
series_within R S f ts xs us (g.next s c i) = g.next (series_within R S f _ _ _ s) c (f _ _ _ i)

arguments_within : {A : Type 0} (R S : Rule A) → Within R S → Within (Arguments R) (Arguments S)
arguments_within R S f ts xs us g.none = g.none
arguments_within R S f ts xs us (g.some s) = g.some (series_within R S f _ _ _ s)

entry_within : (R S : Rule Written) → Within R S → Within (Entry R) (Entry S)
entry_within R S f ts a us (g.entry k c i) = g.entry k c (f _ _ _ i)

operands_within : (signs : TokenKind → Option ChainSign) (R S : Rule Written) → Within R S → (ts : Marks) (a : Written) (ls : List Link) (us : Marks)
    → Operands signs R ts a ls us → Operands signs S ts a ls us
operands_within signs R S f ts a ls us (g.first i) = g.first (f _ _ _ i)
operands_within signs R S f ts a ls us (g.more h e i) = g.more (operands_within signs R S f _ _ _ _ h) e (f _ _ _ i)

chain_within : (signs : TokenKind → Option ChainSign) (R S : Rule Written) → Within R S → Within (Chain signs R) (Chain signs S)
chain_within signs R S f ts a us (g.operands h) = g.operands (operands_within signs R S f _ _ _ _ h)

-- ---- one level after the other

module _ (d : ℕ) (R S : Rule Written) (f : Within R S) where
  primary_within : Within (Primary d R) (Primary d S)
  primary_within ts a us (g.yes h) = g.yes h
  primary_within ts a us (g.no h) = g.no h
  primary_within ts a us (g.number h) = g.number h
  primary_within ts a us (g.text h) = g.text h
  primary_within ts a us (g.uid h) = g.uid h
  primary_within ts a us (g.variable h e) = g.variable h e
  primary_within ts a us (g.slot h e) = g.slot h e
  primary_within ts a us (g.call p o q c) = g.call p o (arguments_within R S f _ _ _ q) c
  primary_within ts a us (g.group o i c) = g.group o (f _ _ _ i) c
  primary_within ts a us (g.set o q c) = g.set o (arguments_within R S f _ _ _ q) c
  primary_within ts a us (g.record_of o q c) = g.record_of o (arguments_within (Entry R) (Entry S) (entry_within R S f) _ _ _ q) c

  suffixes_within : (ts : Marks) (a : Written) (ls : List Link) (us : Marks) → Suffixes d R ts a ls us → Suffixes d S ts a ls us
  suffixes_within ts a ls us (g.first p) = g.first (primary_within _ _ _ p)
  suffixes_within ts a ls us (g.attribute h p t) = g.attribute (suffixes_within _ _ _ _ h) p t
  suffixes_within ts a ls us (g.index h o t c) = g.index (suffixes_within _ _ _ _ h) o t c
  suffixes_within ts a ls us (g.method h p t o q c) = g.method (suffixes_within _ _ _ _ h) p t o (arguments_within R S f _ _ _ q) c

  member_within : Within (Member d R) (Member d S)
  member_within ts a us (g.suffixes h) = g.suffixes (suffixes_within _ _ _ _ h)

  signed_within : (sign : TokenKind) (as_signed : Written → Written) (n : ℕ) (ts : Marks) (a : Written) (us : Marks) → Signed d R sign as_signed n ts a us → Signed d S sign as_signed n ts a us
  signed_within sign as_signed n ts a us (g.bare m) = g.bare (member_within _ _ _ m)
  signed_within sign as_signed n ts a us (g.signed t p) = g.signed t (signed_within sign as_signed _ _ _ _ p)

  unary_within : Within (Unary d R) (Unary d S)
  unary_within ts a us (g.nots p) = g.nots (signed_within _ _ _ _ _ _ p)
  unary_within ts a us (g.minuses p) = g.minuses (signed_within _ _ _ _ _ _ p)

  sums_within : Within (Add d R) (Add d S)
  sums_within = chain_within add_sign (Mult d R) (Mult d S) (chain_within mult_sign (Unary d R) (Unary d S) unary_within)

  relation_within : Within (EarlierRelation d R) (Relation d S)
  relation_within ts a us (o.alone h) = g.alone (sums_within _ _ _ h)
  relation_within ts a us (o.pair h e i) = g.pair (sums_within _ _ _ h) e (sums_within _ _ _ i)
  relation_within ts a us (o.has h t (n.word w)) = g.has (sums_within _ _ _ h) t (g.words w g.none)
  relation_within ts a us (o.has h t (n.string c)) = g.has (sums_within _ _ _ h) t (g.quoted c)
  relation_within ts a us (o.like h t p) = g.like (sums_within _ _ _ h) t p
  relation_within ts a us (o.is h t p) = g.is (sums_within _ _ _ h) t p
  relation_within ts a us (o.is_in h t p q i) = g.is_in (sums_within _ _ _ h) t p q (sums_within _ _ _ i)

  ors_within : Within (EarlierOrs d R) (Or d S)
  ors_within = chain_within or_sign (Chain and_sign (EarlierRelation d R)) (Chain and_sign (Relation d S)) (chain_within and_sign (EarlierRelation d R) (Relation d S) relation_within)

  expression_within : Within (EarlierExpression d R) (Expression d S)
  expression_within ts a us (o.or h) = g.or (ors_within _ _ _ h)
  expression_within ts a us (o.choice i c t x e y) = g.choice i (f _ _ _ c) t (f _ _ _ x) e (f _ _ _ y)

nested_within : (d : ℕ) → Within (EarlierNested d) (Nested d)
nested_within zero ts a us h = h
nested_within (suc d) ts a us h = expression_within d (EarlierNested d) (Nested d) (nested_within d) ts a us h

-- ---- statements

block_within : (d : ℕ) → Within (EarlierBlock d) (Block d)
block_within d ts a us (o.block l i r) = s.block l (nested_within d _ _ _ i) r

conditions_within : (d : ℕ) → Within (EarlierConditions d) (Conditions d)
conditions_within d ts cs us o.none = s.none
conditions_within d ts cs us (o.more h t e b) = s.more (conditions_within d _ _ _ h) t e (block_within d _ _ _ b)

statement_within : (d : ℕ) → Within (EarlierStatement d) (Statement d)
statement_within d ts t us (o.statement notes w e p cs q) = s.statement notes w e p (conditions_within d _ _ _ cs) q

pub statements_within : (d : ℕ) (ts us : Marks) (ss : List StatementTree) → EarlierStatements d ts ss us → Statements d ts ss us
statements_within d ts us ss o.end = s.end
statements_within d ts us ss (o.next i h) = s.next (statement_within d _ _ _ i) (statements_within d _ _ _ h)
