-- No expression that the earlier grammar reads asks by `has` for more than one attribute.
use Rattle.std.specs.Prelude.{◌≡◌, ℕ, zero, suc, List, [], ◌∷◌, ◌++◌, Option, Some, All, refl}
use Rattle.std.proofs.lemmas.List.Elements.{All-nil, All-cons, All-push}
use Rattle.cedar_text.specs.declared.token_kind.TokenKind.{TokenKind}
use Rattle.cedar_text.specs.declared.token_kind.TokenKind.TheVariants as k
use Rattle.cedar_parser_tokens.specs.Marks.{Marks}
use Rattle.cedar_parser_tokens.specs.Names.{Rule}
use Rattle.cedar_parser_tree.specs.declared.sign.ChainSign.{ChainSign}
use Rattle.cedar_parser_tree.specs.declared.written.Field.{Field}
use Rattle.cedar_parser_tree.specs.declared.written.Link.{Link}
use Rattle.cedar_parser_tree.specs.declared.written.Link.TheVariants.{Operand, Attribute, Method}
use Rattle.cedar_parser_tree.specs.declared.written_statement.WrittenCondition.{WrittenCondition}
use Rattle.cedar_parser_tree.specs.Written as w
use Rattle.cedar_parser_tree.specs.Written.{Written, number, text, group, not, negated, relation, has, like, is, is_in, chain, choice, set, record_of, call, Links, no_links, operand, attribute, method, Members, no_members, member, Fields, no_fields, field, members_of, minus}
use Rattle.cedar_parser_tree.specs.WrittenKind.{links_of, fields_of}
use Rattle.cedar_parser_tree.specs.StatementTree.{StatementTree}
use Rattle.cedar_parser_expressions.specs.Grammar as g
use Rattle.cedar_parser_expressions.specs.Grammar.{Series, Arguments, Entry, Primary, Suffixes, Member, Signed, Unary, Operands, Chain, chained, or_sign, and_sign, add_sign, mult_sign, Mult, Add}
use Rattle.cedar_parser_statements.specs.Earlier as o
use Rattle.cedar_parser_statements.specs.Earlier.{EarlierRelation, EarlierExpression, EarlierNested, EarlierBlock, EarlierConditions, EarlierStatement, EarlierStatements}

abbrev mutual
  -- each `has` in an expression asks for one attribute
  pub HasNoPath : Written → Type 0
  HasNoPath (group a) = HasNoPath a
  HasNoPath (not a) = HasNoPath a
  HasNoPath (negated a) = HasNoPath a
  HasNoPath (relation sign a b) = HasNoPath a × HasNoPath b
  HasNoPath (has a c more) = (more ≡ []) × HasNoPath a
  HasNoPath (like a p) = HasNoPath a
  HasNoPath (is a ty) = HasNoPath a
  HasNoPath (is_in a ty b) = HasNoPath a × HasNoPath b
  HasNoPath (chain a ls) = HasNoPath a × LinksHaveNoPath ls
  HasNoPath (choice c a b) = HasNoPath c × HasNoPath a × HasNoPath b
  HasNoPath (set ms) = MembersHaveNoPath ms
  HasNoPath (record_of fs) = FieldsHaveNoPath fs
  HasNoPath (call name ms) = MembersHaveNoPath ms
  HasNoPath _ = Unit {0}

  pub LinksHaveNoPath : Links → Type 0
  LinksHaveNoPath no_links = Unit {0}
  LinksHaveNoPath (operand sign a ls) = HasNoPath a × LinksHaveNoPath ls
  LinksHaveNoPath (attribute c ls) = LinksHaveNoPath ls
  LinksHaveNoPath (method name ms ls) = MembersHaveNoPath ms × LinksHaveNoPath ls

  pub MembersHaveNoPath : Members → Type 0
  MembersHaveNoPath no_members = Unit {0}
  MembersHaveNoPath (member a ms) = HasNoPath a × MembersHaveNoPath ms

  pub FieldsHaveNoPath : Fields → Type 0
  FieldsHaveNoPath no_fields = Unit {0}
  FieldsHaveNoPath (field key a fs) = HasNoPath a × FieldsHaveNoPath fs

abbrev LinkHasNoPath : Link → Type 0
LinkHasNoPath (Operand sign a) = HasNoPath a
LinkHasNoPath (Attribute c) = Unit {0}
LinkHasNoPath (Method name ms) = MembersHaveNoPath (members_of ms)

-- ---- lists

one_link : (l : Link) → LinkHasNoPath l → LinksHaveNoPath (links_of (l ∷ []))
one_link (Operand sign a) h = (h, tt)
one_link (Attribute c) h = tt
one_link (Method name ms) h = (h, tt)

more_links : (ls : List Link) (l : Link) → LinksHaveNoPath (links_of ls) → LinkHasNoPath l → LinksHaveNoPath (links_of (ls ++ l ∷ []))
more_links [] l h q = one_link l q
more_links (Operand sign a ∷ ls) l h q = (h.0, more_links ls l h.1 q)
more_links (Attribute c ∷ ls) l h q = more_links ls l h q
more_links (Method name ms ∷ ls) l h q = (h.0, more_links ls l h.1 q)

more_members : (as' : List Written) (a : Written) → MembersHaveNoPath (members_of as') → HasNoPath a → MembersHaveNoPath (members_of (as' ++ a ∷ []))
more_members [] a h q = (q, tt)
more_members (b ∷ as') a h q = (h.0, more_members as' a h.1 q)

more_fields : (fs : List Field) (f : Field) → FieldsHaveNoPath (fields_of fs) → HasNoPath f.value → FieldsHaveNoPath (fields_of (fs ++ f ∷ []))
more_fields [] f h q = (q, tt)
more_fields (e ∷ fs) f h q = (h.0, more_fields fs f h.1 q)

chained_free : (a : Written) (ls : List Link) → HasNoPath a → LinksHaveNoPath (links_of ls) → HasNoPath (chained a ls)
chained_free a [] h q = h
chained_free a (l ∷ ls) h q = (h, q)

minus_free : (a : Written) → HasNoPath a → HasNoPath (minus a)
minus_free (number n) h = tt
minus_free a h = h

-- ---- rules

-- what the rule reads asks for no path
abbrev Free : Rule Written → Type 0
Free R = (ts : Marks) (a : Written) (us : Marks) → R ts a us → HasNoPath a

series_free : (R : Rule Written) → Free R → (ts : Marks) (as' : List Written) (us : Marks) → Series R ts as' us → MembersHaveNoPath (members_of as')
series_free R f ts as' us (g.one i) = (f _ _ _ i, tt)
series_free R f ts as' us (g.next s c i) = more_members _ _ (series_free R f _ _ _ s) (f _ _ _ i)

arguments_free : (R : Rule Written) → Free R → (ts : Marks) (as' : List Written) (us : Marks) → Arguments R ts as' us → MembersHaveNoPath (members_of as')
arguments_free R f ts as' us g.none = tt
arguments_free R f ts as' us (g.some s) = series_free R f _ _ _ s

entry_free : (R : Rule Written) → Free R → (ts : Marks) (e : Field) (us : Marks) → Entry R ts e us → HasNoPath e.value
entry_free R f ts e us (g.entry key c i) = f _ _ _ i

entries_free : (R : Rule Written) → Free R → (ts : Marks) (fs : List Field) (us : Marks) → Series (Entry R) ts fs us → FieldsHaveNoPath (fields_of fs)
entries_free R f ts fs us (g.one i) = (entry_free R f _ _ _ i, tt)
entries_free R f ts fs us (g.next s c i) = more_fields _ _ (entries_free R f _ _ _ s) (entry_free R f _ _ _ i)

fields_free : (R : Rule Written) → Free R → (ts : Marks) (fs : List Field) (us : Marks) → Arguments (Entry R) ts fs us → FieldsHaveNoPath (fields_of fs)
fields_free R f ts fs us g.none = tt
fields_free R f ts fs us (g.some s) = entries_free R f _ _ _ s

operands_free : (signs : TokenKind → Option ChainSign) (R : Rule Written) → Free R → (ts : Marks) (a : Written) (ls : List Link) (us : Marks)
    → Operands signs R ts a ls us → HasNoPath a × LinksHaveNoPath (links_of ls)
operands_free signs R f ts a ls us (g.first i) = (f _ _ _ i, tt)
operands_free signs R f ts a ls us (g.more {b = b} {ls = front} {sign = sign} h e i) =
    let before = operands_free signs R f _ _ _ _ h in
    (before.0, more_links front (Operand sign b) before.1 (f _ _ _ i))

chain_free : (signs : TokenKind → Option ChainSign) (R : Rule Written) → Free R → Free (Chain signs R)
chain_free signs R f ts a us (g.operands {a = first} {ls = ls} h) =
    let both = operands_free signs R f _ _ _ _ h in
    chained_free first ls both.0 both.1

module _ (d : ℕ) (R : Rule Written) (f : Free R) where
  primary_free : Free (Primary d R)
  primary_free ts a us (g.call p l q c) = arguments_free R f _ _ _ q
  primary_free ts a us (g.group l i c) = f _ _ _ i
  primary_free ts a us (g.set l q c) = arguments_free R f _ _ _ q
  primary_free ts a us (g.record_of l q c) = fields_free R f _ _ _ q
  primary_free ts a us _ = tt

  suffixes_free : (ts : Marks) (a : Written) (ls : List Link) (us : Marks) → Suffixes d R ts a ls us → HasNoPath a × LinksHaveNoPath (links_of ls)
  suffixes_free ts a ls us (g.first p) = (primary_free _ _ _ p, tt)
  suffixes_free ts a ls us (g.attribute {ls = front} {t = t} h p i) =
      let before = suffixes_free _ _ _ _ h in
      (before.0, more_links front (Attribute (Some t.text)) before.1 tt)
  suffixes_free ts a ls us (g.index {ls = front} {c = c} h l i r) =
      let before = suffixes_free _ _ _ _ h in
      (before.0, more_links front (Attribute c) before.1 tt)
  suffixes_free ts a ls us (g.method {ls = front} {t = t} {as' = as'} h p i l q r) =
      let before = suffixes_free _ _ _ _ h in
      (before.0, more_links front (Method t.text as') before.1 (arguments_free R f _ _ _ q))

  member_free : Free (Member d R)
  member_free ts a us (g.suffixes {a = first} {ls = ls} h) =
      let both = suffixes_free _ _ _ _ h in
      chained_free first ls both.0 both.1

  signed_free : (sign : TokenKind) (signed_as : Written → Written) → ((a : Written) → HasNoPath a → HasNoPath (signed_as a))
      → (n : ℕ) (ts : Marks) (a : Written) (us : Marks) → Signed d R sign signed_as n ts a us → HasNoPath a
  signed_free sign signed_as q n ts a us (g.bare m) = member_free _ _ _ m
  signed_free sign signed_as q n ts a us (g.signed {a = inner} t p) = q inner (signed_free sign signed_as q _ _ _ _ p)

  unary_free : Free (Unary d R)
  unary_free ts a us (g.nots p) = signed_free k.Not w.not (λ b h. h) 4 _ _ _ p
  unary_free ts a us (g.minuses p) = signed_free k.Minus minus minus_free 4 _ _ _ p

  sums_free : Free (Add d R)
  sums_free = chain_free add_sign (Mult d R) (chain_free mult_sign (Unary d R) unary_free)

  relation_free : Free (EarlierRelation d R)
  relation_free ts a us (o.alone h) = sums_free _ _ _ h
  relation_free ts a us (o.pair h e i) = (sums_free _ _ _ h, sums_free _ _ _ i)
  relation_free ts a us (o.has h t key) = (refl, sums_free _ _ _ h)
  relation_free ts a us (o.like h t p) = sums_free _ _ _ h
  relation_free ts a us (o.is h t p) = sums_free _ _ _ h
  relation_free ts a us (o.is_in h t p q i) = (sums_free _ _ _ h, sums_free _ _ _ i)

  expression_free : Free (EarlierExpression d R)
  expression_free ts a us (o.or h) = chain_free or_sign (Chain and_sign (EarlierRelation d R)) (chain_free and_sign (EarlierRelation d R) relation_free) _ _ _ h
  expression_free ts a us (o.choice i c t x e y) = (f _ _ _ c, f _ _ _ x, f _ _ _ y)

nested_free : (d : ℕ) → Free (EarlierNested d)
nested_free zero ts a us h = absurd h
nested_free (suc d) ts a us h = expression_free d (EarlierNested d) (nested_free d) ts a us h

-- ---- statements

block_free : (d : ℕ) → Free (EarlierBlock d)
block_free d ts a us (o.block l i r) = nested_free d _ _ _ i

-- no condition asks for a path
abbrev pub AskForNoPath : List WrittenCondition → Type 0
AskForNoPath cs = All (λ (c : WrittenCondition). HasNoPath c.body) cs

conditions_free : (d : ℕ) (ts : Marks) (cs : List WrittenCondition) (us : Marks) → EarlierConditions d ts cs us → AskForNoPath cs
conditions_free d ts cs us o.none = All-nil (λ (c : WrittenCondition). HasNoPath c.body)
conditions_free d ts cs us (o.more {cs = front} {kind = kind} {a = body} h t e b) = All-push (λ (c : WrittenCondition). HasNoPath c.body) front (record { kind = kind; body = body }) (conditions_free d _ _ _ h) (block_free d _ _ _ b)

statement_free : (d : ℕ) (ts : Marks) (s : StatementTree) (us : Marks) → EarlierStatement d ts s us → AskForNoPath s.conditions
statement_free d ts s us (o.statement notes t e p cs q) = conditions_free d _ _ _ cs

pub statements_free : (d : ℕ) (ts us : Marks) (ss : List StatementTree) → EarlierStatements d ts ss us → All (λ (s : StatementTree). AskForNoPath s.conditions) ss
statements_free d ts us ss o.end = All-nil (λ (s : StatementTree). AskForNoPath s.conditions)
statements_free d ts us ss (o.next {s = s} {ss = rest} i h) = All-cons (λ (s : StatementTree). AskForNoPath s.conditions) s rest (statement_free d _ _ _ i) (statements_free d _ _ _ h)
