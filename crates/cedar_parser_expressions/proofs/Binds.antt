-- How tightly a token binds to what comes before it, and which tokens begin a phrase.
use Rattle.std.proofs.Common.{◌≡◌, refl, sym, ap, ◌∙◌, ℕ, zero, suc, ◌<◌, ◌≤◌, false, List, [], ◌∷◌, Option, Some, None, ◌⊎◌, inl, inr, arith}
use denote.Enum.Bare.{false_same}
use Rattle.cedar_text.specs.contracts.token_kind.TokenKind.{the_type}
use Rattle.cedar_text.specs.declared.token_kind.TokenKind.{TokenKind}
use Rattle.cedar_text.specs.declared.token_kind.TokenKind.TheVariants as k
use Rattle.cedar_parser_tree.specs.declared.sign.ChainSign.{ChainSign}
use Rattle.cedar_parser_tree.specs.declared.sign.RelationSign.{RelationSign}
use Rattle.cedar_parser_tree.specs.declared.written.Link.{Link}
use Rattle.cedar_parser_tokens.specs.Marks.{Mark, Marks}
use Rattle.cedar_parser_tree.specs.Written.{Written}
use Rattle.cedar_parser_expressions.specs.Grammar as g
use Rattle.cedar_parser_tokens.specs.Names.{Rule, Takes, Text, Key, Path, Entity}
use Rattle.cedar_parser_expressions.specs.Grammar.{Series, Entry, Primary, Suffixes, Member, Signed, Unary, Operands, Chain, or_sign, and_sign, add_sign, mult_sign, relation_sign_of, Mult, Add, Relation, And, Or, Expression, Nested}
use Rattle.cedar_parser_tokens.specs.Reading.{same_kind, sees, kind_at, sign_at}

abbrev pub bind : TokenKind → ℕ
bind k.OrOr = 1
bind k.AndAnd = 2
bind k.Less = 3
bind k.LessEqual = 3
bind k.Greater = 3
bind k.GreaterEqual = 3
bind k.Equal = 3
bind k.NotEqual = 3
bind k.In = 3
bind k.Has = 3
bind k.Like = 3
bind k.Is = 3
bind k.Plus = 4
bind k.Minus = 4
bind k.Star = 5
bind k.Dot = 6
bind k.LeftBracket = 6
bind k.LeftParen = 7
bind k.DoubleColon = 7
bind _ = 0

abbrev pub bind_at : Marks → ℕ
bind_at [] = 0
bind_at (t ∷ ts) = bind t.kind

-- No token of these signs binds so loosely.
abbrev pub Above : {S : Type 0} → ℕ → (TokenKind → Option S) → Type 0
Above n signs = (q : TokenKind) → bind q < n → signs q ≡ None

-- Each of these signs binds as loosely.
abbrev pub Below : {S : Type 0} → ℕ → (TokenKind → Option S) → Type 0
Below {S} n signs = (q : TokenKind) (sign : S) → signs q ≡ Some sign → bind q < n

pub or_above : Above 1 or_sign
or_above k.OrOr h = absurd (omega arith)
or_above _ h = refl

pub or_below : Below 2 or_sign
or_below k.OrOr sign h = omega arith
or_below _ sign h = absurd cc

pub and_above : Above 2 and_sign
and_above k.AndAnd h = absurd (omega arith)
and_above _ h = refl

pub and_below : Below 3 and_sign
and_below k.AndAnd sign h = omega arith
and_below _ sign h = absurd cc

pub relation_above : Above 3 relation_sign_of
relation_above k.Less h = absurd (omega arith)
relation_above _ h = first_of (cc, grind arith)

pub relation_below : Below 4 relation_sign_of
relation_below k.Less sign h = omega arith
relation_below _ sign h = first_of (omega arith, grind arith)

pub sum_above : Above 4 add_sign
sum_above k.Plus h = absurd (omega arith)
sum_above k.Minus h = absurd (omega arith)
sum_above _ h = refl

pub add_below : Below 5 add_sign
add_below k.Plus sign h = omega arith
add_below k.Minus sign h = omega arith
add_below _ sign h = absurd cc

pub product_above : Above 5 mult_sign
product_above k.Star h = absurd (omega arith)
product_above _ h = refl

pub mult_below : Below 6 mult_sign
mult_below k.Star sign h = omega arith
mult_below _ sign h = absurd cc

-- No sign of a relation is of a kind that none of them has.
pub sign_apart : (q kind : TokenKind) (sign : RelationSign) → relation_sign_of q ≡ Some sign → relation_sign_of kind ≡ None → same_kind q kind ≡ false
sign_apart q kind sign h none = false_same the_type tt q kind (λ e. let f = ap relation_sign_of e in absurd cc)

pub sees_nothing : (kind : TokenKind) (ts : Marks) → bind_at ts < bind kind → sees kind ts ≡ false
unfolding sees
sees_nothing kind [] b = refl
sees_nothing kind (t ∷ ts) b = false_same the_type tt t.kind kind (λ e. let f = ap bind e in omega arith)

pub no_sign : {S : Type 0} (n : ℕ) (signs : TokenKind → Option S) → Above n signs → (ts : Marks) → bind_at ts < n → sign_at signs ts ≡ None
unfolding kind_at
no_sign n signs h [] b = refl
no_sign n signs h (t ∷ ts) b = h t.kind b

pub takes_bind : {kind : TokenKind} {t : Mark} {ts us : Marks} → Takes kind t ts us → bind_at ts ≡ bind kind
takes_bind h = ap bind_at h.whole ∙ ap bind h.is

-- ---- what begins a phrase: 0 for what begins no expression, 1 for what begins a Primary, 2 and 3 for the signs before one, 4 for an `if`

abbrev pub start : TokenKind → ℕ
start k.True = 1
start k.False = 1
start k.Number = 1
start k.String = 1
start k.Identifier = 1
start k.Slot = 1
start k.LeftParen = 1
start k.LeftBracket = 1
start k.LeftBrace = 1
start k.Not = 2
start k.Minus = 3
start k.If = 4
start _ = 0

abbrev pub start_at : Marks → ℕ
start_at [] = 0
start_at (t ∷ ts) = start t.kind

takes_start : {kind : TokenKind} {t : Mark} {ts us : Marks} → Takes kind t ts us → start_at ts ≡ start kind
takes_start h = ap start_at h.whole ∙ ap start h.is

-- Each phrase begins with a token whose number is in this range.
abbrev pub Begins : {A : Type 0} → ℕ → ℕ → Rule A → Type 0
Begins {A} low high R = (ts : Marks) (a : A) (us : Marks) → R ts a us → (low ≤ start_at ts) × (start_at ts ≤ high)

one_one : (n : ℕ) → n ≡ 1 → (1 ≤ n) × (n ≤ 1)
one_one n e = (omega arith, omega arith)

text_starts : Begins 1 1 Text
text_starts ts a us (g.string t) = one_one _ (takes_start t)

key_starts : Begins 1 1 Key
key_starts ts a us (g.word t) = one_one _ (takes_start t)
key_starts ts a us (g.string t) = text_starts _ _ _ t

path_starts : Begins 1 1 Path
path_starts ts a us (g.word t) = one_one _ (takes_start t)
path_starts ts a us (g.longer p c t) = path_starts _ _ _ p

pub entity_starts : Begins 1 1 Entity
entity_starts ts a us (g.entity p c t) = path_starts _ _ _ p

pub entry_starts : (Inner : Rule Written) → Begins 1 1 (Entry Inner)
entry_starts Inner ts a us (g.entry k c i) = key_starts _ _ _ k

operands_start : (low high : ℕ) (signs : TokenKind → Option ChainSign) (Item : Rule Written) → Begins low high Item
    → (ts : Marks) (a : Written) (ls : List Link) (us : Marks) → Operands signs Item ts a ls us → (low ≤ start_at ts) × (start_at ts ≤ high)
operands_start low high signs Item h ts a ls us (g.first i) = h _ _ _ i
operands_start low high signs Item h ts a _ us (g.more o s i) = operands_start low high signs Item h _ _ _ _ o

chain_starts : (low high : ℕ) (signs : TokenKind → Option ChainSign) (Item : Rule Written) → Begins low high Item → Begins low high (Chain signs Item)
chain_starts low high signs Item h ts _ us (g.operands o) = operands_start low high signs Item h _ _ _ _ o

module _ (d : ℕ) (Inner : Rule Written) where
  primary_starts : Begins 1 1 (Primary d Inner)
  primary_starts ts a us (g.yes h) = one_one _ (takes_start h)
  primary_starts ts a us (g.no h) = one_one _ (takes_start h)
  primary_starts ts a us (g.number h) = one_one _ (takes_start h)
  primary_starts ts a us (g.text h) = text_starts _ _ _ h
  primary_starts ts a us (g.uid h) = entity_starts _ _ _ h
  primary_starts ts a us (g.variable h e) = one_one _ (takes_start h)
  primary_starts ts a us (g.slot h e) = one_one _ (takes_start h)
  primary_starts ts a us (g.call p o q c) = path_starts _ _ _ p
  primary_starts ts a us (g.group o i c) = one_one _ (takes_start o.takes)
  primary_starts ts a us (g.set o q c) = one_one _ (takes_start o.takes)
  primary_starts ts a us (g.record_of o q c) = one_one _ (takes_start o.takes)

  suffixes_start : (ts : Marks) (a : Written) (ls : List Link) (us : Marks) → Suffixes d Inner ts a ls us → (1 ≤ start_at ts) × (start_at ts ≤ 1)
  suffixes_start ts a ls us (g.first p) = primary_starts _ _ _ p
  suffixes_start ts a _ us (g.attribute s p t) = suffixes_start _ _ _ _ s
  suffixes_start ts a _ us (g.index s o t c) = suffixes_start _ _ _ _ s
  suffixes_start ts a _ us (g.method s p t o q c) = suffixes_start _ _ _ _ s

  pub member_starts : Begins 1 1 (Member d Inner)
  member_starts ts _ us (g.suffixes s) = suffixes_start _ _ _ _ s

  pub signed_starts : (sign : TokenKind) (f : Written → Written) (n : ℕ) (ts : Marks) (a : Written) (us : Marks) → Signed d Inner sign f n ts a us → (start_at ts ≡ 1) ⊎ (start_at ts ≡ start sign)
  signed_starts sign f n ts a us (g.bare p) = let b = member_starts _ _ _ p in inl (omega arith)
  signed_starts sign f _ ts _ us (g.signed t p) = inr (takes_start t)

  unary_starts : Begins 1 3 (Unary d Inner)
  unary_starts ts a us (g.nots p) = elim (signed_starts _ _ _ _ _ _ p) [ inl e ↦ (omega arith, omega arith) | inr e ↦ (omega arith, omega arith) ]
  unary_starts ts a us (g.minuses p) = elim (signed_starts _ _ _ _ _ _ p) [ inl e ↦ (omega arith, omega arith) | inr e ↦ (omega arith, omega arith) ]

  sums_start : Begins 1 3 (Add d Inner)
  sums_start = chain_starts 1 3 add_sign (Mult d Inner) (chain_starts 1 3 mult_sign (Unary d Inner) unary_starts)

  relation_starts : Begins 1 3 (Relation d Inner)
  relation_starts ts a us (g.alone s) = sums_start _ _ _ s
  relation_starts ts a us (g.pair s e q) = sums_start _ _ _ s
  relation_starts ts a us (g.has s t c) = sums_start _ _ _ s
  relation_starts ts a us (g.like s t c) = sums_start _ _ _ s
  relation_starts ts a us (g.is s t c) = sums_start _ _ _ s
  relation_starts ts a us (g.is_in s t c i q) = sums_start _ _ _ s

  pub ors_start : Begins 1 3 (Or d Inner)
  ors_start = chain_starts 1 3 or_sign (And d Inner) (chain_starts 1 3 and_sign (Relation d Inner) relation_starts)

  expression_starts : Begins 1 4 (Expression d Inner)
  expression_starts ts a us (g.or o) = let b = ors_start _ _ _ o in (b.0, omega arith)
  expression_starts ts a us (g.choice i c t x s y) = let e = takes_start i.takes in (omega arith, omega arith)

pub nested_starts : (d : ℕ) → Begins 1 4 (Nested d)
nested_starts zero ts a us h = absurd h
nested_starts (suc d) ts a us h = expression_starts d (Nested d) ts a us h

pub series_starts : {A : Type 0} (Item : Rule A) (high : ℕ) → Begins 1 high Item → (ts : Marks) (xs : List A) (us : Marks) → Series Item ts xs us → 1 ≤ start_at ts
series_starts Item high item ts xs us (g.one i) = (item _ _ _ i).0
series_starts Item high item ts _ us (g.next s c i) = series_starts Item high item _ _ _ s

-- ---- what is not there

pub sees_no : (kind : TokenKind) (ts : Marks) → (start kind ≡ start_at ts → ⊥) → sees kind ts ≡ false
unfolding sees
sees_no kind [] h = refl
sees_no kind (t ∷ ts) h = false_same the_type tt t.kind kind (λ e. h (sym (ap start e)))
