-- A phrase takes some tokens, and opens as often as it closes.
use Rattle.std.proofs.Common.{◌≡◌, refl, sym, ap, subst, ◌∙◌, ℕ, zero, suc, ◌+◌, ◌≤◌, ◌<◌, Bool, false, cond, List, [], ◌∷◌, ◌++◌, length, Option, Some, append_assoc, length-append, arith}
use Rattle.cedar_text.specs.declared.token_kind.TokenKind.{TokenKind}
use Rattle.cedar_text.specs.declared.token_kind.TokenKind.TheVariants as k
use Rattle.cedar_parser_tree.specs.declared.sign.ChainSign.{ChainSign}
use Rattle.cedar_parser_tree.specs.declared.written.Link.{Link}
use Rattle.cedar_parser_tokens.specs.Marks.{Mark, Marks}
use Rattle.cedar_parser_tree.specs.Written.{Written}
use Rattle.cedar_parser_expressions.specs.Nesting.{opens, closes, opened, closed, IsDeep}
use Rattle.cedar_parser_expressions.specs.Grammar as g
use Rattle.cedar_parser_tokens.specs.Names.{Rule, Takes, Text, Key, Path, Entity}
use Rattle.cedar_parser_expressions.specs.Grammar.{Opens, Series, Arguments, Entry, Further, Attributes, Primary, Suffixes, Member, Signed, Unary, Operands, Chain, or_sign, and_sign, add_sign, mult_sign, relation_sign_of, Mult, Add, Relation, And, Or, Expression, Nested}

-- From ts to us there are tokens, which open and close so that closes + gain ≤ opens + loss.
pub record Moves (ts us : Marks) (gain loss : ℕ) : Type 0 where
  pub front : Marks
  pub whole : ts ≡ front ++ us
  pub takes : 0 < length front
  pub even : closed front + gain ≤ opened front + loss

opened-append : (a b : Marks) → opened (a ++ b) ≡ opened a + opened b
unfolding opened
opened-append [] b = omega arith
opened-append (t ∷ a) b = omega (arith, opened-append a b)

closed-append : (a b : Marks) → closed (a ++ b) ≡ closed a + closed b
unfolding closed
closed-append [] b = omega arith
closed-append (t ∷ a) b = omega (arith, closed-append a b)

pub moves_then : {ts us vs : Marks} {g l g' l' : ℕ} (G L : ℕ) → Moves ts us g l → Moves us vs g' l' → G + (l + l') ≤ (g + g') + L → Moves ts vs G L
moves_then {vs = vs} G L p q h = record {
  front = p.front ++ q.front;
  whole = p.whole ∙ ap (λ (x : Marks). p.front ++ x) q.whole ∙ sym (append_assoc p.front q.front vs);
  takes = omega (arith, length-append p.front q.front, p.takes);
  even = omega (arith, opened-append p.front q.front, closed-append p.front q.front, p.even, q.even, h);
}

-- as often
abbrev pub Level : Marks → Marks → Type 0
Level ts us = Moves ts us 0 0

pub level_then : {ts us vs : Marks} → Level ts us → Level us vs → Level ts vs
level_then p q = moves_then 0 0 p q (omega arith)

-- Some first tokens hold d more that open than that close.
pub record IsOver (d : ℕ) (ts : Marks) : Type 0 where
  pub front : Marks
  pub rest : Marks
  pub whole : ts ≡ front ++ rest
  pub over : closed front + d ≤ opened front

pub over_after : {ts us : Marks} {g l d : ℕ} (e : ℕ) → Moves ts us g l → IsOver d us → e + l ≤ d + g → IsOver e ts
over_after e p q h = record {
  front = p.front ++ q.front;
  rest = q.rest;
  whole = p.whole ∙ ap (λ (x : Marks). p.front ++ x) q.whole ∙ sym (append_assoc p.front q.front q.rest);
  over = omega (arith, opened-append p.front q.front, closed-append p.front q.front, p.even, q.over, h);
}

pub over_none : (ts : Marks) → IsOver 0 ts
unfolding opened closed
over_none ts = record { front = []; rest = ts; whole = refl; over = omega arith }

pub over_deep : (d : ℕ) (ts : Marks) → IsOver (suc d) ts → IsDeep d ts
over_deep d ts h = record { front = h.front; rest = h.rest; whole = h.whole; over = omega (arith, h.over) }

pub shorter : {ts us : Marks} {g l : ℕ} → Moves ts us g l → length us < length ts
shorter {us = us} p = omega (arith, ap length p.whole, length-append p.front us, p.takes)

abbrev pub weight : Bool → ℕ
weight b = cond b 1 0

pub token_moves : (t : Mark) (us : Marks) → Moves (t ∷ us) us (weight (opens t.kind)) (weight (closes t.kind))
unfolding opened closed
token_moves t us = record { front = t ∷ []; whole = refl; takes = omega arith; even = omega arith }

pub takes_moves : {kind : TokenKind} {t : Mark} {ts us : Marks} → Takes kind t ts us → Moves ts us (weight (opens kind)) (weight (closes kind))
takes_moves {kind = kind} {t = t} {us = us} h =
    subst (λ (xs : Marks). Moves xs us (weight (opens kind)) (weight (closes kind))) (sym h.whole)
    (subst (λ (q : TokenKind). Moves (t ∷ us) us (weight (opens q)) (weight (closes q))) h.is (token_moves t us))

abbrev pub Advances : {A : Type 0} → Rule A → Type 0
Advances {A} R = (ts : Marks) (a : A) (us : Marks) → R ts a us → Level ts us

-- no sign closes
abbrev pub NeverCloses : {S : Type 0} → (TokenKind → Option S) → Type 0
NeverCloses {S} signs = (q : TokenKind) (sign : S) → signs q ≡ Some sign → closes q ≡ false

pub sign_moves : {S : Type 0} (signs : TokenKind → Option S) → NeverCloses signs → (t : Mark) (us : Marks) (sign : S) → signs t.kind ≡ Some sign → Level (t ∷ us) us
unfolding opened closed
sign_moves signs never t us sign h =
    let e : closes t.kind ≡ false = never t.kind sign h in
    record { front = t ∷ []; whole = refl; takes = omega arith; even = rw e (omega arith) }

pub or_never : NeverCloses or_sign
or_never k.OrOr sign h = refl
or_never _ sign h = absurd cc

pub and_never : NeverCloses and_sign
and_never k.AndAnd sign h = refl
and_never _ sign h = absurd cc

pub add_never : NeverCloses add_sign
add_never k.Plus sign h = refl
add_never k.Minus sign h = refl
add_never _ sign h = absurd cc

pub mult_never : NeverCloses mult_sign
mult_never k.Star sign h = refl
mult_never _ sign h = absurd cc

pub relation_never : NeverCloses relation_sign_of
relation_never k.Less sign h = refl
relation_never _ sign h = cc

-- ---- texts, paths, uids

pub text_moves : Advances Text
text_moves ts a us (g.string t) = takes_moves t

pub key_moves : Advances Key
key_moves ts a us (g.word t) = takes_moves t
key_moves ts a us (g.string t) = text_moves _ _ _ t

pub path_moves : Advances Path
path_moves ts a us (g.word t) = takes_moves t
path_moves ts a us (g.longer p c t) = level_then (path_moves _ _ _ p) (level_then (takes_moves c) (takes_moves t))

pub entity_moves : Advances Entity
entity_moves ts a us (g.entity p c t) = level_then (path_moves _ _ _ p) (level_then (takes_moves c) (text_moves _ _ _ t))

-- ---- what follows `has`

further_then : {ts us vs : Marks} {names : List (List ℕ)} → Level ts us → Further us names vs → Level ts vs
further_then p g.none = p
further_then p (g.more f c t) = level_then (further_then p f) (level_then (takes_moves c) (takes_moves t))

pub asked_moves : Advances Attributes
asked_moves ts a us (g.quoted t) = text_moves _ _ _ t
asked_moves ts a us (g.words t f) = further_then (takes_moves t) f

-- ---- lists

pub series_moves : {A : Type 0} (Item : Rule A) → Advances Item → Advances (Series Item)
series_moves Item item ts a us (g.one i) = item _ _ _ i
series_moves Item item ts a us (g.next s c i) = level_then (series_moves Item item _ _ _ s) (level_then (takes_moves c) (item _ _ _ i))

-- with what comes before it, and what follows
pub arguments_between : {A : Type 0} (Item : Rule A) → Advances Item → {ts us vs ws : Marks} {xs : List A} (G L : ℕ) {g1 l1 g2 l2 : ℕ}
    → Moves ts us g1 l1 → Arguments Item us xs vs → Moves vs ws g2 l2 → G + (l1 + l2) ≤ (g1 + g2) + L → Moves ts ws G L
arguments_between Item item G L o g.none c h = moves_then G L o c h
arguments_between Item item G L {g1 = g1} {l1 = l1} o (g.some s) c h = moves_then G L (moves_then g1 l1 o (series_moves Item item _ _ _ s) (omega arith)) c h

pub entry_moves : (Inner : Rule Written) → Advances Inner → Advances (Entry Inner)
entry_moves Inner inner ts a us (g.entry k c i) = level_then (key_moves _ _ _ k) (level_then (takes_moves c) (inner _ _ _ i))

-- ---- expressions

pub operands_move : (signs : TokenKind → Option ChainSign) (Item : Rule Written) → NeverCloses signs → Advances Item
    → (ts : Marks) (a : Written) (ls : List Link) (us : Marks) → Operands signs Item ts a ls us → Level ts us
operands_move signs Item never item ts a ls us (g.first i) = item _ _ _ i
operands_move signs Item never item ts a _ us (g.more {us = vs} {t = t} {sign = sign} o s i) =
    level_then (operands_move signs Item never item _ _ _ _ o) (level_then (sign_moves signs never t vs sign s) (item _ _ _ i))

pub chain_moves : (signs : TokenKind → Option ChainSign) (Item : Rule Written) → NeverCloses signs → Advances Item → Advances (Chain signs Item)
chain_moves signs Item never item ts _ us (g.operands o) = operands_move signs Item never item _ _ _ _ o

module _ (d : ℕ) (Inner : Rule Written) (inner : Advances Inner) where
  pub primary_moves : Advances (Primary d Inner)
  primary_moves ts a us (g.yes h) = takes_moves h
  primary_moves ts a us (g.no h) = takes_moves h
  primary_moves ts a us (g.number h) = takes_moves h
  primary_moves ts a us (g.text h) = text_moves _ _ _ h
  primary_moves ts a us (g.uid h) = entity_moves _ _ _ h
  primary_moves ts a us (g.variable h e) = takes_moves h
  primary_moves ts a us (g.slot h e) = takes_moves h
  primary_moves ts a us (g.call p o q c) = level_then (path_moves _ _ _ p) (arguments_between Inner inner 0 0 (takes_moves o.takes) q (takes_moves c) (omega arith))
  primary_moves ts a us (g.group o i c) = moves_then 0 0 (takes_moves o.takes) (moves_then 0 1 (inner _ _ _ i) (takes_moves c) (omega arith)) (omega arith)
  primary_moves ts a us (g.set o q c) = arguments_between Inner inner 0 0 (takes_moves o.takes) q (takes_moves c) (omega arith)
  primary_moves ts a us (g.record_of o q c) = arguments_between (Entry Inner) (entry_moves Inner inner) 0 0 (takes_moves o.takes) q (takes_moves c) (omega arith)

  pub dot_moves : {ts us vs : Marks} {p t : Mark} → Takes k.Dot p ts us → Takes k.Identifier t us vs → Level ts vs
  dot_moves p t = level_then (takes_moves p) (takes_moves t)

  pub index_moves : {ts us vs ws : Marks} {c : Option (List ℕ)} {l r : Mark} → Opens d k.LeftBracket l ts us → Text us c vs → Takes k.RightBracket r vs ws → Level ts ws
  index_moves o t c = moves_then 0 0 (takes_moves o.takes) (moves_then 0 1 (text_moves _ _ _ t) (takes_moves c) (omega arith)) (omega arith)

  pub method_moves : {ts us vs ws xs ys : Marks} {p t l r : Mark} {qs : List Written} → Takes k.Dot p ts us → Takes k.Identifier t us vs → Opens d k.LeftParen l vs ws → Arguments Inner ws qs xs
      → Takes k.RightParen r xs ys → Level ts ys
  method_moves p t o q c = level_then (dot_moves p t) (arguments_between Inner inner 0 0 (takes_moves o.takes) q (takes_moves c) (omega arith))

  pub suffixes_move : (ts : Marks) (a : Written) (ls : List Link) (us : Marks) → Suffixes d Inner ts a ls us → Level ts us
  suffixes_move ts a ls us (g.first p) = primary_moves _ _ _ p
  suffixes_move ts a _ us (g.attribute s p t) = level_then (suffixes_move _ _ _ _ s) (dot_moves p t)
  suffixes_move ts a _ us (g.index s o t c) = level_then (suffixes_move _ _ _ _ s) (index_moves o t c)
  suffixes_move ts a _ us (g.method s p t o q c) = level_then (suffixes_move _ _ _ _ s) (method_moves p t o q c)

  pub member_moves : Advances (Member d Inner)
  member_moves ts _ us (g.suffixes s) = suffixes_move _ _ _ _ s

  pub signed_moves : (sign : TokenKind) (f : Written → Written) → closes sign ≡ false → (n : ℕ) (ts : Marks) (a : Written) (us : Marks) → Signed d Inner sign f n ts a us → Level ts us
  signed_moves sign f e n ts a us (g.bare m) = member_moves _ _ _ m
  signed_moves sign f e _ ts _ us (g.signed t p) = moves_then 0 0 (takes_moves t) (signed_moves sign f e _ _ _ _ p) (rw e (omega arith))

  pub unary_moves : Advances (Unary d Inner)
  unary_moves ts a us (g.nots p) = signed_moves _ _ refl _ _ _ _ p
  unary_moves ts a us (g.minuses p) = signed_moves _ _ refl _ _ _ _ p

  pub mult_move : Advances (Mult d Inner)
  mult_move = chain_moves mult_sign (Unary d Inner) mult_never unary_moves

  pub add_move : Advances (Add d Inner)
  add_move = chain_moves add_sign (Mult d Inner) add_never mult_move

  pub relation_moves : Advances (Relation d Inner)
  relation_moves ts a us (g.alone q) = add_move _ _ _ q
  relation_moves ts a us (g.pair {us = vs} {t = t} {sign = sign} q e r) =
      level_then (add_move _ _ _ q) (level_then (sign_moves relation_sign_of relation_never t vs sign e) (add_move _ _ _ r))
  relation_moves ts a us (g.has q t c) = level_then (add_move _ _ _ q) (level_then (takes_moves t) (asked_moves _ _ _ c))
  relation_moves ts a us (g.like q t s) = level_then (add_move _ _ _ q) (level_then (takes_moves t) (takes_moves s))
  relation_moves ts a us (g.is q t p) = level_then (add_move _ _ _ q) (level_then (takes_moves t) (path_moves _ _ _ p))
  relation_moves ts a us (g.is_in q t p s r) =
      level_then (add_move _ _ _ q) (level_then (takes_moves t) (level_then (path_moves _ _ _ p) (level_then (takes_moves s) (add_move _ _ _ r))))

  pub and_move : Advances (And d Inner)
  and_move = chain_moves and_sign (Relation d Inner) and_never relation_moves

  pub or_move : Advances (Or d Inner)
  or_move = chain_moves or_sign (And d Inner) or_never and_move

  pub expression_moves : Advances (Expression d Inner)
  expression_moves ts a us (g.or o) = or_move _ _ _ o
  expression_moves ts a us (g.choice i c t x s y) =
      moves_then 0 0 (takes_moves i.takes) (level_then (inner _ _ _ c) (level_then (takes_moves t) (level_then (inner _ _ _ x) (level_then (takes_moves s) (inner _ _ _ y))))) (omega arith)

pub nested_moves : (d : ℕ) → Advances (Nested d)
nested_moves zero ts a us h = absurd h
nested_moves (suc d) ts a us h = expression_moves d (Nested d) (nested_moves d) ts a us h
