-- What is read from left to right is a reading, and a nesting refusal shows deep nesting.
use Rattle.std.proofs.Common.{◌≡◌, refl, subst, ℕ, zero, suc, ◌+◌, ◌<◌, ◌≤◌, Bool, true, false, eqb, List, [], ◌∷◌, ◌++◌, length, Option, Some, None, Ok, Err, arith}
use Rattle.std.specs.Prelude.{◌||◌}
use Rattle.std.proofs.lemmas.Bool.{eqb-true}
use Rattle.cedar_text.specs.declared.token_kind.TokenKind.{TokenKind}
use Rattle.cedar_text.specs.declared.token_kind.TokenKind.TheVariants as k
use Rattle.cedar_ast_expressions.specs.declared.variable.Variable.{Variable}
use Rattle.cedar_parser_tree.specs.declared.sign.ChainSign.{ChainSign}
use Rattle.cedar_parser_tree.specs.declared.written.Link.{Link}
use Rattle.cedar_parser_tree.specs.declared.written.Link.TheVariants.{Operand}
use Rattle.cedar_parser_tokens.specs.Marks.{Mark, Marks}
use Rattle.cedar_parser_tree.specs.Written as w
use Rattle.cedar_parser_tree.specs.Written.{Written}
use Rattle.cedar_parser_expressions.specs.Nesting.{opens, closes}
use Rattle.cedar_parser_expressions.specs.Grammar as g
use Rattle.cedar_parser_tokens.specs.Names.{Rule, Takes, Text, Key, Path, Entity}
use Rattle.cedar_parser_expressions.specs.Grammar.{Opens, Series, Arguments, Entry, Further, Attributes, variable_of, slot_of, Primary, Suffixes, Member, Signed, Unary, Operands, chained, Chain, or_sign, and_sign, add_sign, mult_sign, relation_sign_of, Mult, Add, Relation, And, Or, Expression, Nested}
use Rattle.cedar_parser_expressions.specs.Reading as r
use Rattle.cedar_parser_tokens.specs.Reading.{TooDeep, Outcome, Parser, and_then, sees, expect, sign_at, next}
use Rattle.cedar_parser_expressions.specs.Reading.{links_from, chain, nested}
use Rattle.cedar_parser_tokens.proofs.NamesSound.{sees_takes, expect_takes, text_reads, key_reads, path_reads, uid_of_reads}
use Rattle.cedar_parser_tokens.proofs.Outcomes.{Meets, meets_then, meets_as, if_meets, some_meets}
use Rattle.cedar_parser_expressions.proofs.StepLemmas.{meets_flat}
use Rattle.cedar_parser_expressions.proofs.Moves as m
use Rattle.cedar_parser_expressions.proofs.Moves.{Moves, Level, level_then, IsOver, over_none, moves_then, over_after, takes_moves, sign_moves, Advances, NeverCloses, weight}

-- a parser that reads by the rule, with d more brackets to open
abbrev pub Reads : {A : Type 0} → ℕ → Rule A → Parser A → Type 0
Reads {A} d R p = (ts : Marks) → Meets (λ a us. R ts a us) (IsOver d ts) (p ts)

-- the token of a sign
abbrev pub Signs : {S : Type 0} → (TokenKind → Option S) → S → Marks → Type 0
Signs signs sign ts = (t : Mark) × (ts ≡ t ∷ next ts) × (signs t.kind ≡ Some sign)

pub sign_there : {S : Type 0} (signs : TokenKind → Option S) (sign : S) (ts : Marks) → sign_at signs ts ≡ Some sign → Signs signs sign ts
unfolding r.kind_at next
sign_there signs sign [] h = absurd cc
sign_there signs sign (t ∷ ts) h = (t, refl, h)

-- ---- steps in a row

-- A step that begins at us, where ts is before it.
pub after_step : {A B : Type 0} (R : A → Marks → Type 0) (S : B → Marks → Type 0) (d e : ℕ) (ts us : Marks) (g l : ℕ) → Moves ts us g l → e + l ≤ d + g
    → (x : Outcome A) (f : A → Marks → Outcome B) → Meets R (IsOver d us) x → ((a : A) (vs : Marks) → R a vs → Meets S (IsOver e ts) (f a vs)) → Meets S (IsOver e ts) (and_then x f)
after_step R S d e ts us g l p h x f rx rf =
    meets_then R S (IsOver e ts) x f (meets_as R R (IsOver d us) (IsOver e ts) x rx (λ a vs r. r) (λ o. over_after e p o h)) rf

positive : (d : ℕ) → eqb d 0 ≡ false → 0 < d
positive zero e = absurd cc
positive (suc d) e = omega arith

-- A token that opens: where none more may, too many are open.
pub open_reads : (d : ℕ) (q : TokenKind) (t : Mark) (ts : Marks) → weight (opens q) ≡ 1 → weight (closes q) ≡ 0 → Takes q t ts (next ts)
    → Meets (λ (o : Unit {0}) us. Opens d q t ts us) (IsOver (suc d) ts) (r.open_one d ts)
unfolding r.open_one
open_reads d q t ts o c h =
    if_meets (λ (x : Unit {0}) us. Opens d q t ts us) (IsOver (suc d) ts) (eqb d 0) (Err TooDeep) (Ok (tt, next ts))
    (λ e. over_after (suc d) (takes_moves h) (over_none (next ts)) (let z = eqb-true d 0 e in omega arith))
    (λ e. record { takes = h; allowed = positive d e })

-- ---- lists

module _ {A : Type 0} (Item : Rule A) (item : Parser A) (d : ℕ) (advances : Advances Item) (reads : Reads d Item item) where
  series_from_reads : (n : ℕ) (found : List A) (ts us : Marks) → Series Item ts found us → Meets (λ f vs. Series Item ts f vs) (IsOver d ts) (r.series_from item n found us)
  unfolding r.series_from
  series_from_reads zero found ts us s = s
  series_from_reads (suc n) found ts us s =
      if_meets (λ f vs. Series Item ts f vs) (IsOver d ts) (sees k.Comma us) _ _
      (λ h. let c = sees_takes k.Comma us h in
      after_step (λ a vs. Item (next us) a vs) (λ f vs. Series Item ts f vs) d d ts (next us) 0 0
      (level_then (m.series_moves Item advances _ _ _ s) (takes_moves c.1)) (omega arith) (item (next us)) _ (reads (next us))
      (λ a vs i. series_from_reads n (found ++ a ∷ []) ts vs (g.next s c.1 i)))
      (λ h. s)

  -- the list, and the sign that closes it
  abbrev pub Closed : TokenKind → Marks → List A → Marks → Type 0
  Closed closer ts found vs = (us : Marks) × (t : Mark) × Arguments Item ts found us × Takes closer t us vs

  pub arguments_read : (closer : TokenKind) (ts : Marks) → Meets (λ found vs. Closed closer ts found vs) (IsOver d ts) (r.arguments item closer ts)
  unfolding r.arguments
  arguments_read closer ts =
      if_meets (λ f vs. Closed closer ts f vs) (IsOver d ts) (sees closer ts) _ _
      (λ h. let c = sees_takes closer ts h in (ts, c.0, g.none, c.1))
      (λ h. meets_then (λ f vs. Series Item ts f vs) (λ f vs. Closed closer ts f vs) (IsOver d ts) (r.series item ts) _
      (meets_then (λ a us. Item ts a us) (λ f vs. Series Item ts f vs) (IsOver d ts) (item ts) _ (reads ts) (λ a us i. series_from_reads (length us) (a ∷ []) ts us (g.one i)))
      (λ f vs s. meets_then (λ t ws. Takes closer t vs ws) (λ f vs. Closed closer ts f vs) (IsOver d ts) (expect closer vs) _ (expect_takes closer (IsOver d ts) vs)
      (λ t ws c. (vs, t, g.some s, c))))

-- ---- chains

module _ (signs : TokenKind → Option ChainSign) (item : Parser Written) (Item : Rule Written) (d : ℕ) (never : NeverCloses signs) (advances : Advances Item) (reads : Reads d Item item) where
  abbrev Chains : Marks → Written → Marks → Type 0
  Chains ts a us = Chain signs Item ts a us

  at_sign : (ts us : Marks) (a : Written) (ls : List Link) (sign : ChainSign) → Operands signs Item ts a ls us → (s : Signs signs sign us) → Operands signs Item ts a ls (s.0 ∷ next us)
  at_sign ts us a ls sign o s = subst (λ (xs : Marks). Operands signs Item ts a ls xs) s.1 o

  goes_deep : (ts us : Marks) (a : Written) (ls : List Link) (sign : ChainSign) → Operands signs Item ts a ls us → Signs signs sign us → IsOver d (next us) → IsOver d ts
  goes_deep ts us a ls sign o s h =
      over_after d (level_then (m.operands_move signs Item never advances _ _ _ _ (at_sign ts us a ls sign o s)) (sign_moves signs never s.0 (next us) sign s.2)) h (omega arith)

  links_from_read : (n : ℕ) (a : Written) (ls : List Link) (ts us : Marks) → Operands signs Item ts a ls us → Meets (λ found vs. Operands signs Item ts a found vs) (IsOver d ts) (links_from signs item n ls us)
  unfolding links_from
  links_from_read zero a ls ts us o = o
  links_from_read (suc n) a ls ts us o =
      some_meets (λ found vs. Operands signs Item ts a found vs) (IsOver d ts) (sign_at signs us) (Ok (ls, us)) _ o
      (λ sign e. let s = sign_there signs sign us e in
      meets_then (λ b vs. Item (next us) b vs) (λ found vs. Operands signs Item ts a found vs) (IsOver d ts) (item (next us)) _
      (meets_as (λ b vs. Item (next us) b vs) (λ b vs. Item (next us) b vs) (IsOver d (next us)) (IsOver d ts) (item (next us)) (reads (next us)) (λ b vs h. h) (goes_deep ts us a ls sign o s))
      (λ b vs i. links_from_read n a (ls ++ Operand sign b ∷ []) ts vs (g.more (at_sign ts us a ls sign o s) s.2 i)))

  pub chain_reads : Reads d (Chain signs Item) (chain signs item)
  chain_reads ts =
      meets_then (λ a us. Item ts a us) (λ b vs. Chains ts b vs) (IsOver d ts) (item ts) _ (reads ts)
      (λ a us i. meets_then (λ found vs. Operands signs Item ts a found vs) (λ b vs. Chains ts b vs) (IsOver d ts) (links_from signs item (length us) [] us) _
      (links_from_read (length us) a [] ts us (g.first i)) (λ found vs o. g.operands o))

-- ---- what follows `has`, which opens nothing

further_from_reads : (D : Type 0) (n : ℕ) (names : List (List ℕ)) (ts us : Marks) → Further ts names us → Meets (λ more vs. Further ts more vs) D (r.further_from n names us)
unfolding r.further_from
further_from_reads D zero names ts us f = f
further_from_reads D (suc n) names ts us f =
    if_meets (λ more vs. Further ts more vs) D (sees k.Dot us) _ _
    (λ e. let p = sees_takes k.Dot us e in
    meets_then (λ t vs. Takes k.Identifier t (next us) vs) (λ more vs. Further ts more vs) D (expect k.Identifier (next us)) _ (expect_takes k.Identifier D (next us))
    (λ t vs i. further_from_reads D n (names ++ t.text ∷ []) ts vs (g.more f p.1 i)))
    (λ e. f)

attributes_read : (D : Type 0) (ts : Marks) → Meets (λ path us. Attributes ts path us) D (r.attributes ts)
unfolding r.attributes r.further
attributes_read D ts =
    if_meets (λ path us. Attributes ts path us) D (sees k.String ts) _ _
    (λ e. meets_then (λ c us. Text ts c us) (λ path us. Attributes ts path us) D (r.text ts) _ (text_reads D ts) (λ c us h. g.quoted h))
    (λ e. meets_then (λ t us. Takes k.Identifier t ts us) (λ path us. Attributes ts path us) D (expect k.Identifier ts) _ (expect_takes k.Identifier D ts)
    (λ t us h. meets_then (λ names vs. Further us names vs) (λ path vs. Attributes ts path vs) D (r.further us) _ (further_from_reads D (length us) [] us us g.none) (λ names vs f. g.words h f)))

-- ---- expressions

or_second : (x y : Bool) → (x || y) ≡ true → x ≡ false → y ≡ true
or_second true y e f = absurd cc
or_second false y e f = e

variable_meets : (d : ℕ) (Inner : Rule Written) (D : Type 0) (t : Mark) (ts us : Marks) (o : Option Variable) → Takes k.Identifier t ts us → variable_of t.text ≡ o
    → Meets (λ a vs. Primary d Inner ts a vs) D (r.variable_read o us)
variable_meets d Inner D t ts us None h e = tt
variable_meets d Inner D t ts us (Some x) h e = g.variable h e

slot_meets : (d : ℕ) (Inner : Rule Written) (D : Type 0) (t : Mark) (ts us : Marks) (o : Option Variable) → Takes k.Slot t ts us → slot_of t.text ≡ o
    → Meets (λ a vs. Primary d Inner ts a vs) D (r.slot_read o us)
slot_meets d Inner D t ts us None h e = tt
slot_meets d Inner D t ts us (Some x) h e = g.slot h e

module _ (d : ℕ) (Inner : Rule Written) (inner : Parser Written) (advances : Advances Inner) (reads : Reads d Inner inner) where
  pub entry_reads : Reads d (Entry Inner) (r.entry inner)
  unfolding r.entry
  entry_reads ts =
      meets_then (λ c us. Key ts c us) (λ f us. Entry Inner ts f us) (IsOver d ts) (r.key ts) _ (key_reads _ ts)
      (λ c us hc. meets_then (λ t vs. Takes k.Colon t us vs) (λ f vs. Entry Inner ts f vs) (IsOver d ts) (expect k.Colon us) _ (expect_takes k.Colon _ us)
      (λ t vs ht. after_step (λ a ws. Inner vs a ws) (λ f ws. Entry Inner ts f ws) d d ts vs 0 0 (level_then (m.key_moves _ _ _ hc) (takes_moves ht)) (omega arith) (inner vs) _ (reads vs)
      (λ a ws i. g.entry hc ht i)))

  variable_reads : (D : Type 0) (ts : Marks) → Meets (λ a us. Primary d Inner ts a us) D (r.variable ts)
  unfolding r.variable
  variable_reads D ts =
      meets_then (λ t us. Takes k.Identifier t ts us) (λ a us. Primary d Inner ts a us) D (expect k.Identifier ts) _ (expect_takes k.Identifier D ts)
      (λ t us h. variable_meets d Inner D t ts us (variable_of t.text) h refl)

  slot_reads : (D : Type 0) (ts : Marks) → Meets (λ a us. Primary d Inner ts a us) D (r.slot ts)
  unfolding r.slot
  slot_reads D ts =
      meets_then (λ t us. Takes k.Slot t ts us) (λ a us. Primary d Inner ts a us) D (expect k.Slot ts) _ (expect_takes k.Slot D ts)
      (λ t us h. slot_meets d Inner D t ts us (slot_of t.text) h refl)

  group_reads : (ts : Marks) (t : Mark) → Takes k.LeftParen t ts (next ts) → Meets (λ a vs. Primary d Inner ts a vs) (IsOver (suc d) ts) (r.group d inner ts)
  unfolding r.group
  group_reads ts t h =
      let P : Written → Marks → Type 0 = λ a vs. Primary d Inner ts a vs in
      meets_then (λ (x : Unit {0}) us. Opens d k.LeftParen t ts us) P (IsOver (suc d) ts) (r.open_one d ts) _ (open_reads d k.LeftParen t ts refl refl h)
      (λ x us o. after_step (λ a vs. Inner us a vs) P d (suc d) ts us 1 0 (takes_moves o.takes) (omega arith) (inner us) _ (reads us)
      (λ a vs i. meets_then (λ q ws. Takes k.RightParen q vs ws) P (IsOver (suc d) ts) (expect k.RightParen vs) _ (expect_takes k.RightParen _ vs)
      (λ q ws c. g.group o i c)))

  set_reads : (ts : Marks) (t : Mark) → Takes k.LeftBracket t ts (next ts) → Meets (λ a vs. Primary d Inner ts a vs) (IsOver (suc d) ts) (r.set d inner ts)
  unfolding r.set
  set_reads ts t h =
      let P : Written → Marks → Type 0 = λ a vs. Primary d Inner ts a vs in
      meets_then (λ (x : Unit {0}) us. Opens d k.LeftBracket t ts us) P (IsOver (suc d) ts) (r.open_one d ts) _ (open_reads d k.LeftBracket t ts refl refl h)
      (λ x us o. after_step (λ f vs. Closed Inner inner d advances reads k.RightBracket us f vs) P d (suc d) ts us 1 0 (takes_moves o.takes) (omega arith) (r.arguments inner k.RightBracket us) _
      (arguments_read Inner inner d advances reads k.RightBracket us) (λ f vs c. g.set o c.2 c.3))

  record_reads : (ts : Marks) (t : Mark) → Takes k.LeftBrace t ts (next ts) → Meets (λ a vs. Primary d Inner ts a vs) (IsOver (suc d) ts) (r.record_of d inner ts)
  unfolding r.record_of
  record_reads ts t h =
      let P : Written → Marks → Type 0 = λ a vs. Primary d Inner ts a vs in
      meets_then (λ (x : Unit {0}) us. Opens d k.LeftBrace t ts us) P (IsOver (suc d) ts) (r.open_one d ts) _ (open_reads d k.LeftBrace t ts refl refl h)
      (λ x us o. after_step (λ f vs. Closed (Entry Inner) (r.entry inner) d (m.entry_moves Inner advances) entry_reads k.RightBrace us f vs) P d (suc d) ts us 1 0 (takes_moves o.takes) (omega arith)
      (r.arguments (r.entry inner) k.RightBrace us) _ (arguments_read (Entry Inner) (r.entry inner) d (m.entry_moves Inner advances) entry_reads k.RightBrace us) (λ f vs c. g.record_of o c.2 c.3))

  -- arguments in their brackets
  pub record IsCalled (ts : Marks) (found : List Written) (xs : Marks) : Type 0 where
    pub opener : Mark
    pub inside : Marks
    pub behind : Marks
    pub closer : Mark
    pub opening : Opens d k.LeftParen opener ts inside
    pub list : Arguments Inner inside found behind
    pub closing : Takes k.RightParen closer behind xs

  called_reads : (ts : Marks) (t : Mark) → Takes k.LeftParen t ts (next ts) → Meets (λ f xs. IsCalled ts f xs) (IsOver (suc d) ts) (r.called d inner ts)
  unfolding r.called
  called_reads ts t h =
      meets_then (λ (x : Unit {0}) us. Opens d k.LeftParen t ts us) (λ f xs. IsCalled ts f xs) (IsOver (suc d) ts) (r.open_one d ts) _ (open_reads d k.LeftParen t ts refl refl h)
      (λ x us o. meets_as (λ f vs. Closed Inner inner d advances reads k.RightParen us f vs) (λ f xs. IsCalled ts f xs) (IsOver d us) (IsOver (suc d) ts) (r.arguments inner k.RightParen us)
      (arguments_read Inner inner d advances reads k.RightParen us)
      (λ f xs c. record { opener = t; inside = us; behind = c.0; closer = c.1; opening = o; list = c.2; closing = c.3 })
      (λ v. over_after (suc d) (takes_moves o.takes) v (omega arith)))

  with_path_reads : (ts : Marks) → Meets (λ a vs. Primary d Inner ts a vs) (IsOver (suc d) ts) (r.with_path d inner ts)
  unfolding r.with_path
  with_path_reads ts =
      let P : Written → Marks → Type 0 = λ a vs. Primary d Inner ts a vs in
      meets_then (λ p us. Path ts p us) P (IsOver (suc d) ts) (r.path ts) _ (path_reads _ ts)
      (λ p us hp. if_meets P (IsOver (suc d) ts) (sees k.LeftParen us) _ _
      (λ e. let o = sees_takes k.LeftParen us e in
      after_step (λ f xs. IsCalled us f xs) P (suc d) (suc d) ts us 0 0 (m.path_moves _ _ _ hp) (omega arith) (r.called d inner us) _ (called_reads us o.0 o.1)
      (λ f xs c. g.call hp c.opening c.list c.closing))
      (λ e. meets_then (λ u vs. Entity ts u vs) P (IsOver (suc d) ts) (r.uid_of p us) _ (uid_of_reads _ p ts us hp) (λ u vs h. g.uid h)))

  named_reads : (ts : Marks) → Meets (λ a us. Primary d Inner ts a us) (IsOver (suc d) ts) (r.named d inner ts)
  unfolding r.named
  named_reads ts = if_meets (λ a us. Primary d Inner ts a us) (IsOver (suc d) ts) (r.begins_path ts) _ _ (λ e. with_path_reads ts) (λ e. variable_reads _ ts)

  primary_by_reads : (q : TokenKind) (t : Mark) (us : Marks) → t.kind ≡ q → Meets (λ a vs. Primary d Inner (t ∷ us) a vs) (IsOver (suc d) (t ∷ us)) (r.primary_by d inner q t (t ∷ us))
  unfolding next
  primary_by_reads k.True t us h = g.yes (record { whole = refl; is = h })
  primary_by_reads k.False t us h = g.no (record { whole = refl; is = h })
  primary_by_reads k.Number t us h = g.number (record { whole = refl; is = h })
  primary_by_reads k.String t us h =
      meets_then (λ s vs. Text (t ∷ us) s vs) (λ a vs. Primary d Inner (t ∷ us) a vs) (IsOver (suc d) (t ∷ us)) (r.text (t ∷ us)) _ (text_reads _ (t ∷ us)) (λ s vs i. g.text i)
  primary_by_reads k.Identifier t us h = named_reads (t ∷ us)
  primary_by_reads k.Slot t us h = slot_reads _ (t ∷ us)
  primary_by_reads k.LeftParen t us h = group_reads (t ∷ us) t (record { whole = refl; is = h })
  primary_by_reads k.LeftBracket t us h = set_reads (t ∷ us) t (record { whole = refl; is = h })
  primary_by_reads k.LeftBrace t us h = record_reads (t ∷ us) t (record { whole = refl; is = h })
  primary_by_reads _ t us h = tt

  pub primary_reads : Reads (suc d) (Primary d Inner) (r.primary d inner)
  unfolding r.primary r.first
  primary_reads [] = tt
  primary_reads (t ∷ us) = primary_by_reads t.kind t us refl

  -- ---- what follows

  dotted_reads : (a : Written) (ls : List Link) (ts us : Marks) (p : Mark) → Suffixes d Inner ts a ls us → Takes k.Dot p us (next us)
      → Meets (λ l vs. Suffixes d Inner ts a (ls ++ l ∷ []) vs) (IsOver (suc d) ts) (r.dotted d inner (next us))
  unfolding r.dotted
  dotted_reads a ls ts us p s hp =
      let S : Link → Marks → Type 0 = λ l vs. Suffixes d Inner ts a (ls ++ l ∷ []) vs in
      meets_then (λ t vs. Takes k.Identifier t (next us) vs) S (IsOver (suc d) ts) (expect k.Identifier (next us)) _ (expect_takes k.Identifier _ (next us))
      (λ t vs ht. if_meets S (IsOver (suc d) ts) (sees k.LeftParen vs) _ _
      (λ e. let o = sees_takes k.LeftParen vs e in
      after_step (λ f xs. IsCalled vs f xs) S (suc d) (suc d) ts vs 0 0 (level_then (m.suffixes_move d Inner advances _ _ _ _ s) (level_then (takes_moves hp) (takes_moves ht))) (omega arith)
      (r.called d inner vs) _ (called_reads vs o.0 o.1) (λ f xs c. g.method s hp ht c.opening c.list c.closing))
      (λ e. g.attribute s hp ht))

  indexed_reads : (a : Written) (ls : List Link) (ts us : Marks) (t : Mark) → Suffixes d Inner ts a ls us → Takes k.LeftBracket t us (next us)
      → Meets (λ l vs. Suffixes d Inner ts a (ls ++ l ∷ []) vs) (IsOver (suc d) ts) (r.indexed d us)
  unfolding r.indexed
  indexed_reads a ls ts us t s ht =
      let S : Link → Marks → Type 0 = λ l vs. Suffixes d Inner ts a (ls ++ l ∷ []) vs in
      after_step (λ (x : Unit {0}) vs. Opens d k.LeftBracket t us vs) S (suc d) (suc d) ts us 0 0 (m.suffixes_move d Inner advances _ _ _ _ s) (omega arith)
      (r.open_one d us) _ (open_reads d k.LeftBracket t us refl refl ht)
      (λ x vs o. meets_then (λ c ws. Text vs c ws) S (IsOver (suc d) ts) (r.text vs) _ (text_reads _ vs)
      (λ c ws hc. meets_then (λ q xs. Takes k.RightBracket q ws xs) S (IsOver (suc d) ts) (expect k.RightBracket ws) _ (expect_takes k.RightBracket _ ws) (λ q xs hq. g.index s o hc hq)))

  suffix_reads : (a : Written) (ls : List Link) (ts us : Marks) → Suffixes d Inner ts a ls us → r.has_suffix us ≡ true
      → Meets (λ l vs. Suffixes d Inner ts a (ls ++ l ∷ []) vs) (IsOver (suc d) ts) (r.suffix d inner us)
  unfolding r.suffix
  suffix_reads a ls ts us s e =
      if_meets (λ l vs. Suffixes d Inner ts a (ls ++ l ∷ []) vs) (IsOver (suc d) ts) (sees k.Dot us) _ _
      (λ h. let p = sees_takes k.Dot us h in dotted_reads a ls ts us p.0 s p.1)
      (λ h. let t = sees_takes k.LeftBracket us (or_second (sees k.Dot us) (sees k.LeftBracket us) e h) in indexed_reads a ls ts us t.0 s t.1)

  suffixes_from_read : (n : ℕ) (a : Written) (ls : List Link) (ts us : Marks) → Suffixes d Inner ts a ls us → Meets (λ found vs. Suffixes d Inner ts a found vs) (IsOver (suc d) ts) (r.suffixes_from d inner n ls us)
  unfolding r.suffixes_from
  suffixes_from_read zero a ls ts us s = s
  suffixes_from_read (suc n) a ls ts us s =
      if_meets (λ found vs. Suffixes d Inner ts a found vs) (IsOver (suc d) ts) (r.has_suffix us) _ _
      (λ e. meets_then (λ l vs. Suffixes d Inner ts a (ls ++ l ∷ []) vs) (λ found vs. Suffixes d Inner ts a found vs) (IsOver (suc d) ts) (r.suffix d inner us) _ (suffix_reads a ls ts us s e)
      (λ l vs q. suffixes_from_read n a (ls ++ l ∷ []) ts vs q))
      (λ e. s)

  pub member_reads : Reads (suc d) (Member d Inner) (r.member d inner)
  unfolding r.member
  member_reads ts =
      meets_then (λ a us. Primary d Inner ts a us) (λ b vs. Member d Inner ts b vs) (IsOver (suc d) ts) (r.primary d inner ts) _ (primary_reads ts)
      (λ a us p. meets_then (λ found vs. Suffixes d Inner ts a found vs) (λ b vs. Member d Inner ts b vs) (IsOver (suc d) ts) (r.suffixes d inner us) _
      (suffixes_from_read (length us) a [] ts us (g.first p)) (λ found vs s. g.suffixes s))

  -- ---- signs

  nots_read : (n : ℕ) (ts : Marks) → Meets (λ a us. Signed d Inner k.Not w.not n ts a us) (IsOver (suc d) ts) (r.nots d inner n ts)
  unfolding r.nots
  nots_read zero ts =
      meets_as (λ a us. Member d Inner ts a us) (λ a us. Signed d Inner k.Not w.not zero ts a us) (IsOver (suc d) ts) (IsOver (suc d) ts) (r.member d inner ts) (member_reads ts) (λ a us p. g.bare p) (λ o. o)
  nots_read (suc n) ts =
      if_meets (λ a us. Signed d Inner k.Not w.not (suc n) ts a us) (IsOver (suc d) ts) (sees k.Not ts) _ _
      (λ h. let t = sees_takes k.Not ts h in
      after_step (λ a us. Signed d Inner k.Not w.not n (next ts) a us) (λ a us. Signed d Inner k.Not w.not (suc n) ts a us) (suc d) (suc d) ts (next ts) 0 0 (takes_moves t.1) (omega arith)
      (r.nots d inner n (next ts)) _ (nots_read n (next ts)) (λ a us p. g.signed t.1 p))
      (λ h. meets_as (λ a us. Member d Inner ts a us) (λ a us. Signed d Inner k.Not w.not (suc n) ts a us) (IsOver (suc d) ts) (IsOver (suc d) ts) (r.member d inner ts) (member_reads ts) (λ a us p. g.bare p) (λ o. o))

  minuses_read : (n : ℕ) (ts : Marks) → Meets (λ a us. Signed d Inner k.Minus w.minus n ts a us) (IsOver (suc d) ts) (r.minuses d inner n ts)
  unfolding r.minuses
  minuses_read zero ts =
      meets_as (λ a us. Member d Inner ts a us) (λ a us. Signed d Inner k.Minus w.minus zero ts a us) (IsOver (suc d) ts) (IsOver (suc d) ts) (r.member d inner ts) (member_reads ts) (λ a us p. g.bare p) (λ o. o)
  minuses_read (suc n) ts =
      if_meets (λ a us. Signed d Inner k.Minus w.minus (suc n) ts a us) (IsOver (suc d) ts) (sees k.Minus ts) _ _
      (λ h. let t = sees_takes k.Minus ts h in
      after_step (λ a us. Signed d Inner k.Minus w.minus n (next ts) a us) (λ a us. Signed d Inner k.Minus w.minus (suc n) ts a us) (suc d) (suc d) ts (next ts) 0 0 (takes_moves t.1) (omega arith)
      (r.minuses d inner n (next ts)) _ (minuses_read n (next ts)) (λ a us p. g.signed t.1 p))
      (λ h. meets_as (λ a us. Member d Inner ts a us) (λ a us. Signed d Inner k.Minus w.minus (suc n) ts a us) (IsOver (suc d) ts) (IsOver (suc d) ts) (r.member d inner ts) (member_reads ts) (λ a us p. g.bare p) (λ o. o))

  unary_reads : Reads (suc d) (Unary d Inner) (r.unary d inner)
  unfolding r.unary
  unary_reads ts =
      if_meets (λ a us. Unary d Inner ts a us) (IsOver (suc d) ts) (sees k.Minus ts) _ _
      (λ h. meets_as (λ a us. Signed d Inner k.Minus w.minus 4 ts a us) (λ a us. Unary d Inner ts a us) (IsOver (suc d) ts) (IsOver (suc d) ts) (r.minuses d inner 4 ts) (minuses_read 4 ts) (λ a us p. g.minuses p) (λ o. o))
      (λ h. meets_as (λ a us. Signed d Inner k.Not w.not 4 ts a us) (λ a us. Unary d Inner ts a us) (IsOver (suc d) ts) (IsOver (suc d) ts) (r.nots d inner 4 ts) (nots_read 4 ts) (λ a us p. g.nots p) (λ o. o))

  mult_read : Reads (suc d) (Mult d Inner) (r.mult d inner)
  unfolding r.mult
  mult_read = chain_reads mult_sign (r.unary d inner) (Unary d Inner) (suc d) m.mult_never (m.unary_moves d Inner advances) unary_reads

  pub add_read : Reads (suc d) (Add d Inner) (r.add d inner)
  unfolding r.add
  add_read = chain_reads add_sign (r.mult d inner) (Mult d Inner) (suc d) m.add_never (m.mult_move d Inner advances) mult_read

  typed_reads : (a : Written) (ts us vs : Marks) (t : Mark) → Add d Inner ts a us → Takes k.Is t us vs → Meets (λ b xs. Relation d Inner ts b xs) (IsOver (suc d) ts) (r.typed d inner a vs)
  unfolding r.typed r.of_type
  typed_reads a ts us vs t q ht =
      let R : Written → Marks → Type 0 = λ b xs. Relation d Inner ts b xs in
      meets_then (λ p ws. Path vs p ws) R (IsOver (suc d) ts) (r.path vs) _ (path_reads _ vs)
      (λ p ws hp. if_meets R (IsOver (suc d) ts) (sees k.In ws) _ _
      (λ e. let s = sees_takes k.In ws e in
      after_step (λ b xs. Add d Inner (next ws) b xs) R (suc d) (suc d) ts (next ws) 0 0
      (level_then (m.add_move d Inner advances _ _ _ q) (level_then (takes_moves ht) (level_then (m.path_moves _ _ _ hp) (takes_moves s.1)))) (omega arith)
      (r.add d inner (next ws)) _ (add_read (next ws)) (λ b xs h. g.is_in q ht hp s.1 h))
      (λ e. g.is q ht hp))

  related_reads : (a : Written) (ts us : Marks) → Add d Inner ts a us → Meets (λ b vs. Relation d Inner ts b vs) (IsOver (suc d) ts) (r.related d inner a us)
  unfolding r.related
  related_reads a ts us q =
      some_meets (λ b vs. Relation d Inner ts b vs) (IsOver (suc d) ts) (sign_at relation_sign_of us) (Ok (a, us)) _ (g.alone q)
      (λ sign o. let s = sign_there relation_sign_of sign us o in
      let q' = subst (λ (xs : Marks). Add d Inner ts a xs) s.1 q in
      after_step (λ b vs. Add d Inner (next us) b vs) (λ b vs. Relation d Inner ts b vs) (suc d) (suc d) ts (next us) 0 0
      (level_then (m.add_move d Inner advances _ _ _ q') (sign_moves relation_sign_of m.relation_never s.0 (next us) sign s.2)) (omega arith)
      (r.add d inner (next us)) _ (add_read (next us)) (λ b vs h. g.pair q' s.2 h))

  relation_from_reads : (a : Written) (ts us : Marks) → Add d Inner ts a us → Meets (λ b vs. Relation d Inner ts b vs) (IsOver (suc d) ts) (r.relation_from d inner a us)
  unfolding r.relation_from r.asked r.matched r.pattern
  relation_from_reads a ts us q =
      let R : Written → Marks → Type 0 = λ b vs. Relation d Inner ts b vs in
      if_meets R (IsOver (suc d) ts) (sees k.Has us) _ _
      (λ e. let t = sees_takes k.Has us e in meets_then (λ p vs. Attributes (next us) p vs) R (IsOver (suc d) ts) (r.attributes (next us)) _ (attributes_read _ (next us)) (λ p vs h. g.has q t.1 h))
      (λ e1. if_meets R (IsOver (suc d) ts) (sees k.Like us) _ _
      (λ e. let t = sees_takes k.Like us e in
      meets_flat R (IsOver (suc d) ts) (expect k.String (next us)) _ _
      (meets_then (λ s vs. Takes k.String s (next us) vs) R (IsOver (suc d) ts) (expect k.String (next us)) _ (expect_takes k.String _ (next us)) (λ s vs h. g.like q t.1 h)))
      (λ e2. if_meets R (IsOver (suc d) ts) (sees k.Is us) _ _
      (λ e. let t = sees_takes k.Is us e in typed_reads a ts us (next us) t.0 q t.1)
      (λ e3. related_reads a ts us q)))

  relation_reads : Reads (suc d) (Relation d Inner) (r.relation d inner)
  unfolding r.relation
  relation_reads ts = meets_then (λ a us. Add d Inner ts a us) (λ b vs. Relation d Inner ts b vs) (IsOver (suc d) ts) (r.add d inner ts) _ (add_read ts) (λ a us q. relation_from_reads a ts us q)

  and_read : Reads (suc d) (And d Inner) (r.and d inner)
  unfolding r.and
  and_read = chain_reads and_sign (r.relation d inner) (Relation d Inner) (suc d) m.and_never (m.relation_moves d Inner advances) relation_reads

  or_read : Reads (suc d) (Or d Inner) (r.or d inner)
  unfolding r.or
  or_read = chain_reads or_sign (r.and d inner) (And d Inner) (suc d) m.or_never (m.and_move d Inner advances) and_read

  choice_reads : (ts : Marks) (t : Mark) → Takes k.If t ts (next ts) → Meets (λ a vs. Expression d Inner ts a vs) (IsOver (suc d) ts) (r.choice d inner ts)
  unfolding r.choice r.branches r.before_else r.behind_else
  choice_reads ts t h =
      let E : Written → Marks → Type 0 = λ a vs. Expression d Inner ts a vs in
      meets_then (λ (x : Unit {0}) us. Opens d k.If t ts us) E (IsOver (suc d) ts) (r.open_one d ts) _ (open_reads d k.If t ts refl refl h)
      (λ x us o. after_step (λ c vs. Inner us c vs) E d (suc d) ts us 1 0 (takes_moves o.takes) (omega arith) (inner us) _ (reads us)
      (λ c vs p. let to_vs = moves_then 1 0 (takes_moves o.takes) (advances _ _ _ p) (omega arith) in
      meets_then (λ q ws. Takes k.Then q vs ws) E (IsOver (suc d) ts) (expect k.Then vs) _ (expect_takes k.Then _ vs)
      (λ q ws th. let to_ws = moves_then 1 0 to_vs (takes_moves th) (omega arith) in
      meets_flat E (IsOver (suc d) ts) (inner ws) _ _
      (after_step (λ a xs. Inner ws a xs) E d (suc d) ts ws 1 0 to_ws (omega arith) (inner ws) _ (reads ws)
      (λ a xs i. let to_xs = moves_then 1 0 to_ws (advances _ _ _ i) (omega arith) in
      meets_flat E (IsOver (suc d) ts) (expect k.Else xs) _ _
      (meets_then (λ q ys. Takes k.Else q xs ys) E (IsOver (suc d) ts) (expect k.Else xs) _ (expect_takes k.Else _ xs)
      (λ v ys el. let to_ys = moves_then 1 0 to_xs (takes_moves el) (omega arith) in
      after_step (λ b zs. Inner ys b zs) E d (suc d) ts ys 1 0 to_ys (omega arith) (inner ys) _ (reads ys)
      (λ b zs j. g.choice o p th i el j))))))))

  pub expression_reads : Reads (suc d) (Expression d Inner) (r.expression d inner)
  unfolding r.expression
  expression_reads ts =
      if_meets (λ a us. Expression d Inner ts a us) (IsOver (suc d) ts) (sees k.If ts) _ _
      (λ e. let t = sees_takes k.If ts e in choice_reads ts t.0 t.1)
      (λ e. meets_as (λ a us. Or d Inner ts a us) (λ a us. Expression d Inner ts a us) (IsOver (suc d) ts) (IsOver (suc d) ts) (r.or d inner ts) (or_read ts) (λ a us o. g.or o) (λ o. o))

pub nested_reads : (d : ℕ) → Reads d (Nested d) (nested d)
unfolding nested
nested_reads zero ts = over_none ts
nested_reads (suc d) ts = expression_reads d (Nested d) (nested d) (m.nested_moves d) (nested_reads d) ts
