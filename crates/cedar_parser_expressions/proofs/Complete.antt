-- Each reading is what is read from left to right.
use Rattle.std.proofs.Common.{◌≡◌, refl, ap, ◌∙◌, ℕ, zero, suc, ◌≤◌, ◌<◌, Bool, true, false, cond, eqb, List, [], ◌∷◌, ◌++◌, length, Option, Some, None, Ok, Err, ◌⊎◌, inl, inr, arith}
use Rattle.std.specs.Prelude.{◌||◌}
use Rattle.std.proofs.lemmas.Bool.{eqb-true}
use Rattle.cedar_text.specs.declared.token_kind.TokenKind.{TokenKind}
use Rattle.cedar_text.specs.declared.token_kind.TokenKind.TheVariants as k
use Rattle.cedar_ast_expressions.specs.declared.variable.Variable.{Variable}
use Rattle.cedar_parser_tokens.specs.declared.content.WrittenUid.{WrittenUid}
use Rattle.cedar_parser_tree.specs.declared.sign.ChainSign.{ChainSign}
use Rattle.cedar_parser_tree.specs.declared.sign.RelationSign.{RelationSign}
use Rattle.cedar_parser_tree.specs.declared.written.Field.{Field}
use Rattle.cedar_parser_tree.specs.declared.written.Link.{Link}
use Rattle.cedar_parser_tree.specs.declared.written.Link.TheVariants.{Operand, Attribute, Method}
use Rattle.cedar_parser_tokens.specs.Marks.{Mark, Marks, pattern_of}
use Rattle.cedar_parser_tree.specs.Written as w
use Rattle.cedar_parser_tokens.specs.Content.{Content}
use Rattle.cedar_parser_tree.specs.Written.{Written, members_of}
use Rattle.cedar_parser_tree.specs.WrittenKind.{fields_of}
use Rattle.cedar_parser_expressions.specs.Grammar as g
use Rattle.cedar_parser_tokens.specs.Names.{Rule, Takes, Text, Path, Entity}
use Rattle.cedar_parser_expressions.specs.Grammar.{Opens, Series, Arguments, Entry, Further, Attributes, variable_of, slot_of, Primary, Suffixes, Member, Signed, Unary, Operands, chained, Chain, or_sign, and_sign, add_sign, mult_sign, relation_sign_of, Mult, Add, Relation, And, Or, Expression, Nested}
use Rattle.cedar_parser_expressions.specs.Reading as r
use Rattle.cedar_parser_tokens.specs.Reading.{TooDeep, Outcome, Parser, and_then, same_kind, sees, expect, sign_at, on_some, next}
use Rattle.cedar_parser_expressions.specs.Reading.{links_from, chain, nested}
use Rattle.cedar_parser_tokens.proofs.Outcomes.{Answers, given, deep, answers_then, answers_by}
use Rattle.cedar_parser_expressions.proofs.StepLemmas.{answers_flat}
use Rattle.cedar_parser_expressions.proofs.Moves as m
use Rattle.cedar_parser_expressions.proofs.Moves.{shorter, takes_moves, Advances}
use Rattle.cedar_parser_expressions.proofs.Binds as b
use Rattle.cedar_parser_expressions.proofs.Binds.{bind, bind_at, Above, Below, Begins, start, no_sign, takes_bind, sees_nothing, sees_no}
use Rattle.cedar_parser_tokens.proofs.NamesComplete.{sees_other, sees_yes, next_is, if_true, if_false, at_next, expect_then, known_then, text_yes, key_yes, path_yes, expect_yes, uid_of_yes, stops_at_id, no_path_on, path_first}

-- Where R reads a up to us, and the token there binds more loosely than n, the parser answers it.
abbrev pub Complete : {A : Type 0} → Type 0 → Rule A → ℕ → Parser A → Type 0
Complete {A} P R n p = (ts : Marks) (a : A) (us : Marks) → R ts a us → bind_at us < n → Answers P (p ts) a us

left_true : (x y : Bool) → x ≡ true → (x || y) ≡ true
left_true true y e = refl
left_true false y e = absurd cc

right_true : (x y : Bool) → y ≡ true → (x || y) ≡ true
right_true true y e = refl
right_true false y e = e

neither_true : (x y : Bool) → x ≡ false → y ≡ false → (x || y) ≡ false
neither_true true y e f = absurd cc
neither_true false y e f = f

-- a path with more after it than a lone word has
path_begins : {ts us : Marks} {p : List ℕ} → Path ts p us → (sees k.DoubleColon us ≡ true) ⊎ (sees k.LeftParen us ≡ true) → r.begins_path ts ≡ true
path_begins {ts = ts} (g.word h) (inl e) = left_true (sees k.DoubleColon (next ts)) (sees k.LeftParen (next ts)) (ap (sees k.DoubleColon) (next_is h) ∙ e)
path_begins {ts = ts} (g.word h) (inr e) = right_true (sees k.DoubleColon (next ts)) (sees k.LeftParen (next ts)) (ap (sees k.LeftParen) (next_is h) ∙ e)
path_begins (g.longer h c i) e = path_begins h (inl (sees_yes c))

entity_first : {ts us : Marks} {u : WrittenUid} → Entity ts u us → (t : Mark) × (vs : Marks) × Takes k.Identifier t ts vs
entity_first (g.entity h c t) = path_first h

-- ---- lists

module _ {A : Type 0} (P : Type 0) (Item : Rule A) (item : Parser A) (high : ℕ) (advances : Advances Item) (begins : Begins 1 high Item) (complete : Complete P Item 1 item) where
  series_on : (ts : Marks) (xs : List A) (us : Marks) → Series Item ts xs us → bind_at us < 1 → (found : List A) (vs : Marks)
      → ((turns : ℕ) → length us ≤ turns → Answers P (r.series_from item turns xs us) found vs) → Answers P (r.series item ts) found vs
  unfolding r.series_from
  series_on ts _ us (g.one {a = a} i) lt found vs h = answers_then (item ts) a us _ found vs (complete ts a us i lt) (h (length us) (omega arith))
  series_on ts _ us (g.next {us = xs} {vs = ys} {as' = before} {a = a} s c i) lt found vs h =
      series_on ts before xs s (let q = takes_bind c in omega arith) found vs go
    where
      turn : (turns : ℕ) → length ys ≤ turns → Answers P (and_then (item ys) (λ x zs. r.series_from item turns (before ++ x ∷ []) zs)) found vs
      turn turns le = answers_then (item ys) a us _ found vs (complete ys a us i lt) (h turns (let q = shorter (advances _ _ _ i) in omega arith))

      go : (turns : ℕ) → length xs ≤ turns → Answers P (r.series_from item turns before xs) found vs
      go zero le = absurd (let q = shorter (takes_moves c) in omega arith)
      go (suc turns) le = if_true _ _ (sees_yes c) (at_next (λ zs. and_then (item zs) (λ x zs. r.series_from item turns (before ++ x ∷ []) zs)) c (turn turns (let q = shorter (takes_moves c) in omega arith)))

  series_stops : (turns : ℕ) (xs : List A) (us : Marks) → sees k.Comma us ≡ false → Answers P (r.series_from item turns xs us) xs us
  unfolding r.series_from
  series_stops zero xs us h = given
  series_stops (suc turns) xs us h = if_false _ _ h given

  pub arguments_complete : (closer : TokenKind) → bind closer < 1 → same_kind closer k.Comma ≡ false → start closer ≡ 0
      → (ts us vs : Marks) (t : Mark) (xs : List A) → Arguments Item ts xs us → Takes closer t us vs → Answers P (r.arguments item closer ts) xs vs
  unfolding r.arguments
  arguments_complete closer loose comma no_start ts us vs t xs g.none c = if_true _ _ (sees_yes c) (answers_by (ap (λ (ys : Marks). Ok ([], ys)) (next_is c)) given)
  arguments_complete closer loose comma no_start ts us vs t xs (g.some s) c =
      let starts = b.series_starts Item high begins _ _ _ s in
      let unseen = sees_no closer ts (λ e. omega arith) in
      let bound = takes_bind c in
      if_false _ _ unseen
      (answers_then (r.series item ts) xs us _ xs vs
      (series_on ts xs us s (omega arith) xs us (λ turns _. series_stops turns xs us (sees_other k.Comma c comma)))
      (expect_then (λ q ys. Ok (xs, ys)) c given))

-- ---- what follows `has`

-- What the turns from us on answer, the whole answers.
further_on : (ts : Marks) (names : List (List ℕ)) (us : Marks) → Further ts names us → (found : List (List ℕ)) (vs : Marks)
    → ((turns : ℕ) → length us ≤ turns → r.further_from turns names us ≡ Ok (found, vs)) → r.further ts ≡ Ok (found, vs)
unfolding r.further r.further_from
further_on ts _ us g.none found vs turn = turn (length ts) (omega arith)
further_on ts _ us (g.more {us = xs} {vs = ys} {names = names} {t = t} f c i) found vs turn = further_on ts names xs f found vs go
  where
    step : (turns : ℕ) → length us ≤ turns → and_then (expect k.Identifier (next xs)) (λ t us. r.further_from turns (names ++ t.text ∷ []) us) ≡ Ok (found, vs)
    step turns le =
        ap (λ zs. and_then (expect k.Identifier zs) (λ t us. r.further_from turns (names ++ t.text ∷ []) us)) (next_is c)
        ∙ ap (λ x. and_then x (λ t us. r.further_from turns (names ++ t.text ∷ []) us)) (expect_yes i) ∙ turn turns le

    go : (turns : ℕ) → length xs ≤ turns → r.further_from turns names xs ≡ Ok (found, vs)
    go zero le = absurd (let l = shorter (takes_moves c) in omega arith)
    go (suc turns) le =
        ap (λ q. cond q (and_then (expect k.Identifier (next xs)) (λ t us. r.further_from turns (names ++ t.text ∷ []) us)) (Ok (names, xs))) (sees_yes c)
        ∙ step turns (let l = shorter (takes_moves c) in let l' = shorter (takes_moves i) in omega arith)

further_stops : (turns : ℕ) (names : List (List ℕ)) (us : Marks) → sees k.Dot us ≡ false → r.further_from turns names us ≡ Ok (names, us)
unfolding r.further_from
further_stops zero names us h = refl
further_stops (suc turns) names us h =
    ap (λ q. cond q (and_then (expect k.Identifier (next us)) (λ t vs. r.further_from turns (names ++ t.text ∷ []) vs)) (Ok (names, us))) h

further_yes : {ts us : Marks} {names : List (List ℕ)} → Further ts names us → sees k.Dot us ≡ false → r.further ts ≡ Ok (names, us)
further_yes {ts = ts} {us = us} {names = names} f e = further_on ts names us f names us (λ turns _. further_stops turns names us e)

text_there : {ts us : Marks} {c : Content} → Text ts c us → sees k.String ts ≡ true
text_there (g.string h) = sees_yes h

-- Where no point follows them, the attributes are read.
attributes_yes : {ts us : Marks} {path : Content × List (List ℕ)} → Attributes ts path us → sees k.Dot us ≡ false → r.attributes ts ≡ Ok (path, us)
unfolding r.attributes
attributes_yes {ts = ts} (g.quoted t) e =
    ap (λ q. cond q (and_then (r.text ts) (λ c us. Ok ((c, []), us))) (and_then (expect k.Identifier ts) (λ t us. and_then (r.further us) (λ names vs. Ok ((Some t.text, names), vs))))) (text_there t)
    ∙ ap (λ x. and_then x (λ c us. Ok ((c, []), us))) (text_yes t)
attributes_yes {ts = ts} (g.words {t = t} h f) e =
    ap (λ q. cond q (and_then (r.text ts) (λ c us. Ok ((c, []), us))) (and_then (expect k.Identifier ts) (λ t us. and_then (r.further us) (λ names vs. Ok ((Some t.text, names), vs))))) (sees_other k.String h refl)
    ∙ ap (λ x. and_then x (λ t us. and_then (r.further us) (λ names vs. Ok ((Some t.text, names), vs)))) (expect_yes h)
    ∙ ap (λ x. and_then x (λ names vs. Ok ((Some t.text, names), vs))) (further_yes f e)

-- ---- chains

module _ (P : Type 0) (signs : TokenKind → Option ChainSign) (item : Parser Written) (Item : Rule Written) (n : ℕ) (below : Below n signs) (advances : Advances Item) (complete : Complete P Item n item) where
  -- Where the links are read on from the first ones, the whole is.
  chain_on : (ts : Marks) (a : Written) (ls : List Link) (us : Marks) → Operands signs Item ts a ls us → bind_at us < n → (found : List Link) (vs : Marks)
      → ((turns : ℕ) → length us ≤ turns → Answers P (links_from signs item turns ls us) found vs) → Answers P (chain signs item ts) (chained a found) vs
  unfolding links_from r.kind_at next
  chain_on ts a ls us (g.first i) lt found vs h = answers_then (item ts) a us _ (chained a found) vs (complete ts a us i lt) (answers_then (links_from signs item (length us) [] us) found vs _ (chained a found) vs (h (length us) (omega arith)) given)
  chain_on ts a _ us (g.more {us = xs} {b = b'} {ls = ls} {t = t} {sign = sign} left s i) lt found vs h =
      chain_on ts a ls (t ∷ xs) left (below t.kind sign s) found vs go
    where
      turn : (turns : ℕ) → length xs ≤ turns → Answers P (on_some (signs t.kind) (Ok (ls, t ∷ xs)) (λ q. and_then (item xs) (λ x ys. links_from signs item turns (ls ++ Operand q x ∷ []) ys))) found vs
      turn turns le = answers_by (ap (λ (o : Option ChainSign). on_some o (Ok (ls, t ∷ xs)) (λ q. and_then (item xs) (λ x ys. links_from signs item turns (ls ++ Operand q x ∷ []) ys))) s)
          (answers_then (item xs) b' us _ found vs (complete xs b' us i lt) (h turns (let q = shorter (advances _ _ _ i) in omega arith)))

      go : (turns : ℕ) → length (t ∷ xs) ≤ turns → Answers P (links_from signs item turns ls (t ∷ xs)) found vs
      go zero le = absurd (omega arith)
      go (suc turns) le = turn turns (omega arith)

  stops : (turns : ℕ) (ls : List Link) (us : Marks) → sign_at signs us ≡ None → Answers P (links_from signs item turns ls us) ls us
  unfolding links_from
  stops zero ls us h = given
  stops (suc turns) ls us h = answers_by (ap (λ (o : Option ChainSign). on_some o (Ok (ls, us)) (λ sign. and_then (item (next us)) (λ x ys. links_from signs item turns (ls ++ Operand sign x ∷ []) ys))) h) given

  pub chain_complete : (low : ℕ) → Above low signs → low ≤ n → Complete P (Chain signs Item) low (chain signs item)
  chain_complete low above le ts _ us (g.operands {a = a} {ls = ls} o) lt = chain_on ts a ls us o (omega arith) ls us (λ turns _. stops turns ls us (no_sign low signs above us lt))

-- ---- one level after the other

module _ (P : Type 0) (d' d : ℕ) (less : d < d' → P) (Inner : Rule Written) (inner : Parser Written) (advances : Advances Inner) (begins : Begins 1 4 Inner) (complete : Complete P Inner 1 inner) where
  open_by : {A : Type 0} {q : TokenKind} {t : Mark} {ts us vs : Marks} {a : A} (go : Unit {0} → Marks → Outcome A) (c : Bool) → eqb d 0 ≡ c → Opens d' q t ts us → Answers P (go tt us) a vs
      → Answers P (and_then (cond c (Err TooDeep) (Ok (tt, next ts))) go) a vs
  open_by go true e o h = deep (less (let z = eqb-true d 0 e in let some = o.allowed in omega arith))
  open_by go false e o h = at_next (λ zs. go tt zs) o.takes h

  open_then : {A : Type 0} {q : TokenKind} {t : Mark} {ts us vs : Marks} {a : A} (go : Unit {0} → Marks → Outcome A) → Opens d' q t ts us → Answers P (go tt us) a vs → Answers P (and_then (r.open_one d ts) go) a vs
  unfolding r.open_one
  open_then go o h = open_by go (eqb d 0) refl o h

  entry_complete : Complete P (Entry Inner) 1 (r.entry inner)
  unfolding r.entry
  entry_complete ts _ us (g.entry {vs = vs} {c = c} {a = a} key colon i) lt =
      known_then _ (key_yes key) (expect_then _ colon (answers_then (inner vs) a us _ (record { key = c; value = a }) us (complete vs a us i lt) given))

  called_complete : {us vs ws xs : Marks} {l q : Mark} {found : List Written} → Opens d' k.LeftParen l us vs → Arguments Inner vs found ws → Takes k.RightParen q ws xs → Answers P (r.called d inner us) found xs
  unfolding r.called
  called_complete o xs c = open_then _ o (arguments_complete P Inner inner 4 advances begins complete k.RightParen (omega arith) refl refl _ _ _ _ _ xs c)

  primary_at : {q : TokenKind} {t : Mark} {ts us vs : Marks} {a : Written} → Takes q t ts us → Answers P (r.primary_by d inner q t ts) a vs → Answers P (r.primary d inner ts) a vs
  unfolding r.primary r.first
  primary_at {t = t} {ts = ts} h e = answers_by (ap (λ (xs : Marks). r.primary_of d inner (r.first xs) ts) h.whole ∙ ap (λ q. r.primary_by d inner q t ts) h.is) e

  named_variable : {t : Mark} {ts us : Marks} {x : Variable} → Takes k.Identifier t ts us → variable_of t.text ≡ Some x → bind_at us < 7 → Answers P (r.named d inner ts) (w.variable x) us
  unfolding r.named r.variable
  named_variable {t = t} {ts = ts} {us = us} h e lt =
      if_false _ _ (neither_true (sees k.DoubleColon (next ts)) (sees k.LeftParen (next ts)) (ap (sees k.DoubleColon) (next_is h) ∙ sees_nothing k.DoubleColon us lt)
      (ap (sees k.LeftParen) (next_is h) ∙ sees_nothing k.LeftParen us lt))
      (expect_then (λ t us. r.variable_read (variable_of t.text) us) h (answers_by (ap (λ (o : Option Variable). r.variable_read o us) e) given))

  slot_read : {t : Mark} {ts us : Marks} {x : Variable} → Takes k.Slot t ts us → slot_of t.text ≡ Some x → Answers P (r.slot ts) (w.slot x) us
  unfolding r.slot
  slot_read {us = us} h e = expect_then (λ t us. r.slot_read (slot_of t.text) us) h (answers_by (ap (λ (o : Option Variable). r.slot_read o us) e) given)

  named_uid : {ts us : Marks} {u : WrittenUid} → Entity ts u us → Answers P (r.named d inner ts) (w.entity u) us
  unfolding r.named r.with_path
  named_uid (g.entity {p = p} h c t) =
      if_true _ _ (path_begins h (inl (sees_yes c))) (known_then _ (path_yes h (stops_at_id c t)) (if_false _ _ (sees_other k.LeftParen c refl) (known_then _ (uid_of_yes p c t) given)))

  named_call : {ts us vs ws xs : Marks} {l q : Mark} {p : List ℕ} {found : List Written} → Path ts p us → Opens d' k.LeftParen l us vs → Arguments Inner vs found ws → Takes k.RightParen q ws xs
      → Answers P (r.named d inner ts) (w.call p (members_of found)) xs
  unfolding r.named r.with_path
  named_call {us = us} {xs = xs} {p = p} {found = found} h o list c =
      if_true _ _ (path_begins h (inr (sees_yes o.takes))) (known_then _ (path_yes h (no_path_on us (sees_other k.DoubleColon o.takes refl)))
      (if_true _ _ (sees_yes o.takes) (answers_then (r.called d inner us) found xs _ (w.call p (members_of found)) xs (called_complete o list c) given)))

  grouped : {ts us vs ws : Marks} {l q : Mark} {a : Written} → Opens d' k.LeftParen l ts us → Inner us a vs → Takes k.RightParen q vs ws → Answers P (r.group d inner ts) (w.group a) ws
  unfolding r.group
  grouped {us = us} {vs = vs} {ws = ws} {a = a} o i c =
      open_then _ o (answers_then (inner us) a vs _ (w.group a) ws (complete us a vs i (let e = takes_bind c in omega arith)) (expect_then (λ q xs. Ok (w.group a, xs)) c given))

  set_of : {ts us vs ws : Marks} {l q : Mark} {found : List Written} → Opens d' k.LeftBracket l ts us → Arguments Inner us found vs → Takes k.RightBracket q vs ws
      → Answers P (r.set d inner ts) (w.set (members_of found)) ws
  unfolding r.set
  set_of {us = us} {ws = ws} {found = found} o list c =
      open_then _ o (answers_then (r.arguments inner k.RightBracket us) found ws _ (w.set (members_of found)) ws
      (arguments_complete P Inner inner 4 advances begins complete k.RightBracket (omega arith) refl refl _ _ _ _ _ list c) given)

  record_with : {ts us vs ws : Marks} {l q : Mark} {found : List Field} → Opens d' k.LeftBrace l ts us → Arguments (Entry Inner) us found vs → Takes k.RightBrace q vs ws
      → Answers P (r.record_of d inner ts) (w.record_of (fields_of found)) ws
  unfolding r.record_of
  record_with {us = us} {ws = ws} {found = found} o list c =
      open_then _ o (answers_then (r.arguments (r.entry inner) k.RightBrace us) found ws _ (w.record_of (fields_of found)) ws
      (arguments_complete P (Entry Inner) (r.entry inner) 1 (m.entry_moves Inner advances) (b.entry_starts Inner) entry_complete k.RightBrace (omega arith) refl refl _ _ _ _ _ list c) given)

  text_at : {ts us : Marks} {c : Content} → Text ts c us → Answers P (r.primary d inner ts) (w.text c) us
  text_at (g.string h) = primary_at h (known_then (λ s us. Ok (w.text s, us)) (text_yes (g.string h)) given)

  uid_at : {ts us : Marks} {u : WrittenUid} → Entity ts u us → Answers P (r.primary d inner ts) (w.entity u) us
  uid_at h = primary_at (entity_first h).2 (named_uid h)

  pub primary_complete : Complete P (Primary d' Inner) 7 (r.primary d inner)
  primary_complete ts a us (g.yes h) lt = primary_at h (answers_by (ap (λ (xs : Marks). Ok (w.truth true, xs)) (next_is h)) given)
  primary_complete ts a us (g.no h) lt = primary_at h (answers_by (ap (λ (xs : Marks). Ok (w.truth false, xs)) (next_is h)) given)
  primary_complete ts a us (g.number {t = t} h) lt = primary_at h (answers_by (ap (λ (xs : Marks). Ok (w.number t.number, xs)) (next_is h)) given)
  primary_complete ts a us (g.text h) lt = text_at h
  primary_complete ts a us (g.uid h) lt = uid_at h
  primary_complete ts a us (g.variable h e) lt = primary_at h (named_variable h e lt)
  primary_complete ts a us (g.slot h e) lt = primary_at h (slot_read h e)
  primary_complete ts a us (g.call p o list c) lt = primary_at (path_first p).2 (named_call p o list c)
  primary_complete ts a us (g.group o i c) lt = primary_at o.takes (grouped o i c)
  primary_complete ts a us (g.set o list c) lt = primary_at o.takes (set_of o list c)
  primary_complete ts a us (g.record_of o list c) lt = primary_at o.takes (record_with o list c)

  -- ---- what follows

  dot_there : {t : Mark} {ts us : Marks} → Takes k.Dot t ts us → r.has_suffix ts ≡ true
  dot_there {ts = ts} h = left_true (sees k.Dot ts) (sees k.LeftBracket ts) (sees_yes h)

  bracket_there : {t : Mark} {ts us : Marks} → Takes k.LeftBracket t ts us → r.has_suffix ts ≡ true
  bracket_there {ts = ts} h = right_true (sees k.Dot ts) (sees k.LeftBracket ts) (sees_yes h)

  attribute_there : {us vs ws : Marks} {p t : Mark} → Takes k.Dot p us vs → Takes k.Identifier t vs ws → bind_at ws < 7 → Answers P (r.suffix d inner us) (Attribute (Some t.text)) ws
  unfolding r.suffix r.dotted
  attribute_there {ws = ws} p t lt = if_true _ _ (sees_yes p) (at_next (r.dotted d inner) p (expect_then _ t (if_false _ _ (sees_nothing k.LeftParen ws lt) given)))

  index_there : {us vs ws xs : Marks} {l q : Mark} {c : Content} → Opens d' k.LeftBracket l us vs → Text vs c ws → Takes k.RightBracket q ws xs → Answers P (r.suffix d inner us) (Attribute c) xs
  unfolding r.suffix r.indexed
  index_there o t c = if_false _ _ (sees_other k.Dot o.takes refl) (open_then _ o (known_then _ (text_yes t) (expect_then _ c given)))

  method_there : {us vs ws xs ys zs : Marks} {p t l q : Mark} {found : List Written} → Takes k.Dot p us vs → Takes k.Identifier t vs ws → Opens d' k.LeftParen l ws xs → Arguments Inner xs found ys
      → Takes k.RightParen q ys zs → Answers P (r.suffix d inner us) (Method t.text found) zs
  unfolding r.suffix r.dotted
  method_there {ws = ws} {zs = zs} {t = t} {found = found} p h o list c =
      if_true _ _ (sees_yes p) (at_next (r.dotted d inner) p (expect_then _ h (if_true _ _ (sees_yes o.takes)
      (answers_then (r.called d inner ws) found zs _ (Method t.text found) zs (called_complete o list c) given))))

  -- one more turn
  turned : (xs us : Marks) {vs : Marks} {found : List Link} (ls : List Link) (l : Link) → r.has_suffix xs ≡ true → Answers P (r.suffix d inner xs) l us → length us < length xs
      → ((turns : ℕ) → length us ≤ turns → Answers P (r.suffixes_from d inner turns (ls ++ l ∷ []) us) found vs)
      → (turns : ℕ) → length xs ≤ turns → Answers P (r.suffixes_from d inner turns ls xs) found vs
  unfolding r.suffixes_from
  turned xs us ls l there s less' h zero le = absurd (omega arith)
  turned xs us {vs = vs} {found = found} ls l there s less' h (suc turns) le =
      if_true _ _ there (answers_then (r.suffix d inner xs) l us _ found vs s (h turns (omega arith)))

  member_on : (ts : Marks) (a : Written) (ls : List Link) (us : Marks) → Suffixes d' Inner ts a ls us → bind_at us < 7 → (found : List Link) (vs : Marks)
      → ((turns : ℕ) → length us ≤ turns → Answers P (r.suffixes_from d inner turns ls us) found vs) → Answers P (r.member d inner ts) (chained a found) vs
  unfolding r.member
  member_on ts a ls us (g.first p) lt found vs h =
      answers_then (r.primary d inner ts) a us _ (chained a found) vs (primary_complete ts a us p lt) (answers_then (r.suffixes d inner us) found vs _ (chained a found) vs (h (length us) (omega arith)) given)
  member_on ts a _ us (g.attribute {us = xs} {ls = ls} {t = t} s p i) lt found vs h =
      member_on ts a ls xs s (let q = takes_bind p in omega arith) found vs
      (turned xs us ls (Attribute (Some t.text)) (dot_there p) (attribute_there p i lt) (shorter (m.dot_moves d' Inner advances p i)) h)
  member_on ts a _ us (g.index {us = xs} {ls = ls} {c = key} s o t q) lt found vs h =
      member_on ts a ls xs s (let e = takes_bind o.takes in omega arith) found vs
      (turned xs us ls (Attribute key) (bracket_there o.takes) (index_there o t q) (shorter (m.index_moves d' Inner advances o t q)) h)
  member_on ts a _ us (g.method {us = xs} {ls = ls} {t = t} {as' = list'} s p i o list q) lt found vs h =
      member_on ts a ls xs s (let e = takes_bind p in omega arith) found vs
      (turned xs us ls (Method t.text list') (dot_there p) (method_there p i o list q) (shorter (m.method_moves d' Inner advances p i o list q)) h)

  member_stops : (turns : ℕ) (ls : List Link) (us : Marks) → r.has_suffix us ≡ false → Answers P (r.suffixes_from d inner turns ls us) ls us
  unfolding r.suffixes_from
  member_stops zero ls us h = given
  member_stops (suc turns) ls us h = if_false _ _ h given

  pub member_complete : Complete P (Member d' Inner) 6 (r.member d inner)
  member_complete ts _ us (g.suffixes {a = a} {ls = ls} s) lt =
      let none = neither_true (sees k.Dot us) (sees k.LeftBracket us) (sees_nothing k.Dot us lt) (sees_nothing k.LeftBracket us lt) in
      member_on ts a ls us s (omega arith) ls us (λ turns _. member_stops turns ls us none)

  -- ---- signs

  nots_complete : (n : ℕ) (ts : Marks) (a : Written) (us : Marks) → Signed d' Inner k.Not w.not n ts a us → bind_at us < 6 → Answers P (r.nots d inner n ts) a us
  unfolding r.nots
  nots_complete n ts a us (g.bare p) lt = go n
    where
      go : (n : ℕ) → Answers P (r.nots d inner n ts) a us
      go zero = member_complete ts a us p lt
      go (suc n) = let s = b.member_starts d' Inner ts a us p in if_false _ _ (sees_no k.Not ts (λ e. omega arith)) (member_complete ts a us p lt)
  nots_complete _ ts _ us (g.signed {n = n} {us = xs} {a = a} t p) lt =
      if_true _ _ (sees_yes t) (at_next (λ zs. and_then (r.nots d inner n zs) (λ x zs. Ok (w.not x, zs))) t
      (answers_then (r.nots d inner n xs) a us _ (w.not a) us (nots_complete n xs a us p lt) given))

  minuses_complete : (n : ℕ) (ts : Marks) (a : Written) (us : Marks) → Signed d' Inner k.Minus w.minus n ts a us → bind_at us < 6 → Answers P (r.minuses d inner n ts) a us
  unfolding r.minuses
  minuses_complete n ts a us (g.bare p) lt = go n
    where
      go : (n : ℕ) → Answers P (r.minuses d inner n ts) a us
      go zero = member_complete ts a us p lt
      go (suc n) = let s = b.member_starts d' Inner ts a us p in if_false _ _ (sees_no k.Minus ts (λ e. omega arith)) (member_complete ts a us p lt)
  minuses_complete _ ts _ us (g.signed {n = n} {us = xs} {a = a} t p) lt =
      if_true _ _ (sees_yes t) (at_next (λ zs. and_then (r.minuses d inner n zs) (λ x zs. Ok (w.minus x, zs))) t
      (answers_then (r.minuses d inner n xs) a us _ (w.minus a) us (minuses_complete n xs a us p lt) given))

  unary_complete : Complete P (Unary d' Inner) 6 (r.unary d inner)
  unfolding r.unary
  unary_complete ts a us (g.nots p) lt =
      if_false _ _ (sees_no k.Minus ts (λ e. (elim (b.signed_starts d' Inner k.Not w.not 4 ts a us p) [ inl h ↦ omega arith | inr h ↦ omega arith ]))) (nots_complete 4 ts a us p lt)
  unary_complete ts a us (g.minuses (g.bare p)) lt =
      let s = b.member_starts d' Inner ts a us p in
      if_false _ _ (sees_no k.Minus ts (λ e. omega arith)) (nots_complete 4 ts a us (g.bare p) lt)
  unary_complete ts a us (g.minuses (g.signed t p)) lt = if_true _ _ (sees_yes t) (minuses_complete 4 ts a us (g.signed t p) lt)

  mult_complete : Complete P (Mult d' Inner) 5 (r.mult d inner)
  unfolding r.mult
  mult_complete = chain_complete P mult_sign (r.unary d inner) (Unary d' Inner) 6 b.mult_below (m.unary_moves d' Inner advances) unary_complete 5 b.product_above (omega arith)

  add_complete : Complete P (Add d' Inner) 4 (r.add d inner)
  unfolding r.add
  add_complete = chain_complete P add_sign (r.mult d inner) (Mult d' Inner) 5 b.add_below (m.mult_move d' Inner advances) mult_complete 4 b.sum_above (omega arith)

  related_alone : (a : Written) (us : Marks) → bind_at us < 3 → Answers P (r.related d inner a us) a us
  unfolding r.related
  related_alone a us lt =
      answers_by (ap (λ (o : Option RelationSign). on_some o (Ok (a, us)) (λ sign. and_then (r.add d inner (next us)) (λ right ys. Ok (w.relation sign a right, ys)))) (no_sign 3 relation_sign_of b.relation_above us lt)) given

  related_pair : (a c : Written) (t : Mark) (xs us : Marks) (sign : RelationSign) → relation_sign_of t.kind ≡ Some sign → Add d' Inner xs c us → bind_at us < 3
      → Answers P (r.related d inner a (t ∷ xs)) (w.relation sign a c) us
  unfolding r.related r.kind_at next
  related_pair a c t xs us sign e i lt =
      answers_by (ap (λ (o : Option RelationSign). on_some o (Ok (a, t ∷ xs)) (λ sign. and_then (r.add d inner xs) (λ right ys. Ok (w.relation sign a right, ys)))) e)
      (answers_then (r.add d inner xs) c us _ (w.relation sign a c) us (add_complete xs c us i (omega arith)) given)

  typed_there : {vs ws : Marks} {ty : List ℕ} (a : Written) → Path vs ty ws → bind_at ws < 3 → Answers P (r.typed d inner a vs) (w.is a ty) ws
  unfolding r.typed r.of_type
  typed_there {ws = ws} a p lt =
      known_then _ (path_yes p (no_path_on ws (sees_nothing k.DoubleColon ws (omega arith)))) (if_false _ _ (sees_nothing k.In ws lt) given)

  typed_in_there : {vs ws xs us : Marks} {ty : List ℕ} {t : Mark} (a c : Written) → Path vs ty ws → Takes k.In t ws xs → Add d' Inner xs c us → bind_at us < 3
      → Answers P (r.typed d inner a vs) (w.is_in a ty c) us
  unfolding r.typed r.of_type
  typed_in_there {ws = ws} {xs = xs} {us = us} {ty = ty} a c p t i lt =
      known_then _ (path_yes p (no_path_on ws (sees_other k.DoubleColon t refl))) (if_true _ _ (sees_yes t)
      (at_next (λ zs. and_then (r.add d inner zs) (λ right ys. Ok (w.is_in a ty right, ys))) t (answers_then (r.add d inner xs) c us _ (w.is_in a ty c) us (add_complete xs c us i (omega arith)) given)))

  relation_complete : Complete P (Relation d' Inner) 3 (r.relation d inner)
  unfolding r.relation r.relation_from r.asked r.matched r.pattern sees
  relation_complete ts a us (g.alone q) lt =
      answers_then (r.add d inner ts) a us _ a us (add_complete ts a us q (omega arith))
      (if_false _ _ (sees_nothing k.Has us lt) (if_false _ _ (sees_nothing k.Like us lt) (if_false _ _ (sees_nothing k.Is us lt) (related_alone a us lt))))
  relation_complete ts _ us (g.pair {us = xs} {a = a} {b = c} {t = t} {sign = sign} q e i) lt =
      answers_then (r.add d inner ts) a (t ∷ xs) _ (w.relation sign a c) us (add_complete ts a (t ∷ xs) q (b.relation_below t.kind sign e))
      (if_false _ _ (b.sign_apart t.kind k.Has sign e refl) (if_false _ _ (b.sign_apart t.kind k.Like sign e refl) (if_false _ _ (b.sign_apart t.kind k.Is sign e refl) (related_pair a c t xs us sign e i lt))))
  relation_complete ts _ us (g.has {us = xs} {a = a} {path = path} q t i) lt =
      answers_then (r.add d inner ts) a xs _ (w.has a path.0 path.1) us (add_complete ts a xs q (let e = takes_bind t in omega arith))
      (if_true _ _ (sees_yes t) (at_next (r.asked a) t (known_then _ (attributes_yes i (sees_nothing k.Dot us (omega arith))) given)))
  relation_complete ts _ us (g.like {us = xs} {vs = ys} {a = a} {s = s} q t i) lt =
      answers_then (r.add d inner ts) a xs _ (w.like a (pattern_of s.letters)) us (add_complete ts a xs q (let e = takes_bind t in omega arith))
      (if_false _ _ (sees_other k.Has t refl) (if_true _ _ (sees_yes t) (at_next (r.matched a) t (answers_flat (expect k.String ys) _ _ (expect_then _ i given)))))
  relation_complete ts _ us (g.is {us = xs} {a = a} {ty = ty} q t p) lt =
      answers_then (r.add d inner ts) a xs _ (w.is a ty) us (add_complete ts a xs q (let e = takes_bind t in omega arith))
      (if_false _ _ (sees_other k.Has t refl) (if_false _ _ (sees_other k.Like t refl) (if_true _ _ (sees_yes t) (at_next (r.typed d inner a) t (typed_there a p lt)))))
  relation_complete ts _ us (g.is_in {us = xs} {a = a} {b = c} {ty = ty} q t p s i) lt =
      answers_then (r.add d inner ts) a xs _ (w.is_in a ty c) us (add_complete ts a xs q (let e = takes_bind t in omega arith))
      (if_false _ _ (sees_other k.Has t refl) (if_false _ _ (sees_other k.Like t refl) (if_true _ _ (sees_yes t) (at_next (r.typed d inner a) t (typed_in_there a c p s i lt)))))

  and_complete : Complete P (And d' Inner) 2 (r.and d inner)
  unfolding r.and
  and_complete = chain_complete P and_sign (r.relation d inner) (Relation d' Inner) 3 b.and_below (m.relation_moves d' Inner advances) relation_complete 2 b.and_above (omega arith)

  or_complete : Complete P (Or d' Inner) 1 (r.or d inner)
  unfolding r.or
  or_complete = chain_complete P or_sign (r.and d inner) (And d' Inner) 2 b.or_below (m.and_move d' Inner advances) and_complete 1 b.or_above (omega arith)

  pub expression_complete : Complete P (Expression d' Inner) 1 (r.expression d inner)
  unfolding r.expression r.choice r.branches r.before_else r.behind_else
  expression_complete ts a us (g.or o) lt =
      let s = b.ors_start d' Inner ts a us o in
      if_false _ _ (sees_no k.If ts (λ e. omega arith)) (or_complete ts a us o lt)
  expression_complete ts _ us (g.choice {c0 = c0} {c1 = c1} {a0 = a0} {a1 = a1} {b0 = b0} {c = c} {a = x} {b = y} i p t q s o) lt =
      let bound_t = takes_bind t in
      let bound_s = takes_bind s in
      if_true _ _ (sees_yes i.takes) (open_then _ i
      (answers_then (inner c0) c c1 _ (w.choice c x y) us (complete c0 c c1 p (omega arith)) (expect_then _ t
      (answers_flat (inner a0) _ _ (answers_then (inner a0) x a1 _ (w.choice c x y) us (complete a0 x a1 q (omega arith)) (answers_flat (expect k.Else a1) _ _ (expect_then _ s
      (answers_then (inner b0) y us _ (w.choice c x y) us (complete b0 y us o lt) given))))))))

-- A reading with less than d' open is what the parser with less than d answers, and it refuses for nesting only where d is the smaller.
pub nested_complete : (d' d : ℕ) (P : Type 0) → (d < d' → P) → Complete P (Nested d') 1 (nested d)
unfolding nested
nested_complete zero d P f ts a us h lt = absurd h
nested_complete (suc d') zero P f ts a us h lt = deep (f (omega arith))
nested_complete (suc d') (suc d) P f ts a us h lt =
    expression_complete P d' d (λ lt. f (omega arith)) (Nested d') (nested d) (m.nested_moves d') (b.nested_starts d') (nested_complete d' d P (λ lt. f (omega arith))) ts a us h lt
