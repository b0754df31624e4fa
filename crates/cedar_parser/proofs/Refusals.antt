-- What the end of a text and each refusal show.
use Rattle.std.proofs.lemmas.Bool.{eqb-true}
use Rattle.std.proofs.Common.{Bool, true, false, cond, eqb, ◌≡◌, refl, sym, ap, subst, ◌∙◌, ℕ, zero, suc, Option, Some, None, ◌+◌, ◌<◌, List, [], ◌∷◌, ◌++◌, length, get_or, Result, Ok, Err, length-append, arith}
use Rattle.std.specs.Prelude.{All, Contains, IfErr, IsSome, unwrap_or, codes, decimal}
use Rattle.std.specs.Str.{bytes_eq}
use Rattle.std.proofs.lemmas.List.{append-nil, get_or_append_left}
use Rattle.cedar_ext.specs.declared.language.Language.{Language}
use Rattle.cedar_ast_expressions.specs.Keys.{AreDistinct}
use Rattle.cedar_ast.specs.PolicySetTree.{PolicySetTree, no_policies, ids_in, id_of}
use Rattle.cedar_ast.specs.declared.statement.Statement.{Statement as Entry}
use Rattle.cedar_parser_tokens.specs.Marks.{Marks}
use Rattle.cedar_parser_limits.specs.declared.side_condition.SideCondition.TheVariants.{Strings, Numbers, Keys, Names, Counts, Slots, Annotations}
use Rattle.cedar_parser_tokens.specs.declared.parse_fault.ParseFault.{ParseFault}
use Rattle.cedar_parser_tokens.specs.declared.parse_fault.ParseFault.TheVariants as f
use Rattle.cedar_parser_statements.specs.Statements.{Statement, Statements, end, next}
use Rattle.cedar_parser_tree.specs.StatementTree.{StatementTree}
use Rattle.cedar_parser_limits.specs.StatementMeaning.{id_in, id_at, written_id, written_ids_from, entered_from, ids_from}
use Rattle.cedar_parser_tokens.specs.Content.{Content, text_of}
use Rattle.cedar_parser_tree.specs.declared.written_statement.WrittenAnnotation.{WrittenAnnotation}
use Rattle.cedar_parser_limits.specs.StatementLimits.{KeepAnnotations, IsWithinLimits, Breaks}
use Rattle.cedar_parser.specs.PolicyText.{ArePolicies, BreaksLimit, TokensFault}
use Rattle.cedar_parser_tokens.specs.Reading.{Syntax, TooDeep}
use Rattle.cedar_parser_statements.specs.StatementReading as st
use Rattle.cedar_parser_tokens.specs.Contract.{Refuses}
use Rattle.cedar_parser.specs.Private.Entering.{RefusesEntry, RefusesAdd, RefusesWhere, refusal_for}
use Rattle.cedar_parser_tokens.proofs.Outcomes.{Meets}
use Rattle.cedar_parser_expressions.proofs.Moves.{shorter, IsOver, over_after, over_deep}
use Rattle.cedar_parser_statements.proofs.StatementMoves.{statement_moves}
use Rattle.cedar_parser_statements.proofs.StatementsSound.{statement_reads, statement_is}
use Rattle.cedar_parser_statements.proofs.StatementsComplete.{statement_none, statement_too_deep}
use Rattle.cedar_parser.proofs.TextLemmas.{IsReadSoFar, GoesOn, comes_next, goes_more, one_behind, ids-append, from_statements}

-- ---- the end

pub nothing_behind : (d : ℕ) (us : Marks) (ss : List StatementTree) → length us ≡ 0 → Statements d us ss [] → ss ≡ []
nothing_behind d us _ e end = refl
nothing_behind d us _ e (next i h) = absurd (let less = shorter (statement_moves d _ _ _ i) in omega arith)

pub read_only : (l : Language) (ts us : Marks) (n : ℕ) (found : PolicySetTree) → IsReadSoFar l ts us n found → length us ≡ 0 → (set : PolicySetTree) → ArePolicies l ts [] set → found ≡ set
read_only l ts us n found so e set h =
    let g = so.only 101 h.statements h.reading in
    let none = nothing_behind 101 us g.behind e g.reading in
    let same : h.statements ≡ so.are_policies.statements = g.whole ∙ ap (λ (xs : List StatementTree). so.are_policies.statements ++ xs) none ∙ append-nil so.are_policies.statements in
    so.are_policies.meaning ∙ ap (entered_from no_policies 0) (sym same) ∙ sym h.meaning

-- ---- a statement that is not read

statements_over : (d : ℕ) (ts us : Marks) (ss : List StatementTree) → Statements d ts ss us → IsOver 101 us → IsOver 101 ts
statements_over d ts us _ end h = h
statements_over d ts us _ (next {us = vs} {ss = ss} i j) h = over_after 101 (statement_moves d _ _ _ i) (statements_over d vs us ss j h) (omega arith)

none_refused : (l : Language) (ts us : Marks) (n : ℕ) (ps : PolicySetTree) → IsReadSoFar l ts us n ps → 0 < length us → st.statement 101 us ≡ Err Syntax → (d : ℕ) (ss : List StatementTree) → Statements d ts ss [] → ⊥
none_refused l ts us n ps so some e d ss h =
    let g = so.only d ss h in
    let c = comes_next d us g.behind some g.reading in
    statement_none d 101 us c.first c.rest c.reading e

none_deep : (l : Language) (ts us : Marks) (n : ℕ) (ps : PolicySetTree) → IsReadSoFar l ts us n ps → 0 < length us → st.statement 101 us ≡ Err TooDeep → (ss : List StatementTree) → Statements 101 ts ss [] → ⊥
none_deep l ts us n ps so some e ss h =
    let g = so.only 101 ss h in
    let c = comes_next 101 us g.behind some g.reading in
    statement_too_deep 101 us c.first c.rest c.reading e

pub unread_only : (l : Language) (ts us : Marks) (n : ℕ) (ps : PolicySetTree) → IsReadSoFar l ts us n ps → 0 < length us → (x : ParseFault) → Refuses (st.statement 101 us) x → (set : PolicySetTree) → ArePolicies l ts [] set → x ≡ f.OutOfMemory
unread_only l ts us n ps so some f.OutOfMemory e set h = refl
unread_only l ts us n ps so some (f.Syntax at) e set h = absurd (none_refused l ts us n ps so some e 101 h.statements h.reading)
unread_only l ts us n ps so some (f.TooDeep at) e set h = absurd (none_deep l ts us n ps so some e h.statements h.reading)
unread_only l ts us n ps so some _ e set h = absurd e

pub unread_fault : (l : Language) (ts us : Marks) (n : ℕ) (ps : PolicySetTree) → IsReadSoFar l ts us n ps → 0 < length us → (x : ParseFault) → Refuses (st.statement 101 us) x → TokensFault l ts x
unread_fault l ts us n ps so some f.OutOfMemory e = tt
unread_fault l ts us n ps so some (f.Syntax at) e = none_refused l ts us n ps so some e
unread_fault l ts us n ps so some (f.TooDeep at) e =
    let over : IsOver 101 us = subst (Meets (λ s vs. Statement 101 us s vs) (IsOver 101 us)) e (statement_reads 101 us) in
    over_deep 100 ts (statements_over 101 ts us so.are_policies.statements so.are_policies.reading over)
unread_fault l ts us n ps so some (f.Text x) e = e
unread_fault l ts us n ps so some _ e = absurd e

-- ---- a statement that is not entered

at_seam : {A : Type 0} (xs : List A) (y : A) (zs : List A) (d : A) → get_or ((xs ++ y ∷ []) ++ zs) (length xs) d ≡ y
at_seam [] y zs d = refl
at_seam (x ∷ xs) y zs d = at_seam xs y zs d

keeps_limits : (l : Language) (before behind all : List StatementTree) (s : StatementTree) → all ≡ (before ++ s ∷ []) ++ behind → All (IsWithinLimits l) all → IsWithinLimits l s
keeps_limits l before behind all s e h =
    let long : length all ≡ (length before + 1) + length behind = ap length e ∙ length-append (before ++ s ∷ []) behind ∙ ap (λ n. n + length behind) (length-append before (s ∷ [])) in
    subst (IsWithinLimits l) (ap (λ xs. get_or xs (length before) s) e ∙ at_seam before s behind s) (h (length before) s (omega arith))

distinct_not : (xs zs : List (List ℕ)) (y : List ℕ) → AreDistinct ((xs ++ y ∷ []) ++ zs) → Contains xs y → ⊥
distinct_not xs zs y d c =
    let there : length xs < length ((xs ++ y ∷ []) ++ zs) = omega (arith, length-append (xs ++ y ∷ []) zs, length-append xs (y ∷ [])) in
    let longer : c.0 < length (xs ++ y ∷ []) = omega (arith, c.1, length-append xs (y ∷ [])) in
    d c.0 (length xs) y c.1 there
    (get_or_append_left (xs ++ y ∷ []) zs y c.0 longer ∙ get_or_append_left xs (y ∷ []) y c.0 c.1 ∙ c.2 ∙ sym (at_seam xs y zs y))

ids_there : (before behind : List StatementTree) (s : StatementTree) → ids_from 0 ((before ++ s ∷ []) ++ behind) ≡ (ids_from 0 before ++ id_at (length before) s ∷ []) ++ ids_from (0 + length (before ++ s ∷ [])) behind
ids_there before behind s =
    ids-append 0 (before ++ s ∷ []) behind
    ∙ ap (λ (ids : List (List ℕ)). ids ++ ids_from (0 + length (before ++ s ∷ [])) behind)
    (ids-append 0 before (s ∷ []) ∙ ap (λ n. ids_from 0 before ++ id_at n s ∷ []) (let e : 0 + length before ≡ length before = omega arith in e))

keeps_ids : (before behind all : List StatementTree) (s : StatementTree) → all ≡ (before ++ s ∷ []) ++ behind → AreDistinct (ids_from 0 all) → Contains (ids_from 0 before) (id_at (length before) s) → ⊥
keeps_ids before behind all s e d c = distinct_not (ids_from 0 before) _ (id_at (length before) s) (subst AreDistinct (ap (ids_from 0) e ∙ ids_there before behind s) d) c

-- the statement that was read
pub record IsRead (us vs : Marks) (s : StatementTree) : Type 0 where
  pub some : 0 < length us
  pub read : st.statement 101 us ≡ Ok (s, vs)

repeated : (l : Language) (ts us : Marks) (n : ℕ) (ps : PolicySetTree) (s : StatementTree) (so : IsReadSoFar l ts us n ps) → Contains (ids_in ps) (id_at n s) → Contains (ids_from 0 so.are_policies.statements) (id_at (length so.are_policies.statements) s)
repeated l ts us n ps s so c =
    subst (λ m. Contains (ids_from 0 so.are_policies.statements) (id_at m s)) (sym so.all)
    (from_statements so.are_policies.statements (id_at n s) (subst (λ (q : PolicySetTree). Contains (ids_in q) (id_at n s)) so.are_policies.meaning c))

-- Where strings denote texts, so do ids.
chosen : (d : List ℕ) (b : Bool) (c : Content) (o : Option Content) → IsSome c → unwrap_or o (Some d) ≡ Some (text_of (unwrap_or o (Some d)))
    → unwrap_or (cond b (Some c) o) (Some d) ≡ Some (text_of (unwrap_or (cond b (Some c) o) (Some d)))
chosen d true (Some k) o h e = refl
chosen d true None o h e = absurd cc
chosen d false c o h e = e

noted : (d : List ℕ) (notes : List WrittenAnnotation) → KeepAnnotations Strings notes → unwrap_or (id_in notes) (Some d) ≡ Some (text_of (unwrap_or (id_in notes) (Some d)))
noted d [] h = refl
noted d (a ∷ notes) h = chosen d (bytes_eq a.name (codes "id")) a.value (id_in notes) h.0 (noted d notes h.1)

id_stands : (l : Language) (n : ℕ) (s : StatementTree) → IsWithinLimits l s → written_id n s ≡ Some (id_at n s)
id_stands l n s w = noted (codes "policy" ++ decimal n) s.annotations (w.keeps Strings).annotations

ids_stand : (l : Language) (n : ℕ) (ss : List StatementTree) (id : List ℕ) → All (IsWithinLimits l) ss → Contains (ids_from n ss) id → Contains (written_ids_from n ss) (Some id)
ids_stand l n [] id w c = absurd (omega (arith, c.1))
ids_stand l n (s ∷ ss) id w (zero, lt, e) = (0, omega arith, id_stands l n s (w 0 s (omega arith)) ∙ ap Some e)
ids_stand l n (s ∷ ss) id w (suc k, lt, e) =
    let c = ids_stand l (n + 1) ss id (λ i d less. w (suc i) d (omega arith)) (k, omega arith, e) in
    (suc c.0, omega (arith, c.1), c.2)

pub unentered_only : (l : Language) (ts us vs : Marks) (n : ℕ) (ps : PolicySetTree) (s : StatementTree) → IsReadSoFar l ts us n ps → IsRead us vs s → (x : ParseFault) → RefusesEntry l ps n s x → (set : PolicySetTree) → ArePolicies l ts [] set → x ≡ f.OutOfMemory
unentered_only l ts us vs n ps s so i x e set h = go x e
  where
    g : GoesOn 101 vs (so.are_policies.statements ++ s ∷ []) h.statements
    g = goes_more 101 us vs so.are_policies.statements h.statements s i.some i.read (so.only 101 h.statements h.reading)

    kept : IsWithinLimits l s
    kept = keeps_limits l so.are_policies.statements g.behind h.statements s g.whole h.limits

    go : (x : ParseFault) → RefusesEntry l ps n s x → x ≡ f.OutOfMemory
    go f.OutOfMemory e = refl
    go (f.DuplicateId at) e = absurd (keeps_ids so.are_policies.statements g.behind h.statements s g.whole h.distinct (repeated l ts us n ps s so e.1))
    go (f.EscapedStar at) e = absurd (e (kept.keeps Strings))
    go (f.NumberTooLarge at) e = absurd (e (kept.keeps Numbers))
    go (f.DuplicateKey at) e = absurd (e (kept.keeps Keys))
    go (f.UnknownFunction at) e = absurd (e (kept.keeps Names))
    go (f.Arity at) e = absurd (e (kept.keeps Counts))
    go (f.SlotMisplaced at) e = absurd (e (kept.keeps Slots))
    go (f.DuplicateAnnotation at) e = absurd (e (kept.keeps Annotations))
    go (f.TooHigh at) e = let low = kept.low in absurd (omega arith)
    go (f.TooLarge at) e = let small = kept.small in absurd (omega arith)
    go (f.Text y) e = absurd e
    go (f.Syntax at) e = absurd e
    go (f.TooDeep at) e = absurd e

pub unentered_fault : (l : Language) (ts us vs : Marks) (n : ℕ) (ps : PolicySetTree) (s : StatementTree) → IsReadSoFar l ts us n ps → IsRead us vs s → (x : ParseFault) → RefusesEntry l ps n s x → TokensFault l ts x
unentered_fault l ts us vs n ps s so i x e = go x e
  where
    there : Statements 101 ts (so.are_policies.statements ++ s ∷ []) vs
    there = one_behind 101 ts us vs so.are_policies.statements s so.are_policies.reading (statement_is 101 us vs s i.read)

    broken : (x : ParseFault) → Breaks l s x → BreaksLimit l ts x
    broken x e = record { statements = so.are_policies.statements; last = s; rest = vs; reading = there; broken = e }

    go : (x : ParseFault) → RefusesEntry l ps n s x → TokensFault l ts x
    go f.OutOfMemory e = tt
    go (f.DuplicateId at) e =
        record {
          statements = so.are_policies.statements;
          last = s;
          rest = vs;
          reading = there;
          id = id_at (length so.are_policies.statements) s;
          own = id_stands l (length so.are_policies.statements) s e.0;
          repeated = ids_stand l 0 so.are_policies.statements (id_at (length so.are_policies.statements) s) so.are_policies.limits (repeated l ts us n ps s so e.1);
        }
    go (f.EscapedStar at) e = broken (f.EscapedStar at) e
    go (f.NumberTooLarge at) e = broken (f.NumberTooLarge at) e
    go (f.DuplicateKey at) e = broken (f.DuplicateKey at) e
    go (f.UnknownFunction at) e = broken (f.UnknownFunction at) e
    go (f.Arity at) e = broken (f.Arity at) e
    go (f.SlotMisplaced at) e = broken (f.SlotMisplaced at) e
    go (f.DuplicateAnnotation at) e = broken (f.DuplicateAnnotation at) e
    go (f.TooHigh at) e = broken (f.TooHigh at) e
    go (f.TooLarge at) e = broken (f.TooLarge at) e
    go (f.Text y) e = e
    go (f.Syntax at) e = absurd e
    go (f.TooDeep at) e = absurd e

refused_add : (l : Language) (set : PolicySetTree) (n : ℕ) (s : StatementTree) (y : Entry) → IsWithinLimits l s → id_of y ≡ id_at n s → (x : ParseFault) → RefusesAdd set y x → RefusesEntry l set n s x
refused_add l set n s y w e f.OutOfMemory h = tt
refused_add l set n s y w e (f.DuplicateId at) h = (w, subst (λ id. Contains (ids_in set) id) e h)
refused_add l set n s y w e _ h = absurd h

pub not_entered : (l : Language) (set : PolicySetTree) (n : ℕ) (s : StatementTree) (y : Entry) (r : Result (Unit {0}) ParseFault) → IsWithinLimits l s → id_of y ≡ id_at n s → IfErr r (RefusesAdd set y) → IfErr r (RefusesEntry l set n s)
not_entered l set n s y (Ok u) w e h = tt
not_entered l set n s y (Err x) w e h = refused_add l set n s y w e x h

refused_by : (P : Type 0) (n start : ℕ) (b : Bool) → eqb n 204 ≡ b → (n ≡ 204 → P) → RefusesWhere P (cond b (f.DuplicateId start) f.OutOfMemory)
refused_by P n start true e h = h (eqb-true n 204 e)
refused_by P n start false e h = tt

pub refused_where : (P : Type 0) (n start : ℕ) → (n ≡ 204 → P) → RefusesWhere P (refusal_for n start)
refused_where P n start h = refused_by P n start (eqb n 204) refl h

-- a statement that is judged to break something is not entered
pub judged : (l : Language) (set : PolicySetTree) (n : ℕ) (s : StatementTree) (x : ParseFault) → Breaks l s x → RefusesEntry l set n s x
judged l set n s f.OutOfMemory h = tt
judged l set n s (f.DuplicateId at) h = absurd h
judged l set n s _ h = h
