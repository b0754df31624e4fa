-- The statement that is read from left to right is a reading.
use Rattle.std.proofs.Common.{◌≡◌, refl, subst, ℕ, zero, suc, Bool, true, false, cond, List, [], ◌∷◌, ◌++◌, length, Option, Some, None, Ok, Err, codes, arith}
use Rattle.std.specs.Str.{bytes_eq}
use Rattle.std.proofs.lemmas.Slice.Eq.{bytes_eq-Decides}
use Rattle.cedar_text.specs.declared.token_kind.TokenKind.TheVariants as k
use Rattle.cedar_ast_expressions.specs.declared.variable.Variable.{Variable}
use Rattle.cedar_ast.specs.declared.effect.Effect.{Effect}
use Rattle.cedar_ast.specs.declared.condition.ConditionKind.{ConditionKind}
use Rattle.cedar_parser_tokens.specs.Marks.{Mark, Marks}
use Rattle.cedar_parser_tree.specs.Written.{Written}
use Rattle.cedar_parser_tokens.specs.declared.content.WrittenUid.{WrittenUid}
use Rattle.cedar_parser_tree.specs.declared.written_statement.WrittenAnnotation.{WrittenAnnotation}
use Rattle.cedar_parser_tree.specs.declared.written_statement.WrittenCondition.{WrittenCondition}
use Rattle.cedar_parser_tree.specs.StatementTree.{StatementTree, WrittenScope, WrittenEntityScope, WrittenActionScope}
use Rattle.cedar_parser_expressions.specs.Grammar as h
use Rattle.cedar_parser_tokens.specs.Names.{Takes, Text, Path, Entity}
use Rattle.cedar_parser_expressions.specs.Grammar.{Series, Arguments, slot_of, Nested}
use Rattle.cedar_parser_expressions.specs.Reading as q
use Rattle.cedar_parser_statements.specs.Statements as g
use Rattle.cedar_parser_tokens.specs.Names.{is_word_kind}
use Rattle.cedar_parser_statements.specs.Statements.{Annotation, Annotations, Word, References, EntityScopes, ActionScopes, Scopes, Block, Conditions, Statement, effect_of, condition_kind_of}
use Rattle.cedar_parser_tokens.specs.Marks.{start_of}
use Rattle.cedar_parser_tokens.specs.Reading.{Syntax, on_some, same_kind, sees, next, first, expect, text, path, entity}
use Rattle.cedar_parser_expressions.specs.Reading.{arguments, nested}
use Rattle.cedar_parser_statements.specs.StatementReading as r
use Rattle.cedar_parser_tokens.proofs.Outcomes.{Meets, meets_then, meets_as, if_meets, some_meets}
use Rattle.cedar_parser_expressions.proofs.StepLemmas.{meets_flat}
use Rattle.cedar_parser_expressions.proofs.Moves.{level_then, IsOver, over_after, takes_moves}
use Rattle.cedar_parser_statements.proofs.StatementMoves as m
use Rattle.cedar_parser_tokens.proofs.NamesSound.{takes_next_by, sees_takes, expect_takes, text_reads, path_reads, entity_reads}
use Rattle.cedar_parser_expressions.proofs.Sound.{after_step, nested_reads}

-- ---- annotations, which open one bracket and close it: a nesting refusal shows anything

abbrev AnyWord : Marks → Mark → Marks → Type 0
AnyWord ts t us = (ts ≡ t ∷ us) × (is_word_kind t.kind ≡ true)

any_word_by : (D : Type 0) (t : Mark) (ts : Marks) (b : Bool) → is_word_kind t.kind ≡ b → Meets (λ w us. AnyWord (t ∷ ts) w us) D (cond b (Ok (t, ts)) (Err Syntax))
any_word_by D t ts true h = (refl, h)
any_word_by D t ts false h = tt

any_word_reads : (D : Type 0) (ts : Marks) → Meets (λ t us. AnyWord ts t us) D (r.any_word ts)
unfolding r.any_word
any_word_reads D [] = tt
any_word_reads D (t ∷ ts) = any_word_by D t ts (is_word_kind t.kind) refl

annotation_reads : (D : Type 0) (ts : Marks) → Meets (λ a us. Annotation ts a us) D (r.annotation ts)
unfolding r.annotation
annotation_reads D ts =
    let A : WrittenAnnotation → Marks → Type 0 = λ a us. Annotation ts a us in
    meets_then (λ t us. Takes k.At t ts us) A D (expect k.At ts) _ (expect_takes k.At D ts)
    (λ p us hp. meets_then (λ t vs. AnyWord us t vs) A D (r.any_word us) _ (any_word_reads D us)
    (λ t vs ht. meets_then (λ l ws. Takes k.LeftParen l vs ws) A D (expect k.LeftParen vs) _ (expect_takes k.LeftParen D vs)
    (λ l ws hl. meets_then (λ c xs. Text ws c xs) A D (text ws) _ (text_reads D ws)
    (λ c xs hc. meets_then (λ q ys. Takes k.RightParen q xs ys) A D (expect k.RightParen xs) _ (expect_takes k.RightParen D xs) (λ q ys hq. g.annotation hp ht.0 ht.1 hl hc hq)))))

annotations_from_reads : (D : Type 0) (n : ℕ) (xs : List WrittenAnnotation) (ts us : Marks) → Annotations ts xs us → Meets (λ ys vs. Annotations ts ys vs) D (r.annotations_from n xs us)
unfolding r.annotations_from
annotations_from_reads D zero xs ts us a = a
annotations_from_reads D (suc n) xs ts us a =
    if_meets (λ ys vs. Annotations ts ys vs) D (sees k.At us) _ _
    (λ e. meets_then (λ b vs. Annotation us b vs) (λ ys vs. Annotations ts ys vs) D (r.annotation us) _ (annotation_reads D us)
    (λ b vs h. annotations_from_reads D n (xs ++ b ∷ []) ts vs (g.more a h)))
    (λ e. a)

annotations_read : (D : Type 0) (ts : Marks) → Meets (λ xs us. Annotations ts xs us) D (r.annotations ts)
unfolding r.annotations
annotations_read D ts = annotations_from_reads D (length ts) [] ts ts g.none

-- ---- scopes

word_reads : (D : Type 0) (name : List ℕ) (ts : Marks) → Meets (λ (w : Unit {0}) us. Word name ts us) D (r.word name ts)
unfolding r.word
word_reads D name ts =
    meets_then (λ t us. Takes k.Identifier t ts us) (λ (w : Unit {0}) us. Word name ts us) D (expect k.Identifier ts) _ (expect_takes k.Identifier D ts)
    (λ t us h. if_meets (λ (w : Unit {0}) vs. Word name ts vs) D (bytes_eq t.text name) _ _ (λ e. g.word h ((bytes_eq-Decides t.text name).0 e)) (λ e. tt))

slot_meets : (D : Type 0) (t : Mark) (ts us : Marks) (o : Option Variable) → Takes k.Slot t ts us → slot_of t.text ≡ o → Meets (λ q vs. References ts q vs) D (r.slot_read t o us)
slot_meets D t ts us None h e = tt
slot_meets D t ts us (Some x) h e = g.slot h e

referred_reads : (D : Type 0) (ts : Marks) → Meets (λ q us. References ts q us) D (r.referred ts)
unfolding r.referred r.slot
referred_reads D ts =
    if_meets (λ q us. References ts q us) D (sees k.Slot ts) _ _
    (λ e. meets_then (λ t us. Takes k.Slot t ts us) (λ q us. References ts q us) D (expect k.Slot ts) _ (expect_takes k.Slot D ts) (λ t us h. slot_meets D t ts us (slot_of t.text) h refl))
    (λ e. meets_then (λ u us. Entity ts u us) (λ q us. References ts q us) D (entity ts) _ (entity_reads D ts) (λ u us h. g.entity h))

typed_reads : (D : Type 0) (name : List ℕ) (ts us vs : Marks) (t : Mark) → Word name ts us → Takes k.Is t us vs → Meets (λ p ws. EntityScopes name ts p ws) D (r.typed vs)
unfolding r.typed
typed_reads D name ts us vs t w ht =
    let S : WrittenEntityScope → Marks → Type 0 = λ p ws. EntityScopes name ts p ws in
    meets_then (λ ty ws. Path vs ty ws) S D (path vs) _ (path_reads D vs)
    (λ ty ws hp. if_meets S D (sees k.In ws) _ _
    (λ e. let i = sees_takes k.In ws e in
    meets_then (λ q xs. References (next ws) q xs) S D (r.referred (next ws)) _ (referred_reads D (next ws)) (λ q xs hq. g.is_in w ht hp i.1 hq))
    (λ e. g.is w ht hp))

asked_reads : (D : Type 0) (name : List ℕ) (ts us : Marks) → Word name ts us → Meets (λ p vs. EntityScopes name ts p vs) D (r.asked us)
unfolding r.asked
asked_reads D name ts us w =
    let S : WrittenEntityScope → Marks → Type 0 = λ p vs. EntityScopes name ts p vs in
    if_meets S D (sees k.Equal us) _ _
    (λ e. let t = sees_takes k.Equal us e in meets_then (λ q vs. References (next us) q vs) S D (r.referred (next us)) _ (referred_reads D (next us)) (λ q vs h. g.equal w t.1 h))
    (λ e1. if_meets S D (sees k.In us) _ _
    (λ e. let t = sees_takes k.In us e in meets_then (λ q vs. References (next us) q vs) S D (r.referred (next us)) _ (referred_reads D (next us)) (λ q vs h. g.within w t.1 h))
    (λ e2. if_meets S D (sees k.Is us) _ _
    (λ e. let t = sees_takes k.Is us e in typed_reads D name ts us (next us) t.0 w t.1)
    (λ e3. g.any w)))

principal_or_resource_reads : (D : Type 0) (name : List ℕ) (ts : Marks) → Meets (λ p us. EntityScopes name ts p us) D (r.principal_or_resource name ts)
unfolding r.principal_or_resource
principal_or_resource_reads D name ts =
    meets_then (λ (w : Unit {0}) us. Word name ts us) (λ p us. EntityScopes name ts p us) D (r.word name ts) _ (word_reads D name ts) (λ w us h. asked_reads D name ts us h)

-- ---- lists of entities

series_from_reads : (D : Type 0) (n : ℕ) (found : List WrittenUid) (ts us : Marks) → Series Entity ts found us → Meets (λ f vs. Series Entity ts f vs) D (q.series_from entity n found us)
unfolding q.series_from
series_from_reads D zero found ts us s = s
series_from_reads D (suc n) found ts us s =
    if_meets (λ f vs. Series Entity ts f vs) D (sees k.Comma us) _ _
    (λ e. let c = sees_takes k.Comma us e in
    meets_then (λ u vs. Entity (next us) u vs) (λ f vs. Series Entity ts f vs) D (entity (next us)) _ (entity_reads D (next us)) (λ u vs i. series_from_reads D n (found ++ u ∷ []) ts vs (h.next s c.1 i)))
    (λ e. s)

abbrev Listed : Marks → List WrittenUid → Marks → Type 0
Listed ts found vs = (us : Marks) × (t : Mark) × Arguments Entity ts found us × Takes k.RightBracket t us vs

list_reads : (D : Type 0) (ts : Marks) → Meets (λ found vs. Listed ts found vs) D (arguments entity k.RightBracket ts)
unfolding q.arguments
list_reads D ts =
    if_meets (λ f vs. Listed ts f vs) D (sees k.RightBracket ts) _ _
    (λ e. let c = sees_takes k.RightBracket ts e in (ts, c.0, h.none, c.1))
    (λ e. meets_then (λ f vs. Series Entity ts f vs) (λ f vs. Listed ts f vs) D (q.series entity ts) _
    (meets_then (λ u us. Entity ts u us) (λ f vs. Series Entity ts f vs) D (entity ts) _ (entity_reads D ts) (λ u us i. series_from_reads D (length us) (u ∷ []) ts us (h.one i)))
    (λ f vs s. meets_then (λ t ws. Takes k.RightBracket t vs ws) (λ f vs. Listed ts f vs) D (expect k.RightBracket vs) _ (expect_takes k.RightBracket D vs) (λ t ws c. (vs, t, h.some s, c))))

entities_read : (D : Type 0) (ts us vs : Marks) (t : Mark) → Word (codes "action") ts us → Takes k.In t us vs → Meets (λ a ws. ActionScopes ts a ws) D (r.entities vs)
unfolding r.entities
entities_read D ts us vs t w ht =
    let S : WrittenActionScope → Marks → Type 0 = λ a ws. ActionScopes ts a ws in
    if_meets S D (sees k.LeftBracket vs) _ _
    (λ e. let l = sees_takes k.LeftBracket vs e in
    meets_then (λ list ws. Listed (next vs) list ws) S D (arguments entity k.RightBracket (next vs)) _ (list_reads D (next vs)) (λ list ws c. g.among w ht l.1 c.2 c.3))
    (λ e. meets_then (λ u ws. Entity vs u ws) S D (entity vs) _ (entity_reads D vs) (λ u ws c. g.within w ht c))

action_reads : (D : Type 0) (ts : Marks) → Meets (λ a us. ActionScopes ts a us) D (r.action ts)
unfolding r.action
action_reads D ts =
    let S : WrittenActionScope → Marks → Type 0 = λ a us. ActionScopes ts a us in
    meets_then (λ (w : Unit {0}) us. Word (codes "action") ts us) S D (r.word (codes "action") ts) _ (word_reads D (codes "action") ts)
    (λ w us hw. if_meets S D (sees k.Equal us) _ _
    (λ e. let t = sees_takes k.Equal us e in meets_then (λ u vs. Entity (next us) u vs) S D (entity (next us)) _ (entity_reads D (next us)) (λ u vs c. g.equal hw t.1 c))
    (λ e1. if_meets S D (sees k.In us) _ _
    (λ e. let t = sees_takes k.In us e in entities_read D ts us (next us) t.0 hw t.1)
    (λ e2. g.any hw)))

scope_reads : (D : Type 0) (ts : Marks) → Meets (λ s us. Scopes ts s us) D (r.scope ts)
unfolding r.scope r.behind_principal r.behind_action r.resource
scope_reads D ts =
    let S : WrittenScope → Marks → Type 0 = λ s us. Scopes ts s us in
    meets_then (λ t us. Takes k.LeftParen t ts us) S D (expect k.LeftParen ts) _ (expect_takes k.LeftParen D ts)
    (λ l t1 hl. meets_then (λ p us. EntityScopes (codes "principal") t1 p us) S D (r.principal_or_resource (codes "principal") t1) _ (principal_or_resource_reads D (codes "principal") t1)
    (λ p t2 hp. meets_then (λ t us. Takes k.Comma t t2 us) S D (expect k.Comma t2) _ (expect_takes k.Comma D t2)
    (λ c t3 hc. meets_then (λ a us. ActionScopes t3 a us) S D (r.action t3) _ (action_reads D t3)
    (λ a t4 ha. meets_flat S D (expect k.Comma t4) _ _ (meets_then (λ t us. Takes k.Comma t t4 us) S D (expect k.Comma t4) _ (expect_takes k.Comma D t4)
    (λ d t5 hd. meets_flat S D (r.principal_or_resource (codes "resource") t5) _ _
    (meets_then (λ q us. EntityScopes (codes "resource") t5 q us) S D (r.principal_or_resource (codes "resource") t5) _ (principal_or_resource_reads D (codes "resource") t5)
    (λ q t6 hq. meets_flat S D (expect k.RightParen t6) _ _ (meets_then (λ t us. Takes k.RightParen t t6 us) S D (expect k.RightParen t6) _ (expect_takes k.RightParen D t6)
    (λ e us he. g.scope hl hp hc ha hd hq he))))))))))

-- ---- conditions

pub block_reads : (d : ℕ) (ts : Marks) → Meets (λ a us. Block d ts a us) (IsOver d ts) (r.block d ts)
unfolding r.block
block_reads d ts =
    let B : Written → Marks → Type 0 = λ a us. Block d ts a us in
    meets_then (λ t us. Takes k.LeftBrace t ts us) B (IsOver d ts) (expect k.LeftBrace ts) _ (expect_takes k.LeftBrace _ ts)
    (λ l us hl. after_step (λ a vs. Nested d us a vs) B d d ts us 1 0 (takes_moves hl) (omega arith) (nested d us) _ (nested_reads d us)
    (λ a vs ha. meets_then (λ t ws. Takes k.RightBrace t vs ws) B (IsOver d ts) (expect k.RightBrace vs) _ (expect_takes k.RightBrace _ vs) (λ t ws ht. g.block hl ha ht)))

-- the word that begins a condition
abbrev Opens : ConditionKind → Marks → Type 0
Opens kind ts = (t : Mark) × Takes k.Identifier t ts (next ts) × (condition_kind_of t.text ≡ Some kind)

opens_by : (t : Mark) (ts : Marks) (kind : ConditionKind) (b : Bool) → same_kind t.kind k.Identifier ≡ b → cond b (condition_kind_of t.text) None ≡ Some kind
    → Takes k.Identifier t (t ∷ ts) ts × (condition_kind_of t.text ≡ Some kind)
opens_by t ts kind true h e = (takes_next_by k.Identifier t ts h, e)
opens_by t ts kind false h e = absurd cc

opens_there : (kind : ConditionKind) (ts : Marks) → r.condition_at ts ≡ Some kind → Opens kind ts
unfolding r.condition_at first next
opens_there kind [] e = absurd cc
opens_there kind (t ∷ ts) e = let p = opens_by t ts kind (same_kind t.kind k.Identifier) refl e in (t, p.0, p.1)

-- From ts on, with what was read before.
before : (d : ℕ) (ts us : Marks) (cs : List WrittenCondition) (kind : ConditionKind) → Conditions d ts cs us → Opens kind us → IsOver d (next us) → IsOver d ts
before d ts us cs kind c o h = over_after d (m.conditions_then d c (takes_moves o.1)) h (omega arith)

conditions_from_reads : (d n : ℕ) (cs : List WrittenCondition) (ts us : Marks) → Conditions d ts cs us → Meets (λ ds vs. Conditions d ts ds vs) (IsOver d ts) (r.conditions_from d n cs us)
unfolding r.conditions_from
conditions_from_reads d zero cs ts us c = c
conditions_from_reads d (suc n) cs ts us c =
    some_meets (λ ds vs. Conditions d ts ds vs) (IsOver d ts) (r.condition_at us) (Ok (cs, us)) _ c
    (λ kind e. let o = opens_there kind us e in
    meets_then (λ a vs. Block d (next us) a vs) (λ ds vs. Conditions d ts ds vs) (IsOver d ts) (r.block d (next us)) _
    (meets_as (λ a vs. Block d (next us) a vs) (λ a vs. Block d (next us) a vs) (IsOver d (next us)) (IsOver d ts) (r.block d (next us)) (block_reads d (next us)) (λ a vs h. h) (before d ts us cs kind c o))
    (λ a vs b. conditions_from_reads d n (cs ++ record { kind = kind; body = a } ∷ []) ts vs (g.more c o.1 o.2 b)))

conditions_read : (d : ℕ) (ts : Marks) → Meets (λ cs us. Conditions d ts cs us) (IsOver d ts) (r.conditions d ts)
unfolding r.conditions
conditions_read d ts = conditions_from_reads d (length ts) [] ts ts g.none

-- ---- statements

effect_meets : (d : ℕ) (ts us vs : Marks) (t : Mark) (notes : List WrittenAnnotation) (o : Option Effect) → Annotations ts notes us → Takes k.Identifier t us vs → effect_of t.text ≡ o
    → Meets (λ s ws. Statement d ts s ws) (IsOver d ts) (on_some o (Err Syntax) (λ effect. r.behind_effect d (start_of ts) notes effect vs))
unfolding r.behind_effect r.ending
effect_meets d ts us vs t notes None n h e = tt
effect_meets d ts us vs t notes (Some effect) n h e =
    let S : StatementTree → Marks → Type 0 = λ s ws. Statement d ts s ws in
    meets_then (λ p ws. Scopes vs p ws) S (IsOver d ts) (r.scope vs) _ (scope_reads _ vs)
    (λ p ws hp. meets_flat S (IsOver d ts) (r.conditions d ws) _ _
    (after_step (λ cs xs. Conditions d ws cs xs) S d d ts ws 0 0 (m.annotations_then n (level_then (takes_moves h) (m.scopes_move _ _ _ hp))) (omega arith) (r.conditions d ws) _ (conditions_read d ws)
    (λ cs xs hc. meets_flat S (IsOver d ts) (expect k.Semicolon xs) _ _
    (meets_then (λ q ys. Takes k.Semicolon q xs ys) S (IsOver d ts) (expect k.Semicolon xs) _ (expect_takes k.Semicolon _ xs) (λ q ys hq. g.statement n h e hp hc hq)))))

pub statement_reads : (d : ℕ) (ts : Marks) → Meets (λ s us. Statement d ts s us) (IsOver d ts) (r.statement d ts)
unfolding r.statement
statement_reads d ts =
    let S : StatementTree → Marks → Type 0 = λ s us. Statement d ts s us in
    meets_then (λ notes us. Annotations ts notes us) S (IsOver d ts) (r.annotations ts) _ (annotations_read _ ts)
    (λ notes us n. meets_then (λ t vs. Takes k.Identifier t us vs) S (IsOver d ts) (expect k.Identifier us) _ (expect_takes k.Identifier _ us)
    (λ t vs h. effect_meets d ts us vs t notes (effect_of t.text) n h refl))

-- A statement that is read is one.
pub statement_is : (d : ℕ) (ts us : Marks) (s : StatementTree) → r.statement d ts ≡ Ok (s, us) → Statement d ts s us
statement_is d ts us s e = subst (Meets (λ x vs. Statement d ts x vs) (IsOver d ts)) e (statement_reads d ts)
