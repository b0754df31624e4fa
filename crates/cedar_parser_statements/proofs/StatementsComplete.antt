-- Each statement that is there is what is read from left to right.
use Rattle.std.proofs.Common.{◌≡◌, refl, ap, ◌∙◌, ℕ, zero, suc, ◌<◌, ◌≤◌, Bool, true, false, cond, List, [], ◌∷◌, ◌++◌, length, Option, Some, None, Ok, Err, codes, arith}
use Rattle.std.specs.Str.{bytes_eq}
use Rattle.std.proofs.lemmas.Slice.Eq.{bytes_eq-Decides}
use denote.Enum.Bare.{true_same}
use Rattle.cedar_text.specs.contracts.token_kind.TokenKind.{the_type}
use Rattle.cedar_text.specs.declared.token_kind.TokenKind.{TokenKind}
use Rattle.cedar_text.specs.declared.token_kind.TokenKind.TheVariants as k
use Rattle.cedar_ast_expressions.specs.declared.variable.Variable.{Variable}
use Rattle.cedar_ast.specs.declared.effect.Effect.{Effect}
use Rattle.cedar_ast.specs.declared.condition.ConditionKind.{ConditionKind}
use Rattle.cedar_parser_tokens.specs.Marks.{Mark, Marks}
use Rattle.cedar_parser_tree.specs.Written.{Written}
use Rattle.cedar_parser_tokens.specs.declared.content.WrittenUid.{WrittenUid}
use Rattle.cedar_parser_tree.specs.declared.written_statement.Reference.{Reference}
use Rattle.cedar_parser_tree.specs.declared.written_statement.Reference.TheVariants as reference
use Rattle.cedar_parser_tree.specs.declared.written_statement.WrittenAnnotation.{WrittenAnnotation}
use Rattle.cedar_parser_tree.specs.declared.written_statement.WrittenCondition.{WrittenCondition}
use Rattle.cedar_ast.specs.declared.scope.EntityScope.TheVariants as entity_scope
use Rattle.cedar_ast.specs.declared.scope.ActionScope.TheVariants as action_scope
use Rattle.cedar_parser_tree.specs.StatementTree.{StatementTree, WrittenScope, WrittenEntityScope, WrittenActionScope}
use Rattle.cedar_parser_expressions.specs.Grammar as h
use Rattle.cedar_parser_tokens.specs.Names.{Takes, Path, Entity}
use Rattle.cedar_parser_expressions.specs.Grammar.{Series, Arguments, slot_of}
use Rattle.cedar_parser_statements.specs.Statements as g
use Rattle.cedar_parser_tokens.specs.Names.{is_word_kind}
use Rattle.cedar_parser_statements.specs.Statements.{Annotation, Annotations, Word, References, EntityScopes, ActionScopes, Scopes, Block, Conditions, Statement, effect_of, condition_kind_of}
use Rattle.cedar_parser_tokens.specs.Marks.{start_of}
use Rattle.cedar_parser_tokens.specs.Reading.{Syntax, TooDeep, Outcome, and_then, on_some, same_kind, sees, next, first, expect, entity}
use Rattle.cedar_parser_expressions.specs.Reading.{arguments, nested}
use Rattle.cedar_parser_statements.specs.StatementReading as r
use Rattle.cedar_parser_tokens.proofs.Outcomes.{Answers, given, deep, answers_then, answers_by}
use Rattle.cedar_parser_expressions.proofs.StepLemmas.{answers_flat}
use Rattle.cedar_parser_expressions.proofs.Moves.{shorter, takes_moves, entity_moves}
use Rattle.cedar_parser_statements.proofs.StatementMoves as m
use Rattle.cedar_parser_expressions.proofs.Binds as b
use Rattle.cedar_parser_expressions.proofs.Binds.{takes_bind, Begins}
use Rattle.cedar_parser_tokens.proofs.NamesComplete.{sees_other}
use Rattle.cedar_parser_tokens.proofs.NamesComplete.{sees_yes, next_is, expect_yes, if_true, if_false, at_next, expect_then, known_then, text_yes, path_yes, no_path_on, path_first, entity_yes}
use Rattle.cedar_parser_expressions.proofs.Complete.{Complete, arguments_complete, nested_complete}

-- ---- annotations

any_word_yes : {t : Mark} {ts us : Marks} → ts ≡ t ∷ us → is_word_kind t.kind ≡ true → r.any_word ts ≡ Ok (t, us)
unfolding r.any_word
any_word_yes {t = t} {us = us} e h = ap r.any_word e ∙ ap (λ (x : Bool). cond x (Ok (t, us)) (Err Syntax)) h

annotation_yes : (P : Type 0) {ts us : Marks} {a : WrittenAnnotation} → Annotation ts a us → Answers P (r.annotation ts) a us
unfolding r.annotation
annotation_yes P (g.annotation p e w l c q) = expect_then _ p (known_then _ (any_word_yes e w) (expect_then _ l (known_then _ (text_yes c) (expect_then _ q given))))

annotation_first : {ts us : Marks} {a : WrittenAnnotation} → Annotation ts a us → sees k.At ts ≡ true
annotation_first (g.annotation p e w l c q) = sees_yes p

module _ (P : Type 0) where
  annotations_on : (ts : Marks) (xs : List WrittenAnnotation) (us : Marks) → Annotations ts xs us → (ys : List WrittenAnnotation) (vs : Marks)
      → ((turns : ℕ) → length us ≤ turns → Answers P (r.annotations_from turns xs us) ys vs) → Answers P (r.annotations ts) ys vs
  unfolding r.annotations r.annotations_from
  annotations_on ts _ us g.none ys vs turn = turn (length us) (omega arith)
  annotations_on ts _ us (g.more {us = zs} {xs = xs} {a = a} h i) ys vs turn = annotations_on ts xs zs h ys vs go
    where
      go : (turns : ℕ) → length zs ≤ turns → Answers P (r.annotations_from turns xs zs) ys vs
      go zero le = absurd (let l = shorter (m.annotation_moves _ _ _ i) in omega arith)
      go (suc turns) le =
          if_true _ _ (annotation_first i) (answers_then (r.annotation zs) a us _ ys vs (annotation_yes P i) (turn turns (let l = shorter (m.annotation_moves _ _ _ i) in omega arith)))

  annotations_stop : (turns : ℕ) (xs : List WrittenAnnotation) (us : Marks) → sees k.At us ≡ false → Answers P (r.annotations_from turns xs us) xs us
  unfolding r.annotations_from
  annotations_stop zero xs us e = given
  annotations_stop (suc turns) xs us e = if_false _ _ e given

-- ---- scopes

word_yes : {name : List ℕ} {ts us : Marks} → Word name ts us → r.word name ts ≡ Ok (tt, us)
unfolding r.word
word_yes {name = name} {us = us} (g.word {t = t} h e) =
    ap (λ x. and_then x (λ t us. cond (bytes_eq t.text name) (Ok (tt, us)) (Err Syntax))) (expect_yes h) ∙ ap (λ b. cond b (Ok (tt, us)) (Err Syntax)) ((bytes_eq-Decides t.text name).1 e)

known_if_true : {A : Type 0} {c : Bool} {z : Outcome A} (x y : Outcome A) → c ≡ true → x ≡ z → cond c x y ≡ z
known_if_true x y e f = ap (λ (q : Bool). cond q x y) e ∙ f

known_if_false : {A : Type 0} {c : Bool} {z : Outcome A} (x y : Outcome A) → c ≡ false → y ≡ z → cond c x y ≡ z
known_if_false x y e f = ap (λ (q : Bool). cond q x y) e ∙ f

known_next : {A : Type 0} {kind : TokenKind} {t : Mark} {ts us : Marks} {z : Outcome A} (p : Marks → Outcome A) → Takes kind t ts us → p us ≡ z → p (next ts) ≡ z
known_next p h e = ap p (next_is h) ∙ e

known_step : {A B : Type 0} {x : Outcome A} {a : A} {us : Marks} {z : Outcome B} (f : A → Marks → Outcome B) → x ≡ Ok (a, us) → f a us ≡ z → and_then x f ≡ z
known_step f e g = ap (λ x. and_then x f) e ∙ g

entity_no_slot : {ts us : Marks} {u : WrittenUid} → Entity ts u us → sees k.Slot ts ≡ false
entity_no_slot (h.entity p c t) = sees_other k.Slot (path_first p).2 refl

entity_no_bracket : {ts us : Marks} {u : WrittenUid} → Entity ts u us → sees k.LeftBracket ts ≡ false
entity_no_bracket (h.entity p c t) = sees_other k.LeftBracket (path_first p).2 refl

referred_yes : {ts us : Marks} {p : Reference} → References ts p us → r.referred ts ≡ Ok (p, us)
unfolding r.referred r.slot
referred_yes {ts = ts} (g.entity e) = known_if_false _ _ (entity_no_slot e) (known_step (λ u us. Ok (reference.Entity u, us)) (entity_yes e) refl)
referred_yes {ts = ts} {us = us} (g.slot {t = t} h e) =
    known_if_true _ _ (sees_yes h) (known_step (λ t us. r.slot_read t (slot_of t.text) us) (expect_yes h) (ap (λ (o : Option Variable). r.slot_read t o us) e))

-- what may be after a scope: no `==`, `in`, `is` or `::`
pub record Ends (us : Marks) : Type 0 where
  pub no_equal : sees k.Equal us ≡ false
  pub no_in : sees k.In us ≡ false
  pub no_is : sees k.Is us ≡ false
  pub no_colon : sees k.DoubleColon us ≡ false

ends_by : {kind : TokenKind} {t : Mark} {ts us : Marks} → Takes kind t ts us → same_kind kind k.Equal ≡ false → same_kind kind k.In ≡ false → same_kind kind k.Is ≡ false → same_kind kind k.DoubleColon ≡ false → Ends ts
ends_by h e1 e2 e3 e4 = record { no_equal = sees_other k.Equal h e1; no_in = sees_other k.In h e2; no_is = sees_other k.Is h e3; no_colon = sees_other k.DoubleColon h e4 }

asked_any : {us : Marks} → Ends us → r.asked us ≡ Ok (entity_scope.Any, us)
unfolding r.asked
asked_any e = known_if_false _ _ e.no_equal (known_if_false _ _ e.no_in (known_if_false _ _ e.no_is refl))

asked_equal : {us vs ws : Marks} {t : Mark} {p : Reference} → Takes k.Equal t us vs → References vs p ws → r.asked us ≡ Ok (entity_scope.Equal p, ws)
unfolding r.asked
asked_equal t h = known_if_true _ _ (sees_yes t) (known_next (λ zs. and_then (r.referred zs) (λ q us. Ok (entity_scope.Equal q, us))) t (known_step (λ q us. Ok (entity_scope.Equal q, us)) (referred_yes h) refl))

asked_in : {us vs ws : Marks} {t : Mark} {p : Reference} → Takes k.In t us vs → References vs p ws → r.asked us ≡ Ok (entity_scope.In p, ws)
unfolding r.asked
asked_in t h =
    known_if_false _ _ (sees_other k.Equal t refl) (known_if_true _ _ (sees_yes t)
    (known_next (λ zs. and_then (r.referred zs) (λ q us. Ok (entity_scope.In q, us))) t (known_step (λ q us. Ok (entity_scope.In q, us)) (referred_yes h) refl)))

typed_yes : {vs ws : Marks} {ty : List ℕ} → Path vs ty ws → Ends ws → r.typed vs ≡ Ok (entity_scope.Is ty, ws)
unfolding r.typed
typed_yes {ws = ws} p e =
    known_step (λ ty us. cond (sees k.In us) (and_then (r.referred (next us)) (λ q vs. Ok (entity_scope.IsIn ty q, vs))) (Ok (entity_scope.Is ty, us))) (path_yes p (no_path_on ws e.no_colon))
    (known_if_false _ _ e.no_in refl)

typed_in_yes : {vs ws xs ys : Marks} {ty : List ℕ} {t : Mark} {p : Reference} → Path vs ty ws → Takes k.In t ws xs → References xs p ys → r.typed vs ≡ Ok (entity_scope.IsIn ty p, ys)
unfolding r.typed
typed_in_yes {ws = ws} {ty = ty} p t h =
    known_step (λ ty us. cond (sees k.In us) (and_then (r.referred (next us)) (λ q vs. Ok (entity_scope.IsIn ty q, vs))) (Ok (entity_scope.Is ty, us))) (path_yes p (no_path_on ws (sees_other k.DoubleColon t refl)))
    (known_if_true _ _ (sees_yes t) (known_next (λ zs. and_then (r.referred zs) (λ q vs. Ok (entity_scope.IsIn ty q, vs))) t (known_step (λ q vs. Ok (entity_scope.IsIn ty q, vs)) (referred_yes h) refl)))

asked_is : {us vs ws : Marks} {t : Mark} {s : WrittenEntityScope} → Takes k.Is t us vs → r.typed vs ≡ Ok (s, ws) → r.asked us ≡ Ok (s, ws)
unfolding r.asked
asked_is t e = known_if_false _ _ (sees_other k.Equal t refl) (known_if_false _ _ (sees_other k.In t refl) (known_if_true _ _ (sees_yes t) (known_next r.typed t e)))

principal_or_resource_yes : {name : List ℕ} {ts us : Marks} {p : WrittenEntityScope} → EntityScopes name ts p us → Ends us → r.principal_or_resource name ts ≡ Ok (p, us)
unfolding r.principal_or_resource
principal_or_resource_yes (g.any w) e = known_step (λ w us. r.asked us) (word_yes w) (asked_any e)
principal_or_resource_yes (g.equal w t h) e = known_step (λ w us. r.asked us) (word_yes w) (asked_equal t h)
principal_or_resource_yes (g.within w t h) e = known_step (λ w us. r.asked us) (word_yes w) (asked_in t h)
principal_or_resource_yes (g.is w t p) e = known_step (λ w us. r.asked us) (word_yes w) (asked_is t (typed_yes p e))
principal_or_resource_yes (g.is_in w t p i h) e = known_step (λ w us. r.asked us) (word_yes w) (asked_is t (typed_in_yes p i h))

entity_complete : (P : Type 0) → Complete P Entity 1 entity
entity_complete P ts u us h lt = answers_by (entity_yes h) given

action_answers : (P : Type 0) {ts us : Marks} {a : WrittenActionScope} → ActionScopes ts a us → Ends us → Answers P (r.action ts) a us
unfolding r.action r.entities
action_answers P (g.any w) e = known_then _ (word_yes w) (if_false _ _ e.no_equal (if_false _ _ e.no_in given))
action_answers P (g.equal w t h) e =
    known_then _ (word_yes w) (if_true _ _ (sees_yes t) (at_next (λ zs. and_then (entity zs) (λ u vs. Ok (action_scope.Equal u, vs))) t (known_then _ (entity_yes h) given)))
action_answers P (g.within w t h) e =
    known_then _ (word_yes w) (if_false _ _ (sees_other k.Equal t refl) (if_true _ _ (sees_yes t) (at_next r.entities t
    (if_false _ _ (entity_no_bracket h) (known_then _ (entity_yes h) given)))))
action_answers P {us = us} (g.among {vs = vs} {ws = ws} {list = list} w t l h c) e =
    known_then _ (word_yes w) (if_false _ _ (sees_other k.Equal t refl) (if_true _ _ (sees_yes t) (at_next r.entities t
    (if_true _ _ (sees_yes l) (at_next (λ zs. and_then (arguments entity k.RightBracket zs) (λ list us. Ok (action_scope.InSet list, us))) l
    (answers_then (arguments entity k.RightBracket ws) list us _ (action_scope.InSet list) us
    (arguments_complete P Entity entity 1 entity_moves b.entity_starts (entity_complete P) k.RightBracket (omega arith) refl refl _ _ _ _ _ h c) given))))))

scope_answers : (P : Type 0) {ts us : Marks} {s : WrittenScope} → Scopes ts s us → Answers P (r.scope ts) s us
unfolding r.scope r.behind_principal r.behind_action r.resource
scope_answers P (g.scope {t3 = t3} {t4 = t4} {t5 = t5} {t6 = t6} {a = a} l p c i d j e) =
    expect_then _ l (known_then _ (principal_or_resource_yes p (ends_by c refl refl refl refl)) (expect_then _ c (answers_then (r.action t3) a t4 _ _ _ (action_answers P i (ends_by d refl refl refl refl))
    (answers_flat (expect k.Comma t4) _ _ (expect_then _ d (answers_flat (r.principal_or_resource (codes "resource") t5) _ _ (known_then _ (principal_or_resource_yes j (ends_by e refl refl refl refl)) (answers_flat (expect k.RightParen t6) _ _ (expect_then _ e given)))))))))

-- ---- conditions

module _ (d' d : ℕ) (P : Type 0) (less : d < d' → P) where
  block_answers : {ts us : Marks} {a : Written} → Block d' ts a us → Answers P (r.block d ts) a us
  unfolding r.block
  block_answers {us = xs} {a = a} (g.block {us = us} {vs = vs} l i e) =
      expect_then _ l (answers_then (nested d us) a vs _ a xs (nested_complete d' d P less us a vs i (let b = takes_bind e in omega arith)) (expect_then _ e given))

  opens_yes : {t : Mark} {ts us : Marks} {kind : ConditionKind} → Takes k.Identifier t ts us → condition_kind_of t.text ≡ Some kind → r.condition_at ts ≡ Some kind
  unfolding r.condition_at first
  opens_yes {t = t} h e = ap r.condition_at h.whole ∙ ap (λ b. cond b (condition_kind_of t.text) None) (true_same the_type _ _ h.is) ∙ e

  conditions_on : (ts : Marks) (cs : List WrittenCondition) (us : Marks) → Conditions d' ts cs us → (ds : List WrittenCondition) (vs : Marks)
      → ((turns : ℕ) → length us ≤ turns → Answers P (r.conditions_from d turns cs us) ds vs) → Answers P (r.conditions d ts) ds vs
  unfolding r.conditions r.conditions_from
  conditions_on ts _ us g.none ds vs turn = turn (length us) (omega arith)
  conditions_on ts _ us (g.more {us = xs} {vs = ys} {cs = cs} {kind = kind} {a = a} c t e b) ds vs turn = conditions_on ts cs xs c ds vs go
    where
      step : (turns : ℕ) → length us ≤ turns → Answers P (and_then (r.block d (next xs)) (λ a us. r.conditions_from d turns (cs ++ record { kind = kind; body = a } ∷ []) us)) ds vs
      step turns le = at_next (λ zs. and_then (r.block d zs) (λ a us. r.conditions_from d turns (cs ++ record { kind = kind; body = a } ∷ []) us)) t
          (answers_then (r.block d ys) a us _ ds vs (block_answers b) (turn turns le))

      go : (turns : ℕ) → length xs ≤ turns → Answers P (r.conditions_from d turns cs xs) ds vs
      go zero le = absurd (let l = shorter (takes_moves t) in omega arith)
      go (suc turns) le =
          answers_by (ap (λ (o : Option ConditionKind). on_some o (Ok (cs, xs)) (λ kind. and_then (r.block d (next xs)) (λ a us. r.conditions_from d turns (cs ++ record { kind = kind; body = a } ∷ []) us))) (opens_yes t e))
          (step turns (let l = shorter (takes_moves t) in let l' = shorter (m.block_moves d' _ _ _ b) in omega arith))

  none_there : {t : Mark} {ts us : Marks} → Takes k.Semicolon t ts us → r.condition_at ts ≡ None
  unfolding r.condition_at first
  none_there {t = t} h = ap r.condition_at h.whole ∙ ap (λ q. cond (same_kind q k.Identifier) (condition_kind_of t.text) None) h.is

  conditions_stop : (turns : ℕ) (cs : List WrittenCondition) (us : Marks) → r.condition_at us ≡ None → Answers P (r.conditions_from d turns cs us) cs us
  unfolding r.conditions_from
  conditions_stop zero cs us h = given
  conditions_stop (suc turns) cs us h =
      answers_by (ap (λ (o : Option ConditionKind). on_some o (Ok (cs, us)) (λ kind. and_then (r.block d (next us)) (λ a vs. r.conditions_from d turns (cs ++ record { kind = kind; body = a } ∷ []) vs))) h) given

  pub statement_answers : (ts : Marks) (s : StatementTree) (us : Marks) → Statement d' ts s us → Answers P (r.statement d ts) s us
  unfolding r.statement r.behind_effect r.ending
  statement_answers ts _ ys (g.statement {us = us} {vs = vs} {ws = ws} {xs = xs} {t = t} {notes = notes} {effect = effect} {scope = scope} {cs = cs} n h e p c i) =
      answers_then (r.annotations ts) notes us _ _ ys (annotations_on P ts notes us n notes us (λ turns _. annotations_stop P turns notes us (sees_other k.At h refl)))
      (expect_then _ h (answers_by (ap (λ (o : Option Effect). on_some o (Err Syntax) (λ effect. r.behind_effect d (start_of ts) notes effect vs)) e)
      (answers_then (r.scope vs) scope ws _ _ ys (scope_answers P p)
      (answers_flat (r.conditions d ws) _ _ (answers_then (r.conditions d ws) cs xs _ _ ys (conditions_on ws cs xs c cs xs (λ turns _. conditions_stop turns cs xs (none_there i))) (answers_flat (expect k.Semicolon xs) _ _ (expect_then _ i given)))))))

-- ---- what a statement's reading says of the outcome

same_by : {P : Type 0} {s s' : StatementTree} {us us' : Marks} {x : Outcome StatementTree} → Answers P x s us → x ≡ Ok (s', us') → (s' ≡ s) × (us' ≡ us)
same_by {s' = s'} {us' = us'} (given {a = s} {us = us}) e = let p : ◌≡◌ {A = StatementTree × Marks} (s', us') (s, us) = cc in (ap (λ q. q.0) p, ap (λ q. q.1) p)
same_by (deep f) e = absurd cc

-- A statement that is there, however deep, is the one that is read.
pub statement_same : (d' d : ℕ) (ts : Marks) (s s' : StatementTree) (us us' : Marks) → Statement d' ts s us → r.statement d ts ≡ Ok (s', us') → (s' ≡ s) × (us' ≡ us)
statement_same d' d ts s s' us us' h e = same_by (statement_answers d' d (Unit {0}) (λ lt. tt) ts s us h) e

syntax_by : {P : Type 0} {s : StatementTree} {us : Marks} {x : Outcome StatementTree} → Answers P x s us → x ≡ Err Syntax → ⊥
syntax_by given e = absurd cc
syntax_by (deep f) e = absurd cc

-- Where the syntax is refused no statement is there, however deep.
pub statement_none : (d' d : ℕ) (ts : Marks) (s : StatementTree) (us : Marks) → Statement d' ts s us → r.statement d ts ≡ Err Syntax → ⊥
statement_none d' d ts s us h e = syntax_by (statement_answers d' d (Unit {0}) (λ lt. tt) ts s us h) e

deep_by : {s : StatementTree} {us : Marks} {x : Outcome StatementTree} → Answers (⊥) x s us → x ≡ Err TooDeep → ⊥
deep_by given e = absurd cc
deep_by (deep f) e = f

-- Where the nesting is refused no statement is there at that depth.
pub statement_too_deep : (d : ℕ) (ts : Marks) (s : StatementTree) (us : Marks) → Statement d ts s us → r.statement d ts ≡ Err TooDeep → ⊥
statement_too_deep d ts s us h e = deep_by (statement_answers d d (⊥) (λ lt. absurd (omega arith)) ts s us h) e
