-- Statements take some tokens, and open as often as they close.
use Rattle.std.proofs.Common.{true, ◌≡◌, refl, sym, subst, ℕ, ◌≤◌, List, ◌∷◌, arith}
use Rattle.cedar_text.specs.declared.token_kind.TokenKind.{TokenKind}
use Rattle.cedar_text.specs.declared.token_kind.TokenKind.TheVariants as k
use Rattle.cedar_parser_tokens.specs.Marks.{Mark, Marks}
use Rattle.cedar_parser_tree.specs.declared.written_statement.WrittenAnnotation.{WrittenAnnotation}
use Rattle.cedar_parser_tree.specs.declared.written_statement.WrittenCondition.{WrittenCondition}
use Rattle.cedar_parser_expressions.specs.Nesting.{closes}
use Rattle.cedar_parser_tokens.specs.Names.{Entity}
use Rattle.cedar_parser_statements.specs.Statements as s
use Rattle.cedar_parser_tokens.specs.Names.{is_word_kind}
use Rattle.cedar_parser_statements.specs.Statements.{Annotation, Annotations, Word, References, EntityScopes, ActionScopes, Scopes, Block, Conditions, Statement, Statements}
use Rattle.cedar_parser_expressions.proofs.Moves.{Moves, Level, level_then, moves_then, takes_moves, token_moves, weight, Advances, text_moves, path_moves, entity_moves, arguments_between, nested_moves}

word_never : (q : TokenKind) → is_word_kind q ≡ true → weight (closes q) ≡ 0
word_never k.True h = refl
word_never _ h = cc

weaker : {ts us : Marks} {g l : ℕ} → Moves ts us g l → l ≤ g → Level ts us
weaker m h = record { front = m.front; whole = m.whole; takes = m.takes; even = omega (arith, m.even) }

pub any_word_moves : {t : Mark} {ts us : Marks} → ts ≡ t ∷ us → is_word_kind t.kind ≡ true → Level ts us
any_word_moves {t = t} {us = us} e h =
    let none = word_never t.kind h in
    subst (λ (xs : Marks). Level xs us) (sym e) (weaker (token_moves t us) (omega arith))

pub annotation_moves : Advances Annotation
annotation_moves ts a us (s.annotation p e h l c r) =
    level_then (takes_moves p) (level_then (any_word_moves e h) (moves_then 0 0 (takes_moves l) (moves_then 0 1 (text_moves _ _ _ c) (takes_moves r) (omega arith)) (omega arith)))

-- Annotations may be none, so they move together with what follows them.
pub annotations_then : {ts us vs : Marks} {xs : List WrittenAnnotation} {g l : ℕ} → Annotations ts xs us → Moves us vs g l → Moves ts vs g l
annotations_then s.none m = m
annotations_then {g = g} {l = l} (s.more a b) m = annotations_then a (moves_then g l (annotation_moves _ _ _ b) m (omega arith))

pub word_moves : {name : List ℕ} {ts us : Marks} → Word name ts us → Level ts us
word_moves (s.word t e) = takes_moves t

pub references_move : Advances References
references_move ts a us (s.entity e) = entity_moves _ _ _ e
references_move ts a us (s.slot t e) = takes_moves t

pub entity_scopes_move : (name : List ℕ) → Advances (EntityScopes name)
entity_scopes_move name ts a us (s.any w) = word_moves w
entity_scopes_move name ts a us (s.equal w t q) = level_then (word_moves w) (level_then (takes_moves t) (references_move _ _ _ q))
entity_scopes_move name ts a us (s.within w t q) = level_then (word_moves w) (level_then (takes_moves t) (references_move _ _ _ q))
entity_scopes_move name ts a us (s.is w t p) = level_then (word_moves w) (level_then (takes_moves t) (path_moves _ _ _ p))
entity_scopes_move name ts a us (s.is_in w t p i q) =
    level_then (word_moves w) (level_then (takes_moves t) (level_then (path_moves _ _ _ p) (level_then (takes_moves i) (references_move _ _ _ q))))

pub action_scopes_move : Advances ActionScopes
action_scopes_move ts a us (s.any w) = word_moves w
action_scopes_move ts a us (s.equal w t e) = level_then (word_moves w) (level_then (takes_moves t) (entity_moves _ _ _ e))
action_scopes_move ts a us (s.within w t e) = level_then (word_moves w) (level_then (takes_moves t) (entity_moves _ _ _ e))
action_scopes_move ts a us (s.among w t l list r) =
    level_then (word_moves w) (level_then (takes_moves t) (arguments_between Entity entity_moves 0 0 (takes_moves l) list (takes_moves r) (omega arith)))

pub scopes_move : Advances Scopes
scopes_move ts a us (s.scope l p c q d r e) =
    moves_then 0 0 (takes_moves l) (moves_then 0 1 (entity_scopes_move _ _ _ _ p) (moves_then 0 1 (takes_moves c) (moves_then 0 1 (action_scopes_move _ _ _ q)
    (moves_then 0 1 (takes_moves d) (moves_then 0 1 (entity_scopes_move _ _ _ _ r) (takes_moves e) (omega arith)) (omega arith)) (omega arith)) (omega arith)) (omega arith)) (omega arith)

pub block_moves : (d : ℕ) → Advances (Block d)
block_moves d ts a us (s.block l i r) = moves_then 0 0 (takes_moves l) (moves_then 0 1 (nested_moves d _ _ _ i) (takes_moves r) (omega arith)) (omega arith)

-- Conditions may be none, so they move together with what follows them.
pub conditions_then : (d : ℕ) {ts us vs : Marks} {cs : List WrittenCondition} {g l : ℕ} → Conditions d ts cs us → Moves us vs g l → Moves ts vs g l
conditions_then d s.none m = m
conditions_then d {g = g} {l = l} (s.more c t k b) m = conditions_then d c (moves_then g l (takes_moves t) (moves_then g l (block_moves d _ _ _ b) m (omega arith)) (omega arith))

pub statement_moves : (d : ℕ) → Advances (Statement d)
statement_moves d ts a us (s.statement n t e p c m) = annotations_then n (level_then (takes_moves t) (level_then (scopes_move _ _ _ p) (conditions_then d c (takes_moves m))))
