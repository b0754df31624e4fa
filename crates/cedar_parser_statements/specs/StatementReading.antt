-- Reading statements from left to right, as the functions of this crate do. The grammar in `specs/Statements.antt` says what a
-- statement is, and what a reading gives is proved to be that (own).
use Rattle.std.specs.Prelude.{ℕ, zero, suc, List, [], ◌∷◌, ◌++◌, length, Option, Some, None, Ok, Err, option_and_then, codes, if◌then◌else◌}
use Rattle.std.specs.Str.{bytes_eq}
use Rattle.cedar_ast_expressions.specs.declared.variable.Variable.{Variable}
use Rattle.cedar_ast.specs.declared.effect.Effect.{Effect}
use Rattle.cedar_ast.specs.declared.condition.ConditionKind.{ConditionKind}
use Rattle.cedar_text.specs.declared.token_kind.TokenKind.TheVariants as k
use Rattle.cedar_parser_tokens.specs.Marks.{Mark, Marks}
use Rattle.cedar_parser_tree.specs.Written.{Written}
use Rattle.cedar_parser_expressions.specs.Grammar.{slot_of}
use Rattle.cedar_parser_tree.specs.declared.written_statement.Reference.{Reference}
use Rattle.cedar_parser_tree.specs.declared.written_statement.Reference.TheVariants as reference
use Rattle.cedar_parser_tree.specs.declared.written_statement.WrittenAnnotation.{WrittenAnnotation}
use Rattle.cedar_parser_tree.specs.declared.written_statement.WrittenCondition.{WrittenCondition}
use Rattle.cedar_ast.specs.declared.scope.EntityScope.TheVariants as entity_scope
use Rattle.cedar_ast.specs.declared.scope.ActionScope.TheVariants as action_scope
use Rattle.cedar_parser_tree.specs.StatementTree.{StatementTree, WrittenScope, WrittenEntityScope, WrittenActionScope}
use Rattle.cedar_parser_statements.specs.Statements.{effect_of, condition_kind_of}
use Rattle.cedar_parser_tokens.specs.Marks.{start_of}
unfoldable pub use Rattle.cedar_parser_tokens.specs.Reading.{any_word}
use Rattle.cedar_parser_tokens.specs.Reading.{Syntax, Parser, and_then, on_some, sees, next, first, expect, same_kind, text, path, entity}
use Rattle.cedar_parser_expressions.specs.Reading.{arguments, nested}

-- ---- annotations

-- An annotation is read (Cedar language reference, grammar: Annotation).
unfoldable pub annotation : Parser WrittenAnnotation
annotation ts =
    and_then (expect k.At ts) (λ p us. and_then (any_word us) (λ t vs. and_then (expect k.LeftParen vs) (λ l ws. and_then (text ws) (λ c xs. and_then (expect k.RightParen xs) (λ r ys.
    Ok (record { start = p.start; name = t.text; value = c }, ys))))))

-- Annotations are read in at most n turns, after those that were found (own).
unfoldable pub annotations_from : ℕ → List WrittenAnnotation → Parser (List WrittenAnnotation)
annotations_from zero xs ts = Ok (xs, ts)
annotations_from (suc n) xs ts = if sees k.At ts then and_then (annotation ts) (λ a us. annotations_from n (xs ++ a ∷ []) us) else Ok (xs, ts)

-- Annotations are read, as far as they go on (Cedar language reference, grammar: Policy).
unfoldable pub annotations : Parser (List WrittenAnnotation)
annotations ts = annotations_from (length ts) [] ts

-- ---- scopes

-- An identifier of this text is read (own).
unfoldable pub word : List ℕ → Parser (Unit {0})
word name ts = and_then (expect k.Identifier ts) (λ t us. if bytes_eq t.text name then Ok (tt, us) else Err Syntax)

-- A slot of a variable is read as a reference, and another one is refused (own).
abbrev pub slot_read : Mark → Option Variable → Parser Reference
slot_read t None ts = Err Syntax
slot_read t (Some x) ts = Ok (reference.Slot t.start x, ts)

-- A slot is read (Cedar language reference, grammar: SLOT).
unfoldable pub slot : Parser Reference
slot ts = and_then (expect k.Slot ts) (λ t us. slot_read t (slot_of t.text) us)

-- A uid or a slot is read (Cedar language reference, grammar: Entity, SLOT).
unfoldable pub referred : Parser Reference
referred ts = if sees k.Slot ts then slot ts else and_then (entity ts) (λ u us. Ok (reference.Entity u, us))

-- What follows `is` in a scope is read: a type, perhaps with `in` and a reference (Cedar language reference, grammar:
-- Principal, Resource).
unfoldable pub typed : Parser WrittenEntityScope
typed ts = and_then (path ts) (λ ty us. if sees k.In us then and_then (referred (next us)) (λ q vs. Ok (entity_scope.IsIn ty q, vs)) else Ok (entity_scope.Is ty, us))

-- What follows the variable of a scope is read (Cedar language reference, grammar: Principal, Resource).
unfoldable pub asked : Parser WrittenEntityScope
asked ts =
    if sees k.Equal ts then and_then (referred (next ts)) (λ q us. Ok (entity_scope.Equal q, us))
    else (if sees k.In ts then and_then (referred (next ts)) (λ q us. Ok (entity_scope.In q, us))
    else (if sees k.Is ts then typed (next ts) else Ok (entity_scope.Any, ts)))

-- The scope of the principal or the resource is read, which begins with this name (Cedar language reference, grammar:
-- Principal, Resource).
unfoldable pub principal_or_resource : List ℕ → Parser WrittenEntityScope
principal_or_resource name ts = and_then (word name ts) (λ w us. asked us)

-- What follows `in` in the scope of the action is read: one uid, or several in brackets (Cedar language reference, grammar:
-- Action).
unfoldable pub entities : Parser WrittenActionScope
entities ts =
    if sees k.LeftBracket ts then and_then (arguments entity k.RightBracket (next ts)) (λ list us. Ok (action_scope.InSet list, us))
    else and_then (entity ts) (λ u us. Ok (action_scope.In u, us))

-- The scope of the action is read (Cedar language reference, grammar: Action).
unfoldable pub action : Parser WrittenActionScope
action ts =
    and_then (word (codes "action") ts) (λ w us. if sees k.Equal us then and_then (entity (next us)) (λ u vs. Ok (action_scope.Equal u, vs))
    else (if sees k.In us then entities (next us) else Ok (action_scope.Any, us)))

-- The scope of the resource is read with the comma before it and the bracket after it (Cedar language reference, grammar:
-- Scope).
unfoldable pub resource : Parser WrittenEntityScope
resource ts = and_then (expect k.Comma ts) (λ c us. and_then (principal_or_resource (codes "resource") us) (λ q vs. and_then (expect k.RightParen vs) (λ r ws. Ok (q, ws))))

-- The rest of a scope after the action is read (Cedar language reference, grammar: Scope).
unfoldable pub behind_action : WrittenEntityScope → WrittenActionScope → Parser WrittenScope
behind_action p a ts = and_then (resource ts) (λ q us. Ok (record { principal = p; action = a; resource = q }, us))

-- The rest of a scope after the comma that follows the principal is read (Cedar language reference, grammar: Scope).
unfoldable pub behind_principal : WrittenEntityScope → Parser WrittenScope
behind_principal p ts = and_then (action ts) (λ a us. behind_action p a us)

-- The scope of a statement is read (Cedar language reference, grammar: Scope).
unfoldable pub scope : Parser WrittenScope
scope ts =
    and_then (expect k.LeftParen ts) (λ l us. and_then (principal_or_resource (codes "principal") us) (λ p vs. and_then (expect k.Comma vs) (λ c ws. behind_principal p ws)))

-- ---- conditions

-- The kind of condition that a token begins, if it begins one (Cedar language reference, grammar: Condition).
abbrev pub kind_of_condition : Mark → Option ConditionKind
kind_of_condition t = if same_kind t.kind k.Identifier then condition_kind_of t.text else None

-- The kind of condition that the first token begins, if it begins one (Cedar language reference, grammar: Condition).
unfoldable pub condition_at : Marks → Option ConditionKind
condition_at ts = option_and_then kind_of_condition (first ts)

-- An expression in braces is read (Cedar language reference, grammar: Condition).
unfoldable pub block : ℕ → Parser Written
block d ts = and_then (expect k.LeftBrace ts) (λ l us. and_then (nested d us) (λ a vs. and_then (expect k.RightBrace vs) (λ r ws. Ok (a, ws))))

-- Conditions are read in at most n turns, after those that were found (own).
unfoldable pub conditions_from : ℕ → ℕ → List WrittenCondition → Parser (List WrittenCondition)
conditions_from d zero cs ts = Ok (cs, ts)
conditions_from d (suc n) cs ts =
    on_some (condition_at ts) (Ok (cs, ts)) (λ kind. and_then (block d (next ts)) (λ a us. conditions_from d n (cs ++ record { kind = kind; body = a } ∷ []) us))

-- Conditions are read, as far as they go on (Cedar language reference, grammar: Conditions).
unfoldable pub conditions : ℕ → Parser (List WrittenCondition)
conditions d ts = conditions_from d (length ts) [] ts

-- ---- statements

-- The conditions of a statement are read with the `;` after them (Cedar language reference, grammar: Policy).
unfoldable pub ending : ℕ → Parser (List WrittenCondition)
ending d ts = and_then (conditions d ts) (λ cs us. and_then (expect k.Semicolon us) (λ e vs. Ok (cs, vs)))

-- The rest of a statement after its effect is read (Cedar language reference, grammar: Policy).
unfoldable pub behind_effect : ℕ → ℕ → List WrittenAnnotation → Effect → Parser StatementTree
behind_effect d start notes effect ts =
    and_then (scope ts) (λ s us. and_then (ending d us) (λ cs vs.
    Ok (record { start = start; annotations = notes; effect = effect; scope = s; conditions = cs }, vs)))

-- A statement is read with less than so many brackets open in its conditions (Cedar language reference, grammar: Policy; own in
-- the limit).
unfoldable pub statement : ℕ → Parser StatementTree
statement d ts =
    and_then (annotations ts) (λ notes us. and_then (expect k.Identifier us) (λ t vs. on_some (effect_of t.text) (Err Syntax) (λ effect. behind_effect d (start_of ts) notes effect vs)))
