-- The condition of a policy (Cedar language reference, policy scope and conditions; cedar-spec, Lean: Policy.toExpr).
use Rattle.std.specs.Prelude.{true, List, [], ◌∷◌, map}
use Rattle.cedar_value.specs.Datum.{boolean, uid}
use Rattle.cedar_value.specs.declared.uid.Uid.{Uid}
use Rattle.cedar_ast_expressions.specs.declared.variable.Variable.{Variable}
use Rattle.cedar_ast_expressions.specs.declared.variable.Variable.TheVariants.{Principal, Action, Resource}
use Rattle.cedar_ast_expressions.specs.declared.operator.UnaryOperator.TheVariants.{Not, Is}
use Rattle.cedar_ast_expressions.specs.declared.operator.BinaryOperator.{BinaryOperator}
use Rattle.cedar_ast_expressions.specs.declared.operator.BinaryOperator.TheVariants as operator
use Rattle.cedar_ast.specs.declared.scope.EntityScope.{EntityScope}
use Rattle.cedar_ast.specs.declared.scope.EntityScope.TheVariants as entity
use Rattle.cedar_ast.specs.declared.scope.ActionScope.{ActionScope}
use Rattle.cedar_ast.specs.declared.scope.ActionScope.TheVariants as action
use Rattle.cedar_ast.specs.declared.condition.ConditionKind.{ConditionKind}
use Rattle.cedar_ast.specs.declared.condition.ConditionKind.TheVariants.{When, Unless}
use Rattle.cedar_ast.specs.declared.condition.Condition.{Condition}
use Rattle.cedar_ast_expressions.specs.Expression.{Expression, literal, variable, and, unary, binary, set_with, expressions_of}
use Rattle.cedar_ast.specs.PolicyTree.{PolicyTree}

-- The literal of an entity (Cedar language reference, policy scope).
abbrev pub entity_literal : Uid → Expression
entity_literal u = literal (uid u)

-- A variable, an operator, and an expression (Cedar language reference, policy scope).
abbrev pub compared : BinaryOperator → Variable → Expression → Expression
compared op x e = binary op (variable x) e

-- What a scope requires of the principal or the resource (Cedar language reference, policy scope).
abbrev pub entity_scope_of : Variable → EntityScope Uid → Expression
entity_scope_of x entity.Any = literal (boolean true)
entity_scope_of x (entity.Equal u) = compared operator.Equal x (entity_literal u)
entity_scope_of x (entity.In u) = compared operator.In x (entity_literal u)
entity_scope_of x (entity.Is ty) = unary (Is ty) (variable x)
entity_scope_of x (entity.IsIn ty u) = and (unary (Is ty) (variable x)) (compared operator.In x (entity_literal u))

-- What a scope requires of the action (Cedar language reference, policy scope).
abbrev pub action_scope_of : ActionScope Uid → Expression
action_scope_of action.Any = literal (boolean true)
action_scope_of (action.Equal u) = compared operator.Equal Action (entity_literal u)
action_scope_of (action.In u) = compared operator.In Action (entity_literal u)
action_scope_of (action.InSet us) = compared operator.In Action (set_with (expressions_of (map entity_literal us)))

-- What a condition requires: the expression of `when` as it is, that of `unless` negated (Cedar language reference, policy
-- conditions).
abbrev pub asked_by : ConditionKind → Expression → Expression
asked_by When e = e
asked_by Unless e = unary Not e

-- What all conditions require, in order (Cedar language reference, policy conditions).
abbrev pub conditions_of : List Condition → Expression
conditions_of [] = literal (boolean true)
conditions_of (c ∷ []) = asked_by c.kind c.body
conditions_of (c ∷ d ∷ cs) = and (asked_by c.kind c.body) (conditions_of (d ∷ cs))

-- The condition of a policy: what it requires of principal, action and resource, and then its conditions (Cedar language
-- reference, policies; cedar-spec, Lean: Policy.toExpr).
abbrev pub condition_of : PolicyTree → Expression
condition_of p =
    and (entity_scope_of Principal p.scope.principal)
    (and (action_scope_of p.scope.action)
    (and (entity_scope_of Resource p.scope.resource) (conditions_of p.conditions)))
