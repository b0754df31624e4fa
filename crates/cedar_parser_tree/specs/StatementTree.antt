-- A statement as it is written (Cedar language reference, grammar: Policy).
use Rattle.std.specs.Prelude.{ℕ, List}
use Rattle.cedar_ast.specs.declared.effect.Effect.{Effect}
use Rattle.cedar_ast.specs.declared.scope.EntityScope.{EntityScope}
use Rattle.cedar_ast.specs.declared.scope.ActionScope.{ActionScope}
use Rattle.cedar_ast.specs.declared.scope.Scope.{Scope}
use Rattle.cedar_parser_tree.specs.declared.written_statement.WrittenAnnotation.{WrittenAnnotation}
use Rattle.cedar_parser_tree.specs.declared.written_statement.WrittenCondition.{WrittenCondition}
use Rattle.cedar_parser_tree.specs.declared.written_statement.Reference.{Reference}
use Rattle.cedar_parser_tokens.specs.declared.content.WrittenUid.{WrittenUid}

-- What a scope requires of the principal or the resource, as it is written (Cedar language reference, grammar: Principal,
-- Resource).
abbrev pub WrittenEntityScope : Type 0
WrittenEntityScope = EntityScope Reference

-- What a scope requires of the action, as it is written (Cedar language reference, grammar: Action).
abbrev pub WrittenActionScope : Type 0
WrittenActionScope = ActionScope WrittenUid

-- A scope as it is written (Cedar language reference, grammar: Scope).
abbrev pub WrittenScope : Type 0
WrittenScope = Scope Reference WrittenUid

-- A statement as it is written: the byte at which it begins, its annotations in order, its effect, its scope, and its
-- conditions in order (Cedar language reference, grammar: Policy).
pub record StatementTree : Type 0 where
  pub start : ℕ
  pub annotations : List WrittenAnnotation
  pub effect : Effect
  pub scope : WrittenScope
  pub conditions : List WrittenCondition
