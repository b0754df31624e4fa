-- A policy and a template, as trees.
use Rattle.std.specs.Prelude.{ℕ, List}
use Rattle.cedar_value.specs.declared.uid.Uid.{Uid}
use Rattle.cedar_ast.specs.declared.annotation.Annotation.{Annotation}
use Rattle.cedar_ast.specs.declared.effect.Effect.{Effect}
use Rattle.cedar_ast.specs.declared.scope.Scope.{Scope}
use Rattle.cedar_ast.specs.declared.entity_reference.EntityReference.{EntityReference}
use Rattle.cedar_ast.specs.declared.condition.Condition.{Condition}

-- What a policy and a template share: the id, the annotations in order, the effect, the scope, and the conditions in order
-- (Cedar language reference, policies; cedar-spec, Lean: Cedar.Spec.Policy).
pub record PolicyRecord (S : Type 0) : Type 0 where
  pub id : List ℕ
  pub annotations : List Annotation
  pub effect : Effect
  pub scope : S
  pub conditions : List Condition

-- A policy (Cedar language reference, policies; cedar-spec, Lean: Cedar.Spec.Policy).
abbrev pub PolicyTree : Type 0
PolicyTree = PolicyRecord (Scope Uid Uid)

-- A template, whose scope may have slots (Cedar language reference, policy templates; cedar-spec, Lean:
-- Cedar.Spec.Template).
abbrev pub TemplateTree : Type 0
TemplateTree = PolicyRecord (Scope EntityReference Uid)
