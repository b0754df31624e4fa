-- What a statement must keep beside the grammar: side conditions, and the limits of its condition (own).
use Rattle.std.specs.Prelude.{◌≡◌, ◌<◌, ◌≤◌, List, [], map}
use Rattle.std.specs.List.{AllByRecursion}
use Rattle.cedar_ast.specs.Condition.{condition_of}
use Rattle.cedar_ast_expressions.specs.Keys.{AreDistinct}
use Rattle.cedar_ast_expressions.specs.declared.variable.Variable.{Variable}
use Rattle.cedar_ast_expressions.specs.declared.variable.Variable.TheVariants.{Principal, Resource}
use Rattle.cedar_parser_tokens.specs.declared.parse_fault.ParseFault.{ParseFault}
use Rattle.cedar_parser_tokens.specs.declared.parse_fault.ParseFault.TheVariants as f
use Rattle.cedar_ext.specs.declared.language.Language.{Language}
use Rattle.cedar_parser_limits.specs.declared.side_condition.SideCondition.{SideCondition}
use Rattle.cedar_parser_limits.specs.declared.side_condition.SideCondition.TheVariants.{Strings, Numbers, Keys, Names, Counts, Slots, Annotations}
use Rattle.cedar_parser_limits.specs.declared.size.Size.{Size}
use Rattle.cedar_parser_tokens.specs.declared.content.WrittenUid.{WrittenUid}
use Rattle.cedar_parser_tree.specs.declared.written_statement.Reference.{Reference}
use Rattle.cedar_parser_tree.specs.declared.written_statement.Reference.TheVariants as reference
use Rattle.cedar_parser_tree.specs.declared.written_statement.WrittenAnnotation.{WrittenAnnotation}
use Rattle.cedar_parser_tree.specs.declared.written_statement.WrittenCondition.{WrittenCondition}
use Rattle.cedar_ast.specs.declared.scope.EntityScope.TheVariants as written
use Rattle.cedar_ast.specs.declared.scope.ActionScope.TheVariants as written_action
use Rattle.cedar_parser_tree.specs.StatementTree.{StatementTree, WrittenEntityScope, WrittenActionScope}
use Rattle.cedar_parser_limits.specs.StatementMeaning.{to_policy}
use Rattle.cedar_parser_limits.specs.Limits.{Stands, Keeps, size_of, max_height, max_nodes}

-- A slot is in the scope of its own variable (Cedar language reference, policy templates).
abbrev pub IsOwn : SideCondition → Variable → Variable → Type 0
IsOwn Slots x y = x ≡ y
IsOwn _ x y = Unit {0}

-- What the scope of a variable refers to keeps a side condition (own).
abbrev pub KeepsReference : SideCondition → Variable → Reference → Type 0
KeepsReference c x (reference.Entity u) = Stands c u.id
KeepsReference c x (reference.Slot at y) = IsOwn c x y

-- The scope of the principal or the resource keeps a side condition (own).
abbrev pub KeepsEntityScope : SideCondition → Variable → WrittenEntityScope → Type 0
KeepsEntityScope c x (written.Equal q) = KeepsReference c x q
KeepsEntityScope c x (written.In q) = KeepsReference c x q
KeepsEntityScope c x (written.IsIn ty q) = KeepsReference c x q
KeepsEntityScope c x _ = Unit {0}

-- Uids keep a side condition where each of them does (own).
abbrev pub KeepUids : SideCondition → List WrittenUid → Type 0
KeepUids c = AllByRecursion (λ u. Stands c u.id)

-- The scope of the action keeps a side condition (own).
abbrev pub KeepsActionScope : SideCondition → WrittenActionScope → Type 0
KeepsActionScope c written_action.Any = Unit {0}
KeepsActionScope c (written_action.Equal u) = Stands c u.id
KeepsActionScope c (written_action.In u) = Stands c u.id
KeepsActionScope c (written_action.InSet us) = KeepUids c us

-- No two annotations of a statement have the same name (Cedar language reference, annotations).
abbrev pub HasDistinctNames : SideCondition → List WrittenAnnotation → Type 0
HasDistinctNames Annotations notes = AreDistinct (map (λ a. a.name) notes)
HasDistinctNames _ notes = Unit {0}

-- The values of annotations keep a side condition where each of them does (own).
abbrev pub KeepAnnotations : SideCondition → List WrittenAnnotation → Type 0
KeepAnnotations c = AllByRecursion (λ a. Stands c a.value)

-- The conditions of a statement keep a side condition where the expression of each does (own).
abbrev pub KeepConditions : Language → SideCondition → List WrittenCondition → Type 0
KeepConditions l c = AllByRecursion (λ q. Keeps l c q.body)

-- A statement keeps a side condition of a language where its annotations, its scope and its conditions do (own).
pub record KeepsStatement (language : Language) (c : SideCondition) (s : StatementTree) : Type 0 where
  pub names : HasDistinctNames c s.annotations
  pub annotations : KeepAnnotations c s.annotations
  pub principal : KeepsEntityScope c Principal s.scope.principal
  pub action : KeepsActionScope c s.scope.action
  pub resource : KeepsEntityScope c Resource s.scope.resource
  pub conditions : KeepConditions language c s.conditions

-- The size of the condition of the policy that a statement writes: of its scope and all of its conditions as one expression
-- (own).
unfoldable pub condition_size : StatementTree → Size
condition_size s = size_of (condition_of (to_policy [] s))

-- A statement is within the limits of a language: it keeps each side condition, and its condition is neither too high nor too large (own).
pub record IsWithinLimits (language : Language) (s : StatementTree) : Type 0 where
  pub keeps : (c : SideCondition) → KeepsStatement language c s
  pub low : (condition_size s).height ≤ max_height
  pub small : (condition_size s).nodes ≤ max_nodes

-- A refused statement breaks the side condition or the limit of its refusal. Out of memory says nothing about it (own).
abbrev pub Breaks : Language → StatementTree → ParseFault → Type 0
Breaks l s f.OutOfMemory = Unit {0}
Breaks l s (f.EscapedStar at) = KeepsStatement l Strings s → ⊥
Breaks l s (f.NumberTooLarge at) = KeepsStatement l Numbers s → ⊥
Breaks l s (f.DuplicateKey at) = KeepsStatement l Keys s → ⊥
Breaks l s (f.UnknownFunction at) = KeepsStatement l Names s → ⊥
Breaks l s (f.Arity at) = KeepsStatement l Counts s → ⊥
Breaks l s (f.SlotMisplaced at) = KeepsStatement l Slots s → ⊥
Breaks l s (f.DuplicateAnnotation at) = KeepsStatement l Annotations s → ⊥
Breaks l s (f.TooHigh at) = max_height < (condition_size s).height
Breaks l s (f.TooLarge at) = max_nodes < (condition_size s).nodes
Breaks l s _ = ⊥
