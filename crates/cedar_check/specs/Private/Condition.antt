-- What prepared conditions denote.
use Rattle.std.specs.Prelude.{◌≡◌, ◌||◌, true, false, IfSome}
use Rattle.cedar_value.specs.Datum.{uid}
use Rattle.cedar_value.specs.declared.uid.Uid.{Uid}
use Rattle.cedar_ast_expressions.specs.declared.operator.BinaryOperator.{BinaryOperator}
use Rattle.cedar_ast_expressions.specs.declared.operator.BinaryOperator.TheVariants.{Equal}
use Rattle.cedar_ast_expressions.specs.declared.variable.Variable.TheVariants.{Action}
use Rattle.cedar_ast_expressions.specs.Expression.{Expression, and, binary, literal, variable}
use Rattle.cedar_schema_spec.specs.SchemaTree.{SchemaTree}
use Rattle.cedar_schema_spec.specs.Declarations.{is_action, is_entity}
use Rattle.cedar_check.specs.declared.prepared.Parts.{Parts}
use Rattle.cedar_check.specs.declared.prepared.Prepared.{Prepared}
use Rattle.cedar_check.specs.declared.prepared.Prepared.TheVariants as prepared
use Rattle.cedar_check.specs.Private.Mention.{mentions}

-- The condition that compares the action with this operand.
abbrev pub asked : BinaryOperator → Expression → Expression
asked op e = binary op (variable Action) e

-- The condition that these are the parts of.
abbrev pub whole : Parts → Expression
whole p = and p.principal.now (and (asked p.operator p.operand.now) p.rest.now)

-- The condition.
abbrev pub condition_in : Prepared → Expression
condition_in (prepared.Open e) = e.now
condition_in (prepared.Parts p) = whole p
condition_in (prepared.Whole e) = e.now

-- The part that is typed once for each signature: an open condition itself, and the condition on the principal of one that has
-- parts.
abbrev pub first_in : Prepared → Expression
first_in (prepared.Open e) = e.now
first_in (prepared.Parts p) = p.principal.now
first_in (prepared.Whole e) = e.now

-- The condition compares the action with this entity, whose literal has a type.
abbrev pub IsNamed : SchemaTree → Expression → Uid → Type 0
IsNamed s e u = (e ≡ binary Equal (variable Action) (literal (uid u))) × ((is_entity s u || is_action s u) ≡ true)

-- The action occurs nowhere in an open condition. Where there are parts, it occurs only as the left operand of the condition on
-- it, and that compares it with the entity that is named, if there is one.
abbrev pub IsReady : SchemaTree → Prepared → Type 0
IsReady s (prepared.Open e) = mentions e.now ≡ false
IsReady s (prepared.Parts p) = (mentions p.principal.now ≡ false) × ((mentions p.operand.now ≡ false) × ((mentions p.rest.now ≡ false) × IfSome p.named (λ u. IsNamed s (asked p.operator p.operand.now) u.now)))
IsReady s (prepared.Whole e) = Unit {0}
