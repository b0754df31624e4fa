-- What contracts see of the values of the rules.
use Rattle.std.specs.Prelude.{option_map, List, map, Option, Some, None}
use Rattle.cedar_schema_types.specs.Types.{TypeTree}
use Rattle.cedar_schema_types.specs.Types as kind
use Rattle.cedar_check_spec.specs.Capabilities as spec
use Rattle.cedar_check_spec.specs.Rows as rule
use Rattle.cedar_check_operators.specs.declared.capability.Capability.{Capability}
use Rattle.cedar_check_operators.specs.declared.lent_type.LentType.{LentType}
use Rattle.cedar_check_operators.specs.declared.lent_type.LentType.TheVariants as lent
use Rattle.cedar_check_operators.specs.declared.typing.Typed.{Typed}
use Rattle.cedar_check_operators.specs.declared.typing.Typing.{Typing}
use Rattle.cedar_check_operators.specs.declared.typing.Typing.TheVariants as answer

-- The capability, with its expression and its attribute as trees (cedar-spec, Lean: Cedar.Validation, capabilities).
abbrev pub capability_view : Capability → spec.Capability
capability_view c = record { on = c.on.now; key = c.key.now }

-- The capabilities of a list (cedar-spec, Lean: Cedar.Validation, capabilities).
abbrev pub held_view : List Capability → spec.Capabilities
held_view xs = map capability_view xs

-- The type, whether it is lent or was built (own).
abbrev pub tree_of : LentType → TypeTree
tree_of (lent.Boolean f) = kind.boolean f
tree_of lent.Long = kind.long
tree_of lent.String = kind.string
tree_of (lent.Extension x) = kind.extension x
tree_of (lent.Entity n) = kind.entity n.now
tree_of (lent.Lent t) = t.now
tree_of (lent.Made t) = t

-- The type with what is gained (cedar-spec, Lean: Cedar.Validation, typechecker).
abbrev pub typed_view : Typed → rule.Typed
typed_view t = record { ty = tree_of t.ty; gained = held_view t.gained.items }

-- The typing, and None where there is none. The reason is not seen; tests fix it (own).
abbrev pub typing_view : Typing → Option rule.Typed
typing_view (answer.Typed t) = Some (typed_view t)
typing_view (answer.Refused f) = None

-- The type of the typing, and None where there is none (own).
abbrev pub element_view : Typing → Option TypeTree
element_view t = option_map (λ x. x.ty) (typing_view t)
