-- The parts of an expression that are typed first, and the rows from there on.
use Rattle.std.specs.Prelude.{◌≡◌, List, [], ◌∷◌, ◌++◌, Option, Some, None, option_and_then}
use Rattle.std.specs.Borrow.{Bor}
use Rattle.cedar_ast_expressions.specs.Expression.{Expression, and, or, if_else, unary, binary}
use Rattle.cedar_schema_spec.specs.SchemaTree.{SchemaTree}
use Rattle.cedar_schema_spec.specs.declared.environment.Environment.{Environment}
use Rattle.cedar_check_spec.specs.Capabilities.{Capabilities}
use Rattle.cedar_check_spec.specs.Rows.{Typed, binary_type}
use Rattle.cedar_check_spec.specs.Private.Checking.{and_type, if_type, on_boolean, on_two, or_type, type_of_with, unary_type}
use Rattle.cedar_check_spec.specs.declared.settings.Settings.{Settings}

-- The part of an expression that is typed first, where the row of the expression goes on from there.
abbrev pub left_of : Expression → Option Expression
left_of (and a b) = Some a
left_of (or a b) = Some a
left_of (if_else i x y) = Some i
left_of (unary op e) = Some e
left_of (binary op a b) = Some a
left_of _ = None

-- The typing of an expression, from that of its left part. One that has no such part keeps the typing.
abbrev pub row_from : Settings → SchemaTree → Environment → Capabilities → Expression → Option Typed → Option Typed
row_from settings s env h (and a b) t = on_boolean t (and_type h (λ k. type_of_with settings s env k b))
row_from settings s env h (or a b) t = on_boolean t (or_type (type_of_with settings s env h b))
row_from settings s env h (if_else i x y) t = on_boolean t (if_type (λ g. type_of_with settings s env (h ++ g) x) (type_of_with settings s env h y))
row_from settings s env h (unary op e) t = option_and_then (unary_type settings s h op e) t
row_from settings s env h (binary op a b) t = on_two t (type_of_with settings s env h b) (binary_type s op a b)
row_from settings s env h _ t = t

-- The typing of the first of these expressions, each of which is the left part of the one before it, from that of the left part
-- of the last.
abbrev pub rows_from : Settings → SchemaTree → Environment → Capabilities → List (Bor Expression) → Option Typed → Option Typed
rows_from settings s env h [] t = t
rows_from settings s env h (e ∷ es) t = row_from settings s env h e.now (rows_from settings s env h es t)

-- These expressions lead from the one to the other: each is the left part of the one before it.
abbrev pub Leads : Expression → List (Bor Expression) → Expression → Type 0
Leads e [] f = e ≡ f
Leads e (p ∷ ps) f = (p.now ≡ e) × ((l : Expression) × ((left_of e ≡ Some l) × Leads l ps f))
