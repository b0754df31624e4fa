-- What the rows of cedar_check_operators give, as the checker's functions have it.
use Rattle.std.proofs.Common.{◌≡◌, Option}
use Rattle.cedar_ast_expressions.specs.Expression.{Expression}
use Rattle.cedar_ast_expressions.specs.declared.operator.UnaryOperator.{UnaryOperator}
use Rattle.cedar_schema_spec.specs.SchemaTree.{SchemaTree}
use Rattle.cedar_check_spec.specs.Capabilities.{Capabilities, AreKept}
use Rattle.cedar_check_spec.specs.Rows.{Typed, IsUnaryRow}
use Rattle.cedar_check_spec.specs.Private.Checking.{common, unary_type}
use Rattle.cedar_check_spec.specs.declared.settings.Settings.{Settings}
use Rattle.cedar_check_spec.proofs.Trees.{kept_common, unary_row_is}

pub kept_in : (one two kept : Capabilities) → AreKept one two kept → kept ≡ common one two
kept_in one two kept h = kept_common one two kept h

pub unary_given : (settings : Settings) (s : SchemaTree) (h : Capabilities) (op : UnaryOperator) (e : Expression) (t : Typed) (typing : Option Typed)
    → IsUnaryRow settings s h op e t typing → typing ≡ unary_type settings s h op e t
unary_given settings s h op e t typing row = unary_row_is settings s h op e t typing row
