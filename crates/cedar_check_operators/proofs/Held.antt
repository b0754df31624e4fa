-- Capabilities from a place on.
use Rattle.std.proofs.Common.{◌≡◌, ℕ, ◌<◌, ◌+◌, Option, List, ◌∷◌, length, get_or, drop, drop-cons, add-one, ap, ap₂, sym, ◌∙◌}
use Rattle.std.specs.Prelude.{◌||◌}
use Rattle.cedar_check_spec.specs.Capabilities as spec
use Rattle.cedar_check_spec.specs.Private.Checking.{is_held, same_capability}
use Rattle.cedar_ast_expressions.specs.Expression.{Expression}
use Rattle.cedar_ast_expressions.specs.declared.operator.UnaryOperator.{UnaryOperator}
use Rattle.cedar_schema_spec.specs.SchemaTree.{SchemaTree}
use Rattle.cedar_check_spec.specs.Rows.{Typed, IsUnaryRow}
use Rattle.cedar_check_spec.specs.Private.Checking.{unary_type}
use Rattle.cedar_check_spec.specs.declared.settings.Settings.{Settings}
use Rattle.cedar_check_spec.proofs.Trees.{unary_row_of}
use Rattle.cedar_check_operators.specs.declared.capability.Capability.{Capability}
use Rattle.cedar_check_operators.specs.View.{capability_view, held_view}

pub drop_here : {A : Type 0} (xs : List A) (i : ℕ) (x : A) → i < length xs → x ≡ get_or xs i x → drop i xs ≡ x ∷ drop (i + 1) xs
drop_here xs i x h e = drop-cons xs i x h ∙ ap₂ (λ y (n : ℕ). y ∷ drop n xs) (sym e) (sym (add-one i))

pub held_step : (x : spec.Capability) (hs : List Capability) (i : ℕ) (h : Capability) → i < length hs → h ≡ get_or hs i h → is_held x (held_view (drop i hs)) ≡ (same_capability (capability_view h) x || is_held x (held_view (drop (i + 1) hs)))
held_step x hs i h lt e = ap (λ l. is_held x (held_view l)) (drop_here hs i h lt e)

-- what the function of the rows gives is the row
pub unary_answered : (settings : Settings) (s : SchemaTree) (h : spec.Capabilities) (op : UnaryOperator) (e : Expression) (t : Typed) (typing : Option Typed)
    → typing ≡ unary_type settings s h op e t → IsUnaryRow settings s h op e t typing
unary_answered settings s h op e t typing is = unary_row_of settings s h op e t typing is
