-- Which parts of an expression the checker looks at.
use Rattle.std.specs.Prelude.{ℕ, zero, suc, ◌++◌, Option, Some, None, nat_eq, if◌then◌else◌, IsTrue}
use Rattle.cedar_ast_expressions.specs.declared.operator.UnaryOperator.TheVariants as operator
use Rattle.cedar_ast_expressions.specs.Expression.{Expression, or, if_else, unary, set_with, Expressions, no_more, and_then}
use Rattle.cedar_schema_types.specs.declared.truth.Truth.{Truth}
use Rattle.cedar_schema_types.specs.declared.truth.Truth.TheVariants.{True}
use Rattle.cedar_schema_types.specs.Types.{TypeTree}
use Rattle.cedar_schema_types.specs.Types as kind
use Rattle.cedar_schema_spec.specs.declared.environment.Environment.{Environment}
use Rattle.cedar_schema_spec.specs.SchemaTree.{SchemaTree}
use Rattle.cedar_check_spec.specs.Capabilities.{Capabilities}
use Rattle.cedar_check_spec.specs.Typing.{TypesWith, takes_any_string}
use Rattle.cedar_check_spec.specs.declared.settings.Settings.{Settings}
use Rattle.cedar_check_diagnostics.specs.Paths.{IsStep}

-- Where these capabilities are held, the expression has a type (Cedar documentation, strict validation).
pub record HasType (settings : Settings) (s : SchemaTree) (env : Environment) (held : Capabilities) (e : Expression) : Type 0 where
  pub ty : TypeTree
  pub gained : Capabilities
  pub typed : TypesWith settings s env held e ty gained

-- The Boolean is not known to be true (Cedar documentation, strict validation: `||`).
abbrev pub MayFail : Truth → Type 0
MayFail True = ⊥
MayFail _ = Unit {0}

-- Where these capabilities are held, the expression is a Boolean that may be false (Cedar documentation, strict validation: `||`).
pub record MayBeFalse (settings : Settings) (s : SchemaTree) (env : Environment) (held : Capabilities) (e : Expression) : Type 0 where
  pub truth : Truth
  pub gained : Capabilities
  pub typed : TypesWith settings s env held e (kind.boolean truth) gained
  pub may : MayFail truth

-- The part that is false wherever the part of this number is evaluated: the left side of `||` for its right side, the condition of
-- `if` for its second branch (Cedar language reference, `||` and `if`).
abbrev pub denied_of : Expression → ℕ → Option Expression
denied_of (or a b) n = if nat_eq n 1 then Some a else None
denied_of (if_else c a b) n = if nat_eq n 2 then Some c else None
denied_of _ n = None

-- The part, if there is one, is a Boolean that may be false (Cedar documentation, strict validation: `||`).
abbrev pub MayBeDenied : Settings → SchemaTree → Environment → Capabilities → Option Expression → Type 0
MayBeDenied settings s env held None = Unit {0}
MayBeDenied settings s env held (Some a) = MayBeFalse settings s env held a

-- The first members of a set, at most this many (Cedar language reference, data types: Set).
abbrev pub first_members : ℕ → Expressions → Expressions
first_members zero es = no_more
first_members (suc n) no_more = no_more
first_members (suc n) (and_then e es) = and_then e (first_members n es)

-- The set of the members before the member of this number, where there are some (Cedar documentation, strict validation: sets).
abbrev pub set_before : Expression → ℕ → Option Expression
set_before (set_with es) zero = None
set_before (set_with es) (suc n) = Some (set_with (first_members (suc n) es))
set_before _ n = None

-- The set, if there is one, has a type: its members join (Cedar documentation, strict validation: sets).
abbrev pub IsJoined : Settings → SchemaTree → Environment → Capabilities → Option Expression → Type 0
IsJoined settings s env held None = Unit {0}
IsJoined settings s env held (Some a) = HasType settings s env held a

-- The operand of a constructor such as `decimal` is a part like others only where the settings have it take any string: else it
-- takes a literal, and is itself at fault (Cedar documentation, strict validation: extension functions; own: the settings).
abbrev pub MayLookInto : Settings → Expression → Type 0
MayLookInto settings (unary (operator.Construct c) a) = IsTrue (takes_any_string settings c)
MayLookInto settings _ = Unit {0}

-- The checker looks at the part of this number, where these capabilities are gained before it: the part's guard may be true, what is
-- false where the part is evaluated may be false, and the members before it join (Cedar documentation, strict validation).
pub record IsLookedAt (settings : Settings) (s : SchemaTree) (env : Environment) (held : Capabilities) (e : Expression) (n : ℕ) (gained : Capabilities) (part : Expression) : Type 0 where
  pub step : IsStep settings s env held e n gained part
  pub denied : MayBeDenied settings s env held (denied_of e n)
  pub joined : IsJoined settings s env held (set_before e n)
  pub inside : MayLookInto settings e

-- Each part of the expression that the checker looks at has a type, where what is gained before it is held too (Cedar
-- documentation, strict validation).
abbrev pub HasTypedParts : Settings → SchemaTree → Environment → Capabilities → Expression → Type 0
HasTypedParts settings s env held e = (n : ℕ) (gained : Capabilities) (part : Expression) → IsLookedAt settings s env held e n gained part → HasType settings s env (held ++ gained) part
