-- Capabilities: attributes of expressions that are known to be there (cedar-spec, Lean: Cedar.Validation, capabilities).
use Rattle.std.specs.Prelude.{◌≡◌, ℕ, Bool, true, List, [], ◌∷◌, filter, ◌⊎◌, ◌↔◌, Ok}
use Rattle.std.specs.Bool.{Decides}
use Rattle.cedar_value.specs.Datum.{boolean}
use Rattle.cedar_value.specs.World.{World}
use Rattle.cedar_value.specs.declared.request.Request.{Request}
use Rattle.cedar_ast_expressions.specs.declared.operator.UnaryOperator.TheVariants as operator
use Rattle.cedar_ast_expressions.specs.Expression.{Expression, unary}
use Rattle.cedar_ast_expressions.specs.Evaluation.{eval}

-- An attribute that an expression is known to have (cedar-spec, Lean: Cedar.Validation, capabilities).
pub record Capability : Type 0 where
  pub on : Expression
  pub key : List ℕ

-- A set of capabilities, as a list in which order and repeats have no meaning (cedar-spec, Lean: Cedar.Validation,
-- capabilities).
abbrev pub Capabilities : Type 0
Capabilities = List Capability

-- The capability is one of these (cedar-spec, Lean: Cedar.Validation, capabilities).
abbrev pub Has : Capability → Capabilities → Type 0
Has x [] = ⊥
Has x (y ∷ ys) = (y ≡ x) ⊎ Has x ys

-- The last has what the first or the second has (cedar-spec, Lean: Cedar.Validation, capabilities: union).
pub record IsUnion (a b d : Capabilities) : Type 0 where
  pub each : (x : Capability) → Has x d ↔ (Has x a ⊎ Has x b)

-- The last has what the first and the second both have (cedar-spec, Lean: Cedar.Validation, capabilities: intersection).
pub record IsCommon (a b d : Capabilities) : Type 0 where
  pub each : (x : Capability) → Has x d ↔ (Has x a × Has x b)

-- The two are one set (own).
pub record AreSame (a b : Capabilities) : Type 0 where
  pub each : (x : Capability) → Has x a ↔ Has x b

-- The test holds of exactly the capabilities that are held (own).
abbrev pub TellsHeld : (Capability → Bool) → Capabilities → Type 0
TellsHeld holds held = (x : Capability) → Decides (holds x) (Has x held)

-- The last list has those of the first that the second has too, in the order of the first (cedar-spec, Lean: Cedar.Validation,
-- capabilities: intersection).
pub record AreKept (one two kept : Capabilities) : Type 0 where
  pub by_test : (holds : Capability → Bool) → TellsHeld holds two → kept ≡ filter holds one

-- Each capability of the set is true: `has` of its expression and attribute evaluates to true (cedar-spec, Lean:
-- Cedar.Thm.Validation, capabilities).
abbrev pub Hold : Request → World → Capabilities → Type 0
Hold q w g = (x : Capability) → Has x g → eval (unary (operator.Has x.key) x.on) q w ≡ Ok (boolean true)
