-- What a typing promises of evaluation (cedar-spec, Lean: Cedar.Thm.Validation, soundness of the typechecker).
use Rattle.std.specs.Prelude.{◌≡◌, true, List, Ok, Err, IsTrue}
use Rattle.std.specs.List.{AllByRecursion}
use Rattle.cedar_value.specs.Datum.{Datum, boolean}
use Rattle.cedar_value.specs.World.{World}
use Rattle.cedar_value.specs.declared.request.Request.{Request}
use Rattle.cedar_ast_expressions.specs.declared.error.EvaluationError.{EvaluationError}
use Rattle.cedar_ast_expressions.specs.declared.error.EvaluationError.TheVariants.{Overflow, MissingEntity, Decimal}
use Rattle.cedar_ast_expressions.specs.Answer.{Answer}
use Rattle.cedar_ast_expressions.specs.Expression.{Expression}
use Rattle.cedar_ast_expressions.specs.Evaluation.{eval}
use Rattle.cedar_ast.specs.PolicyTree.{PolicyTree}
use Rattle.cedar_ast.specs.Condition.{condition_of}
use Rattle.cedar_ast.specs.Response.{ErringTree, response}
use Rattle.cedar_schema_spec.specs.declared.environment.Environment.{Environment}
use Rattle.cedar_schema_types.specs.Types.{TypeTree}
use Rattle.cedar_schema_spec.specs.SchemaTree.{SchemaTree}
use Rattle.cedar_schema_spec.specs.WellFormed.{AreTypesApart}
use Rattle.cedar_schema_types.specs.Membership.{Member, IsBoolean}
use Rattle.cedar_schema_spec.specs.Conformance.{Conforms, FitsIn, Fits}
use Rattle.cedar_check_spec.specs.Capabilities.{Capabilities, Hold}
use Rattle.cedar_check_spec.specs.Typing.{TypesWith}
use Rattle.cedar_ast_expressions.specs.Replacement.{replace}
use Rattle.cedar_check_spec.specs.Acceptance.{IsAcceptedWith}
use Rattle.cedar_check_spec.specs.Settings.{default_settings}
use Rattle.cedar_check_spec.specs.declared.settings.Settings.{Settings}

-- The errors that validation leaves: a sum or product beyond 64 bits, the attribute of an entity that the world lacks, and with
-- the setting on a string that is not a decimal (Cedar documentation, policy validation: what validation does not find).
abbrev pub IsAllowedWith : Settings → EvaluationError → Type 0
IsAllowedWith settings Overflow = Unit {0}
IsAllowedWith settings MissingEntity = Unit {0}
IsAllowedWith settings Decimal = IsTrue settings.any_decimal
IsAllowedWith settings _ = ⊥

-- The answer has the property, or is one of the errors that the settings leave (own).
abbrev pub GoodWith : {A : Type 0} → Settings → (A → Type 0) → Answer A → Type 0
GoodWith settings P (Ok v) = P v
GoodWith settings P (Err e) = IsAllowedWith settings e

-- The expression evaluates to a member of its type or to one of the errors that the settings leave, and where it is true, all
-- that it gains holds (cedar-spec, Lean: Cedar.Thm.Validation, type of is sound).
pub record PromiseWith (settings : Settings) (q : Request) (w : World) (e : Expression) (t : TypeTree) (gained : Capabilities) : Type 0 where
  pub value : GoodWith settings (Member t) (eval e q w)
  pub gains : eval e q w ≡ Ok (boolean true) → Hold q w gained

-- Every typing keeps its promise: for each schema whose action types are not entity types, each world that conforms, each
-- request that fits one of its environments, and held capabilities that hold (cedar-spec, Lean: Cedar.Thm.Validation, type of
-- is sound).
abbrev pub SoundTypingWith : Settings → Type 0
SoundTypingWith settings = (s : SchemaTree) (env : Environment) (q : Request) (w : World) (held gained : Capabilities) (e : Expression) (t : TypeTree) → AreTypesApart s → Conforms s w → FitsIn s env q → Hold q w held → TypesWith settings s env held e t gained → PromiseWith settings q w e t gained

-- To replace the variable by the request's action changes no evaluation (cedar-spec, Lean: Cedar.Thm.Validation, substitution
-- of the action).
abbrev pub SoundReplacement : Type 0
SoundReplacement = (q : Request) (w : World) (e : Expression) → eval (replace q.action e) q w ≡ eval e q w

-- The value is a Boolean (Cedar language reference, Bool).
abbrev pub IsTruth : Datum → Type 0
IsTruth = IsBoolean (λ b. Unit {0})

-- The condition of a policy that is accepted under the settings evaluates to a Boolean, or to one of the errors that they
-- leave, for every request that fits (cedar-spec, Lean: Cedar.Thm.Validation, validation is sound).
abbrev pub SoundAcceptanceWith : Settings → Type 0
SoundAcceptanceWith settings = (s : SchemaTree) (q : Request) (w : World) (p : PolicyTree) → AreTypesApart s → Conforms s w → Fits s q → IsAcceptedWith settings s p → GoodWith settings IsTruth (eval (condition_of p) q w)

-- So each error that a response names is one of those, where all policies are accepted under the settings (cedar-spec, Lean:
-- Cedar.Thm.Validation, validation is sound).
abbrev pub SoundResponseWith : Settings → Type 0
SoundResponseWith settings = (s : SchemaTree) (q : Request) (w : World) (ps : List PolicyTree) → AreTypesApart s → Conforms s w → Fits s q → AllByRecursion (IsAcceptedWith settings s) ps → AllByRecursion (λ (x : ErringTree). IsAllowedWith settings x.error) (response ps q w).erring

-- Some schema, world, request and policy meet all premises at once, so that the promises are not empty (own).
pub record PremisesAreMetWith (settings : Settings) : Type 0 where
  pub schema : SchemaTree
  pub environment : Environment
  pub request : Request
  pub world : World
  pub policy : PolicyTree
  pub apart : AreTypesApart schema
  pub conforms : Conforms schema world
  pub fits : FitsIn schema environment request
  pub accepted : IsAcceptedWith settings schema policy

-- Every typing keeps its promise, with no setting on (cedar-spec, Lean: Cedar.Thm.Validation, type of is sound).
abbrev pub SoundTyping : Type 0
SoundTyping = SoundTypingWith default_settings

-- The condition of an accepted policy evaluates to a Boolean, or to one of the two errors, for every request that fits
-- (cedar-spec, Lean: Cedar.Thm.Validation, validation is sound).
abbrev pub SoundAcceptance : Type 0
SoundAcceptance = SoundAcceptanceWith default_settings

-- So each error that a response names is one of the two, where all policies are accepted with no setting on (cedar-spec, Lean:
-- Cedar.Thm.Validation, validation is sound).
abbrev pub SoundResponse : Type 0
SoundResponse = SoundResponseWith default_settings

-- Some schema, world, request and policy meet all premises at once, with no setting on (own).
abbrev pub PremisesAreMet : Type 0
PremisesAreMet = PremisesAreMetWith default_settings
