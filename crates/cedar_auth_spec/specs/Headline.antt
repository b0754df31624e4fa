-- The soundness of the engine, in one statement for all settings, `EngineIsSoundWith`, and its reading with no setting on,
-- `EngineIsSound`.
use Rattle.std.specs.Prelude.{◌≡◌, ◌≢◌, ◌↔◌, ◌≤◌, ℕ, true, List, [], length, Contains, Ok, Err}
use Rattle.cedar_value.specs.Datum.{boolean}
use Rattle.cedar_value.specs.World.{World}
use Rattle.cedar_value.specs.declared.request.Request.{Request}
use Rattle.cedar_ast.specs.declared.effect.Effect.{Effect}
use Rattle.cedar_ast.specs.declared.effect.Effect.TheVariants.{Permit, Forbid}
use Rattle.cedar_ast.specs.declared.decision.Decision.{Decision}
use Rattle.cedar_ast.specs.declared.decision.Decision.TheVariants.{Allow, Deny}
use Rattle.cedar_ast_expressions.specs.declared.error.EvaluationError.{EvaluationError}
use Rattle.cedar_ast.specs.PolicyTree.{PolicyTree}
use Rattle.cedar_ast.specs.Response.{ErringTree, ResponseTree, meaning, response}
use Rattle.cedar_schema_spec.specs.SchemaTree.{SchemaTree}
use Rattle.cedar_schema_spec.specs.WellFormed.{AreTypesApart}
use Rattle.cedar_schema_spec.specs.Conformance.{Conforms, Fits}
use Rattle.cedar_check_spec.specs.Settings.{default_settings}
use Rattle.cedar_check_spec.specs.Soundness.{IsAllowedWith, IsTruth}
use Rattle.cedar_check_spec.specs.declared.settings.Settings.{Settings}
use Rattle.cedar_code.specs.declared.outcome.Outcome.{Outcome}
use Rattle.cedar_code.specs.declared.outcome.Outcome.TheVariants.{Value, Error, StackFault}
use Rattle.cedar_code.specs.Machine.{Executes, outcome_of}
use Rattle.cedar_auth_spec.specs.Codes.{policy_code}
use Rattle.cedar_auth_spec.specs.Validation.{IsValidatedWith}

-- ---- every policy's code runs safely

-- An end is safe under these settings: it is a Boolean, or an error that they leave. These errors are overflow and missing
-- entity, and with the setting on a decimal error. A stack fault, a type error or a missing attribute is not safe (Cedar
-- documentation, policy validation: what validation does not find).
abbrev pub IsSafeWith : Settings → Outcome → Type 0
IsSafeWith settings (Value v) = IsTruth v
IsSafeWith settings (Error e) = IsAllowedWith settings e
IsSafeWith settings StackFault = ⊥

-- The policy's code runs to the end that the evaluation of its condition has. It takes so many steps, no more than it has
-- instructions, and that end is safe under these settings (cedar-spec, Lean: Cedar.Thm.Validation; own: the code).
pub record RunsSafelyWith (settings : Settings) (p : PolicyTree) (q : Request) (w : World) : Type 0 where
  pub steps : ℕ
  pub runs : Executes (policy_code p) q w steps (outcome_of (meaning q w p))
  pub few : steps ≤ length (policy_code p)
  pub safe : IsSafeWith settings (outcome_of (meaning q w p))

-- ---- the response is Cedar's

-- The policy is satisfied: its condition is true (Cedar language reference, authorization).
abbrev pub IsSatisfied : Request → World → PolicyTree → Type 0
IsSatisfied q w p = meaning q w p ≡ Ok (boolean true)

-- The policy errs: its condition has this error in place of a value. So it is not satisfied (Cedar language reference,
-- authorization, errors).
abbrev pub Errs : Request → World → PolicyTree → EvaluationError → Type 0
Errs q w p e = meaning q w p ≡ Err e

-- Some policy of this effect is satisfied (Cedar language reference, authorization).
abbrev pub SomeIsSatisfied : Effect → List PolicyTree → Request → World → Type 0
SomeIsSatisfied effect ps q w = (p : PolicyTree) × Contains ps p × (p.effect ≡ effect) × IsSatisfied q w p

-- The effect of the policies that determine a decision: permits allow, and forbids deny (Cedar language reference,
-- authorization).
abbrev pub determining_effect : Decision → Effect
determining_effect Allow = Permit
determining_effect Deny = Forbid

-- The response is Cedar's answer (Cedar language reference, authorization; cedar-spec, Lean: Cedar.Thm.Authorization).
pub record IsCedars (ps : List PolicyTree) (q : Request) (w : World) (r : ResponseTree) : Type 0 where
  -- forbid overrides permit: the request is allowed where some permit is satisfied and no forbid is, and else denied
  pub decision : (r.decision ≡ Allow) ↔ (SomeIsSatisfied Permit ps q w × ¬ SomeIsSatisfied Forbid ps q w)
  -- the determining policies are named: the satisfied permits where it is allowed, the satisfied forbids where it is denied
  pub determining : (id : List ℕ) → Contains r.determining id ↔ ((p : PolicyTree) × Contains ps p × (p.id ≡ id) × (p.effect ≡ determining_effect r.decision) × IsSatisfied q w p)
  -- the policies that err are named, each with its error; they are not satisfied, so they take no other part
  pub erring : (x : ErringTree) → Contains r.erring x ↔ ((p : PolicyTree) × Contains ps p × (p.id ≡ x.id) × Errs q w p x.error)

-- ---- the headline

-- What is promised of a request under these settings. Every policy's code runs safely. The response names only errors that the
-- settings leave: overflow and missing entity, and with the setting on a decimal error. And it is Cedar's (Cedar language
-- reference, authorization; cedar-spec, Lean: Cedar.Thm).
pub record IsAnsweredSoundlyWith (settings : Settings) (ps : List PolicyTree) (q : Request) (w : World) : Type 0 where
  pub runs : (p : PolicyTree) → Contains ps p → RunsSafelyWith settings p q w
  pub errors : (x : ErringTree) → Contains (response ps q w).erring x → IsAllowedWith settings x.error
  pub cedars : IsCedars ps q w (response ps q w)

-- Where strict validation under these settings accepts the policies for the schema, and the world and the request conform to
-- it, the request is answered soundly. The premise that no action's type is an entity type holds of every schema that is read
-- (Cedar documentation, policy validation; cedar-spec, Lean: Cedar.Thm).
abbrev pub EngineIsSoundWith : Settings → Type 0
EngineIsSoundWith settings = (s : SchemaTree) (ps : List PolicyTree) (w : World) (q : Request) → AreTypesApart s → IsValidatedWith settings s ps → Conforms s w → Fits s q → IsAnsweredSoundlyWith settings ps q w

-- Some schema, policies, world and request meet all premises at once, so that the promise is not empty (own).
pub record PremisesAreMetWith (settings : Settings) : Type 0 where
  pub schema : SchemaTree
  pub policies : List PolicyTree
  pub world : World
  pub request : Request
  pub some : policies ≢ []
  pub apart : AreTypesApart schema
  pub validated : IsValidatedWith settings schema policies
  pub conforms : Conforms schema world
  pub fits : Fits schema request

-- ---- the same with no setting on

-- Where strict validation accepts the policies for the schema, and the world and the request conform to it, the request is
-- answered soundly (Cedar documentation, policy validation; cedar-spec, Lean: Cedar.Thm).
abbrev pub EngineIsSound : Type 0
EngineIsSound = EngineIsSoundWith default_settings

-- Some schema, policies, world and request meet all premises at once, with no setting on (own).
abbrev pub PremisesAreMet : Type 0
PremisesAreMet = PremisesAreMetWith default_settings
