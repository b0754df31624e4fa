-- Which policies can be satisfied in an environment, according to their scopes alone (Cedar language reference, policy scope).
use Rattle.std.specs.Prelude.{◌≡◌, ◌⊎◌, ℕ, Bool, false, List, filter, Ok}
use Rattle.cedar_value.specs.Datum.{boolean}
use Rattle.cedar_value.specs.World.{World}
use Rattle.cedar_value.specs.declared.request.Request.{Request}
use Rattle.cedar_value.specs.declared.uid.Uid.{Uid}
use Rattle.cedar_ast.specs.declared.scope.EntityScope.{EntityScope}
use Rattle.cedar_ast.specs.declared.scope.EntityScope.TheVariants as entity
use Rattle.cedar_ast.specs.declared.scope.ActionScope.{ActionScope}
use Rattle.cedar_ast.specs.declared.scope.ActionScope.TheVariants as action
use Rattle.cedar_ast.specs.PolicyTree.{PolicyTree}
use Rattle.cedar_ast.specs.Condition.{condition_of}
use Rattle.cedar_ast_expressions.specs.Evaluation.{eval}
use Rattle.cedar_ast.specs.Response.{response}
use Rattle.cedar_schema_spec.specs.declared.environment.Environment.{Environment}
use Rattle.cedar_schema_spec.specs.SchemaTree.{SchemaTree}
use Rattle.cedar_schema_spec.specs.Descents.{ActionDescends}
use Rattle.cedar_schema_spec.specs.WellFormed.{AreTypesApart}
use Rattle.cedar_schema_spec.specs.Conformance.{Conforms, FitsIn}
use Rattle.cedar_check_spec.specs.Typing.{IsInOne, IsOrDescends}

-- An entity of the type may be what the scope of a principal or a resource requires (Cedar language reference, policy scope).
abbrev pub MayMeet : SchemaTree → List ℕ → EntityScope Uid → Type 0
MayMeet s n entity.Any = Unit {0}
MayMeet s n (entity.Equal u) = n ≡ u.ty
MayMeet s n (entity.In u) = IsOrDescends s n u.ty
MayMeet s n (entity.Is m) = n ≡ m
MayMeet s n (entity.IsIn m u) = (n ≡ m) × IsOrDescends s n u.ty

-- The action is what its scope requires, according to the schema's links (Cedar language reference, policy scope).
abbrev pub Meets : SchemaTree → Uid → ActionScope Uid → Type 0
Meets s a action.Any = Unit {0}
Meets s a (action.Equal u) = a ≡ u
Meets s a (action.In u) = (a ≡ u) ⊎ ActionDescends s a u
Meets s a (action.InSet us) = IsInOne s a us

-- The policy's three scopes may be met in the environment (own).
pub record IsCandidate (s : SchemaTree) (env : Environment) (p : PolicyTree) : Type 0 where
  pub principal : MayMeet s env.principal p.scope.principal
  pub action : Meets s env.action p.scope.action
  pub resource : MayMeet s env.resource p.scope.resource

-- A policy that is not a candidate in the request's environment is false, whether or not it is accepted (own).
abbrev pub CandidatesAreEnough : Type 0
CandidatesAreEnough = (s : SchemaTree) (env : Environment) (q : Request) (w : World) (p : PolicyTree) → AreTypesApart s → Conforms s w → FitsIn s env q → ¬ IsCandidate s env p → eval (condition_of p) q w ≡ Ok (boolean false)

-- To leave out policies that are false changes no response (own; cedar-spec, Lean: Cedar.Thm, slicing).
abbrev pub FalseOnesMayGo : Type 0
FalseOnesMayGo = (q : Request) (w : World) (keeps : PolicyTree → Bool) (ps : List PolicyTree) → ((p : PolicyTree) → keeps p ≡ false → eval (condition_of p) q w ≡ Ok (boolean false)) → response (filter keeps ps) q w ≡ response ps q w
