-- What the checker reports: where policies are refused, and which cannot be satisfied (Cedar documentation, policy validation).
use Rattle.std.specs.Prelude.{ℕ, List, [], ◌∷◌, ◌++◌}
use Rattle.cedar_value.specs.declared.uid.Uid.{Uid}
use Rattle.cedar_ast.specs.PolicyTree.{PolicyTree}
use Rattle.cedar_schema_spec.specs.declared.environment.Environment.{Environment}
use Rattle.cedar_schema_spec.specs.SchemaTree.{SchemaTree, environments_of}
use Rattle.cedar_check_spec.specs.Acceptance.{IsAcceptedInWith, IsImpossibleWith}
use Rattle.cedar_check_spec.specs.declared.settings.Settings.{Settings}

-- A policy, given by its id, and an environment in which it is not accepted, given by its action and its two types (Cedar
-- documentation, policy validation).
pub record FaultTree : Type 0 where
  pub policy : List ℕ
  pub action : Uid
  pub principal : List ℕ
  pub resource : List ℕ

-- The fault of this policy in this environment (Cedar documentation, policy validation).
abbrev pub fault_at : PolicyTree → Environment → FaultTree
fault_at p env = record { policy = p.id; action = env.action; principal = env.principal; resource = env.resource }

-- The faults of a policy in these environments under these settings: one for each environment in which it is not accepted, in
-- their order, and no other (Cedar documentation, policy validation).
pub data AreFaultsInWith (settings : Settings) (s : SchemaTree) (p : PolicyTree) : List Environment → List FaultTree → Type 0 where
  in_none : AreFaultsInWith settings s p [] []
  in_accepted : {env : Environment} {envs : List Environment} {faults : List FaultTree} → IsAcceptedInWith settings s env p → AreFaultsInWith settings s p envs faults → AreFaultsInWith settings s p (env ∷ envs) faults
  in_refused : {env : Environment} {envs : List Environment} {faults : List FaultTree} → ¬ IsAcceptedInWith settings s env p → AreFaultsInWith settings s p envs faults → AreFaultsInWith settings s p (env ∷ envs) (fault_at p env ∷ faults)

-- The faults of a policy: those in the environments of the schema (Cedar documentation, policy validation).
abbrev pub AreFaultsOfWith : Settings → SchemaTree → PolicyTree → List FaultTree → Type 0
AreFaultsOfWith settings s p faults = AreFaultsInWith settings s p (environments_of s.actions) faults

-- The faults of these policies: those of each policy, in the order of the policies (own).
pub data AreFaultsWith (settings : Settings) (s : SchemaTree) : List PolicyTree → List FaultTree → Type 0 where
  of_none : AreFaultsWith settings s [] []
  of_more : {p : PolicyTree} {ps : List PolicyTree} {faults more : List FaultTree} → AreFaultsOfWith settings s p faults → AreFaultsWith settings s ps more → AreFaultsWith settings s (p ∷ ps) (faults ++ more)

-- The warnings on these policies: the id of each policy that no request can satisfy, in the order of the policies, and no other
-- (Cedar documentation, policy validation: impossible policies).
pub data AreWarningsWith (settings : Settings) (s : SchemaTree) : List PolicyTree → List (List ℕ) → Type 0 where
  on_none : AreWarningsWith settings s [] []
  on_satisfiable : {p : PolicyTree} {ps : List PolicyTree} {ids : List (List ℕ)} → ¬ IsImpossibleWith settings s p → AreWarningsWith settings s ps ids → AreWarningsWith settings s (p ∷ ps) ids
  on_impossible : {p : PolicyTree} {ps : List PolicyTree} {ids : List (List ℕ)} → IsImpossibleWith settings s p → AreWarningsWith settings s ps ids → AreWarningsWith settings s (p ∷ ps) (p.id ∷ ids)
