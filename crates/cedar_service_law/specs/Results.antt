-- The results of the policies that a job has run, and what they decide.
use Rattle.std.specs.Prelude.{ℕ, Bool, not, ◌&&◌, ◌==◌, if◌then◌else◌, List, [], ◌∷◌, ◌++◌, length, Ok}
use Rattle.cedar_ast.specs.declared.effect.Effect.{Effect}
use Rattle.cedar_ast.specs.declared.effect.Effect.TheVariants.{Permit, Forbid}
use Rattle.cedar_ast.specs.Response.{is_true, ErringTree, ResponseTree, decided}
use Rattle.cedar_code.specs.declared.outcome.Outcome.{Outcome}
use Rattle.cedar_code.specs.declared.outcome.Outcome.TheVariants.{Value, Error, StackFault}

-- The ids of the permits and of the forbids that were satisfied, and the policies that erred, in the order of their runs
-- (own).
pub record Results : Type 0 where
  pub permits : List (List ℕ)
  pub forbids : List (List ℕ)
  pub erring : List ErringTree

-- No policy was run (own).
abbrev pub no_results : Results
no_results = record { permits = []; forbids = []; erring = [] }

-- One more policy of this id and effect was satisfied (own).
abbrev pub satisfied : Results → List ℕ → Effect → Results
satisfied r id Permit = record r { permits = r.permits ++ id ∷ [] }
satisfied r id Forbid = record r { forbids = r.forbids ++ id ∷ [] }

-- The run of one more policy, of this id and effect, ended so: a true value satisfies it, an error is kept beside its id, and
-- nothing else changes the results (Cedar language reference, authorization).
abbrev pub entered : Results → List ℕ → Effect → Outcome → Results
entered r id effect (Value v) = if is_true (Ok v) then satisfied r id effect else r
entered r id effect (Error e) = record r { erring = r.erring ++ (record { id = id; error = e }) ∷ [] }
entered r id effect StackFault = r

-- Whether the request is allowed: some permit is satisfied and no forbid is (Cedar language reference, authorization).
abbrev pub allowed_by : Results → Bool
allowed_by r = length r.forbids == 0 && not (length r.permits == 0)

-- The response that the results decide (Cedar language reference, authorization).
abbrev pub decided_by : Results → ResponseTree
decided_by r = record {
  decision = decided (allowed_by r);
  determining = if allowed_by r then r.permits else r.forbids;
  erring = r.erring;
}
