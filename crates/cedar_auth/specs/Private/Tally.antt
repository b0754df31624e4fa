-- What is gathered while the policies run one after another.
use Rattle.std.specs.Prelude.{ℕ, Bool, true, false, ◌==◌, not, ◌&&◌, if◌then◌else◌, List, [], ◌∷◌, ◌++◌, length, map, filter, Ok, Err}
use Rattle.std.specs.List.{filter_map}
use Rattle.cedar_value.specs.World.{World}
use Rattle.cedar_value.specs.declared.request.Request.{Request}
use Rattle.cedar_ast.specs.declared.effect.Effect.{Effect}
use Rattle.cedar_ast.specs.declared.effect.Effect.TheVariants.{Permit, Forbid}
use Rattle.cedar_ast.specs.declared.decision.Decision.TheVariants.{Allow, Deny}
use Rattle.cedar_ast.specs.PolicyTree.{PolicyTree}
use Rattle.cedar_machine.specs.Verdict.{Verdict}
use Rattle.cedar_ast.specs.Response.{ErringTree, ResponseTree, permits, forbids, erring_of}

-- the ids of the satisfied permits and forbids, and the policies that erred
pub record TallyTree : Type 0 where
  pub permits : List (List ℕ)
  pub forbids : List (List ℕ)
  pub erring : List ErringTree

abbrev pub ids_where : (PolicyTree → Bool) → List PolicyTree → List (List ℕ)
ids_where test ps = map (λ p. p.id) (filter test ps)

-- what these policies gather
abbrev pub tally_of : Request → World → List PolicyTree → TallyTree
tally_of q w ps = record {
  permits = ids_where (permits q w) ps;
  forbids = ids_where (forbids q w) ps;
  erring = filter_map (erring_of q w) ps;
}

-- one more policy is entered
abbrev pub entered : TallyTree → List ℕ → Effect → Verdict → TallyTree
entered t id Permit (Ok true) = record t { permits = t.permits ++ id ∷ [] }
entered t id Forbid (Ok true) = record t { forbids = t.forbids ++ id ∷ [] }
entered t id effect (Ok false) = t
entered t id effect (Err e) = record t { erring = t.erring ++ (record { id = id; error = e }) ∷ [] }

-- whether no forbid is satisfied and some permit is
abbrev pub allows : TallyTree → Bool
allows t = length t.forbids == 0 && not (length t.permits == 0)

-- the response that a tally makes
abbrev pub response_by : TallyTree → ResponseTree
response_by t =
    if allows t then
    record { decision = Allow; determining = t.permits; erring = t.erring }
    else
    record { decision = Deny; determining = t.forbids; erring = t.erring }
