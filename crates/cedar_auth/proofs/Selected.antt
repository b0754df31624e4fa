-- Policies that are not candidates, or are not selected, are false.
use Rattle.std.proofs.Common.{◌<◌, List, ℕ, Contains, length}
use Rattle.std.proofs.lemmas.Option.{slice_get_within}
use Rattle.cedar_value.specs.World.{World}
use Rattle.cedar_value.specs.declared.request.Request.{Request}
use Rattle.cedar_ast.specs.PolicyTree.{PolicyTree}
use Rattle.cedar_schema_spec.specs.declared.environment.Environment.{Environment}
use Rattle.cedar_schema_spec.specs.SchemaTree.{SchemaTree}
use Rattle.cedar_schema_spec.specs.WellFormed.{AreTypesApart}
use Rattle.cedar_schema_spec.specs.Conformance.{Conforms, Fits, FitsIn}
use Rattle.cedar_check_spec.specs.Candidates.{CandidatesAreEnough}
use Rattle.cedar_auth_spec.specs.Candidates.{AreCandidates, OthersAreFalse}
use Rattle.cedar_auth_candidates.specs.Candidates.{IsSelected}
use Rattle.cedar_auth.specs.Private.Selected.{LeavesFalse}
use Rattle.cedar_auth.proofs.Reached.{unreached_is_false}

module _ (s : SchemaTree) (ps : List PolicyTree) (w : World) (q : Request) (ks : List ℕ) (apart : AreTypesApart s) (conforms : Conforms s w) (fits : Fits s q) where
  pub others_are_false : CandidatesAreEnough → ((env : Environment) → FitsIn s env q → AreCandidates s ps env ks) → OthersAreFalse ps q w ks
  others_are_false law by =
      let here = by fits.0 fits.1 in
      record {
        ascend = here.ascend;
        others = λ i p at out. law s fits.0 q w p apart conforms fits.1 (λ c. out ((here.exact i).1 (p, at, c)));
      }

  pub leaves_false : IsSelected s ps fits.0 q w ks → LeavesFalse ps q w ks
  leaves_false selected i p at out = unreached_is_false s fits.0 q w p apart conforms fits.1 (λ h. out (selected.reached i p at h.0 h.1))

-- there is a policy at each position that is selected
pub selected_within : (s : SchemaTree) (ps : List PolicyTree) (env : Environment) (q : Request) (w : World) (ks : List ℕ) → IsSelected s ps env q w ks
    → (k : ℕ) → Contains ks k → k < length ps
selected_within s ps env q w ks selected k m = let at = selected.among k m in slice_get_within ps k at.0 at.1
