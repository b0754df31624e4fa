-- What the policies gather makes their response.
use Rattle.std.proofs.Common.{◌≡◌, Bool, true, false, if◌then◌else◌, List, map, filter, refl, ap, ◌∙◌}
use Rattle.std.specs.List.{filter_map}
use Rattle.cedar_value.specs.World.{World}
use Rattle.cedar_value.specs.declared.request.Request.{Request}
use Rattle.cedar_ast.specs.declared.decision.Decision.TheVariants.{Allow, Deny}
use Rattle.cedar_ast.specs.PolicyTree.{PolicyTree}
use Rattle.cedar_ast.specs.Response.{ResponseTree, permits, forbids, erring_of, allows, decided, response}
use Rattle.cedar_auth_spec.proofs.Ids.{allows_is}
use Rattle.cedar_auth.specs.Private.Tally.{ids_where, tally_of, response_by}

chosen : (q : Request) (w : World) (ps : List PolicyTree) (b : Bool) → ResponseTree
chosen q w ps b =
    if b then record { decision = Allow; determining = ids_where (permits q w) ps; erring = filter_map (erring_of q w) ps }
    else record { decision = Deny; determining = ids_where (forbids q w) ps; erring = filter_map (erring_of q w) ps }

chosen_is : (q : Request) (w : World) (ps : List PolicyTree) (b : Bool)
    → chosen q w ps b ≡ record { decision = decided b; determining = map (λ p. p.id) (filter (if b then permits q w else forbids q w) ps); erring = filter_map (erring_of q w) ps }
unfolding chosen
chosen_is q w ps true = refl
chosen_is q w ps false = refl

pub response_by-tally : (q : Request) (w : World) (ps : List PolicyTree) → response_by (tally_of q w ps) ≡ response ps q w
unfolding chosen
response_by-tally q w ps =
    ap (chosen q w ps) (allows_is q w ps) ∙ chosen_is q w ps (allows q w ps)
