use Rattle.std.proofs.Common.{◌≡◌, ℕ, List, length, Contains, ap, subst, ◌∙◌}
use Rattle.std.specs.List.{range_with_len}
use Rattle.cedar_auth.specs.Private.Selected.{policies_at}
use Rattle.cedar_auth.specs.Private.Tally.{response_by, tally_of}
use Rattle.cedar_auth_spec.specs.Validation.{ValidatedTree}
use Rattle.cedar_auth.proofs.PoliciesAt.{policies_at-all}
use Rattle.cedar_auth_candidates.proofs.Sifts.{from_range}
use Rattle.cedar_auth.proofs.Responses.{response_by-tally}
use Rattle.cedar_auth.proofs.validated.Validated.answer.Goals as goal

pub tally-requires : goal.tally-requires
tally-requires g c =
    let ps = c.args.self.now.policies.policies in
    let all : c.deref.result.now ≡ range_with_len 0 (length ps) = c.deref.ensures.value ∙ c.in_ok-positions.ensures ∙ ap (λ (v : ValidatedTree). range_with_len 0 (length v.policies.policies)) c.self.view_is in
    record { within = λ k m. from_range (length ps) k (subst (λ (ks : List ℕ). Contains ks k) all m) }

pub returns : goal.returns
returns g c =
    let ps = c.args.self.now.policies.policies in
    let q = c.args.request.now in
    let w = g.H.Hierarchy.world c.args.hierarchy.now in
    let all : c.deref.result.now ≡ range_with_len 0 (length ps) = c.deref.ensures.value ∙ c.in_ok-positions.ensures ∙ ap (λ (v : ValidatedTree). range_with_len 0 (length v.policies.policies)) c.self.view_is in
    let tallied = rw (c.new-evaluator.ensures.request, c.new-evaluator.ensures.world) at c.in_ok-tally.ensures in
    c.into_response.ensures
    ∙ ap response_by (tallied ∙ ap (λ (ks : List ℕ). tally_of q w (policies_at ps ks)) all ∙ ap (tally_of q w) (policies_at-all ps))
    ∙ response_by-tally q w ps
