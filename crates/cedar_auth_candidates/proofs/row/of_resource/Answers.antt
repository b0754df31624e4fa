use Rattle.std.proofs.Common.{ℕ, List, sym, subst, ◌∙◌}
use Rattle.cedar_check_spec.specs.Candidates.{MayMeet}
use Rattle.cedar_auth_candidates.specs.Private.Sifting.{SiftedBy}
use Rattle.cedar_auth_candidates.proofs.row.of_resource.Goals as goal

pub returns-clause-made : goal.returns-clause-made
returns-clause-made c =
    let s = c.args.schema.now in
    let ps = c.args.policies.now.policies in (
      subst (λ (js : List ℕ). SiftedBy ps (λ p. MayMeet s c.args.ty.now p.scope.resource) c.args.positions.now js) (sym (c.in_ok-cell.ensures.positions ∙ c.deref.ensures.value)) c.in_ok-positions.ensures,
      c.in_ok-cell.ensures.listed,
    )
