use Rattle.std.proofs.Common.{ℕ, List, subst}
use Rattle.cedar_auth_candidates.specs.Private.Sifting.{ByResource}
use Rattle.cedar_auth_candidates.proofs.row.of_principal.Goals as goal

pub returns-clause-made : goal.returns-clause-made
returns-clause-made c =
    let s = c.args.schema.now in
    let ps = c.args.policies.now.policies in
    let index = c.args.cells.now in
    let left = c.in_ok-left.left.items in
    let row = c.in_ok-row.row in (
      left,
      c.in_ok-left.ensures,
      subst (λ (ms : List (List ℕ)). ByResource s ps index left ms row) c.resources.ensures
          (subst (λ (ks : List ℕ). ByResource s ps index ks c.resources.result.now.keys row) c.deref.ensures.value c.in_ok-row.ensures.made),
    )
