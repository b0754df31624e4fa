use Rattle.std.proofs.Common.{List, ℕ, Contains, subst, sym}
use Rattle.cedar_auth_candidates.proofs.OpenActions.{within_set}
use Rattle.cedar_auth_candidates.proofs.row_maker.found.Goals as goal

pub returns-then-resources-clause-types : goal.returns-then-resources-clause-types
returns-then-resources-clause-types c = record {
  principals = λ n m. subst (λ (ks : List (List ℕ)). Contains ks n) c.principals-2.ensures
      (within_set c.principals.result.now.keys c.principals-2.result.now.keys (c.is_subset-principals.ensures.0 c.if-principals.true) n (subst (λ (ks : List (List ℕ)). Contains ks n) (sym c.principals.ensures) m));
  resources = λ n m. subst (λ (ks : List (List ℕ)). Contains ks n) c.resources-2.ensures
      (within_set c.resources.result.now.keys c.resources-2.result.now.keys (c.is_subset-resources.ensures.0 c.if-resources.true) n (subst (λ (ks : List (List ℕ)). Contains ks n) (sym c.resources.ensures) m));
}
