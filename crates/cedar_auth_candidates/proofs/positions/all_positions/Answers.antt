use Rattle.std.proofs.Common.{ℕ, List, ◌∷◌, ◌++◌, [], sym, ap, ◌∙◌}
use Rattle.cedar_auth_candidates.proofs.Sifts.{range_more}
use Rattle.cedar_auth_candidates.proofs.positions.all_positions.Goals as goal

pub loop-position-preserved : goal.loop-position-preserved
loop-position-preserved c =
    c.in_ok-push.ensures.items ∙ ap (λ (ks : List ℕ). ks ++ c.loop-position.position ∷ []) c.loop-position.invariant ∙ sym (range_more c.loop-position.position)
