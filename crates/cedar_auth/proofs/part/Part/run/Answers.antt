use Rattle.std.proofs.lemmas.Result.{IfOk-weaker}
use Rattle.cedar_ast.specs.Condition.{condition_of}
use Rattle.cedar_auth_candidates.proofs.Begun.{scope_short, comes_behind}
use Rattle.cedar_auth.proofs.part.Part.run.Goals as goal

pub place_after_scope-first-requires : goal.place_after_scope-first-requires
place_after_scope-first-requires g c =
    rw c.scope.ensures (scope_short c.self.inside.policy.now _ c.self.invariant.0 c.well_formedness.ensures.fits)

pub decide_from-requires : goal.decide_from-requires
decide_from-requires g c =
    rw (c.place_after_scope-first.ensures, c.scope.ensures)
    (comes_behind c.true_sides_are_passed.ensures c.self.inside.policy.now _ _ _ c.self.invariant.0 (rw (← c.self.view_is) at c.requires))

pub returns : goal.returns
returns g c =
    rw (← c.self.view_is)
    (IfOk-weaker c.decide_from.result _ _ (λ v h. h (condition_of c.self.inside.policy.now) c.self.invariant.0) c.decide_from.ensures.decides)
