-- A policy that is not a candidate, or that the request's own entities do not reach, is false.
use Rattle.std.proofs.Common.{◌≡◌, Bool, true, false, ◌||◌, ◌⊎◌, inl, inr, ⊎_elim, None, Some, refl, sym, ap, ap₂, subst, ◌∙◌}
use Rattle.std.specs.Prelude.{Ok}
use Rattle.std.specs.Str.{bytes_eq}
use Rattle.cedar_value.specs.Datum.{Datum, boolean, uid, same_uid}
use Rattle.cedar_value.specs.Private.Equality.{same_uid-Decides}
use Rattle.cedar_value.specs.World.{World, Below, below}
use Rattle.cedar_value.proofs.Reach.{below-Decides}
use Rattle.cedar_value.specs.declared.request.Request.{Request}
use Rattle.cedar_value.specs.declared.uid.Uid.{Uid}
use Rattle.cedar_ast_expressions.specs.declared.variable.Variable.{Variable}
use Rattle.cedar_ast_expressions.specs.declared.variable.Variable.TheVariants.{Principal, Resource}
use Rattle.cedar_ast.specs.declared.scope.EntityScope.{EntityScope}
use Rattle.cedar_ast.specs.declared.scope.EntityScope.TheVariants as entity
use Rattle.cedar_ast_expressions.specs.Answer.{Answer, with_answer}
use Rattle.cedar_ast_expressions.specs.Evaluation.{variable_of, and_of, eval}
use Rattle.cedar_ast_expressions.specs.declared.operator.UnaryOperator.TheVariants as one
use Rattle.cedar_ast_expressions.specs.declared.operator.BinaryOperator.TheVariants as two
use Rattle.cedar_ast_expressions.specs.Operators.{unary_of, binary_of}
use Rattle.cedar_ast.specs.PolicyTree.{PolicyTree}
use Rattle.cedar_ast.specs.Condition.{entity_scope_of, conditions_of}
use Rattle.cedar_ast.specs.Response.{meaning}
use Rattle.cedar_schema_spec.specs.declared.environment.Environment.{Environment}
use Rattle.cedar_schema_spec.specs.SchemaTree.{SchemaTree}
use Rattle.cedar_schema_spec.specs.WellFormed.{AreTypesApart}
use Rattle.cedar_schema_spec.specs.Conformance.{Conforms, FitsIn}
use Rattle.cedar_check_spec.specs.Candidates.{Meets, IsCandidate}
use Rattle.cedar_check_law.proofs.Candidates.{says, entity_tested, action_tested, whole}
use Rattle.cedar_auth_candidates.specs.Reached.{Reaches, IsReached}
use Rattle.cedar_ast.specs.Scope.{entity_in}
use Rattle.base_reach.proofs.Listed.{either_true}

-- what a scope that names no uid asks
asks_nothing : (w : World) (e : Uid) (scope : EntityScope Uid) → entity_in scope ≡ None → Reaches w e scope
asks_nothing w e scope none u some = absurd (cc (sym none ∙ some))

-- what a scope that names a uid asks
asks_one : (w : World) (e u : Uid) (scope : EntityScope Uid) → entity_in scope ≡ Some u → (e ≡ u) ⊎ Below w e u → Reaches w e scope
asks_one w e u scope names h v some =
    let both : Some u ≡ Some v = sym names ∙ some in
    let same : u ≡ v = cc both in
    subst (λ (x : Uid). (e ≡ x) ⊎ Below w e x) same h

module _ (q : Request) (w : World) where
  reached_in : (e u : Uid) → (same_uid e u || below w e u) ≡ true → (e ≡ u) ⊎ Below w e u
  reached_in e u t =
      ⊎_elim (λ d. inl ((same_uid-Decides e u).0 d)) (λ d. inr ((below-Decides w e u).0 d)) (either_true (same_uid e u) (below w e u) t)

  -- where both are true the second is
  second_true : (b c : Bool) (x y : Answer Datum) → x ≡ says b → y ≡ says c → with_answer x (λ v. and_of v y) ≡ says true → c ≡ true
  second_true true c x y d e h =
      let is : says c ≡ says true = sym (ap₂ (λ i j. with_answer i (λ v. and_of v j)) d e) ∙ h in
      cc is
  second_true false c x y d e h =
      let is : says false ≡ says true = sym (ap (λ i. with_answer i (λ v. and_of v y)) d) ∙ h in
      absurd (cc is)

  -- a scope that is true is reached
  true_is_reached : (x : Variable) (e : Uid) (scope : EntityScope Uid) → variable_of x q ≡ uid e → eval (entity_scope_of x scope) q w ≡ says true → Reaches w e scope
  true_is_reached x e entity.Any is t = asks_nothing w e entity.Any refl
  true_is_reached x e (entity.Equal u) is t =
      let gives : says (same_uid e u) ≡ says true = sym (ap (λ d. binary_of w two.Equal d (uid u)) is) ∙ t in
      asks_one w e u (entity.Equal u) refl (inl ((same_uid-Decides e u).0 (cc gives)))
  true_is_reached x e (entity.In u) is t =
      let gives : says (same_uid e u || below w e u) ≡ says true = sym (ap (λ d. binary_of w two.In d (uid u)) is) ∙ t in
      asks_one w e u (entity.In u) refl (reached_in e u (cc gives))
  true_is_reached x e (entity.Is m) is t = asks_nothing w e (entity.Is m) refl
  true_is_reached x e (entity.IsIn m u) is t =
      let holds = second_true (bytes_eq e.ty m) (same_uid e u || below w e u) _ _ (ap (λ d. unary_of w (one.Is m) d) is) (ap (λ d. binary_of w two.In d (uid u)) is) t in
      asks_one w e u (entity.IsIn m u) refl (reached_in e u holds)

pub unreached_is_false : (s : SchemaTree) (env : Environment) (q : Request) (w : World) (p : PolicyTree) → AreTypesApart s → Conforms s w → FitsIn s env q → ¬ (IsCandidate s env p × IsReached q w p) → meaning q w p ≡ Ok (boolean false)
unreached_is_false s env q w p apart conforms fits n =
    let a = entity_tested s env q w apart conforms fits Principal q.principal env.principal p.scope.principal refl fits.principal in
    let b = action_tested s env q w apart conforms fits p.scope.action in
    let c = entity_tested s env q w apart conforms fits Resource q.resource env.resource p.scope.resource refl fits.resource in
    whole s env q w apart conforms fits a.truth b.truth c.truth _ _ _ (eval (conditions_of p.conditions) q w) a.gives b.gives c.gives
    (λ h. n (
      record { principal = a.meets h.0; action = subst (λ u. Meets s u p.scope.action) fits.action (b.meets h.1); resource = c.meets h.2 },
      (true_is_reached q w Principal q.principal p.scope.principal refl (a.gives ∙ ap says h.0), true_is_reached q w Resource q.resource p.scope.resource refl (c.gives ∙ ap says h.2)),
    ))
