-- What a scope asks evaluates to whether it is met.
use Rattle.std.proofs.Common.{◌≡◌, ℕ, Bool, true, false, cond, ◌&&◌, ◌||◌, List, [], ◌∷◌, map, length, refl, sym, ap, ap₂, subst, ◌∙◌, arith}
use Rattle.std.specs.Prelude.{Ok}
use Rattle.std.specs.List.{AllByRecursion, list_all, list_any}
use Rattle.cedar_value.specs.Datum.{Datum, boolean, uid, list_of, members_of}
use Rattle.cedar_value.specs.Private.Lists.{list_of-members_of}
use Rattle.cedar_value.specs.Sets.{set_from}
use Rattle.cedar_value.specs.World.{World}
use Rattle.cedar_value.specs.declared.request.Request.{Request}
use Rattle.cedar_value.specs.declared.uid.Uid.{Uid}
use Rattle.cedar_ast_expressions.specs.declared.variable.Variable.{Variable}
use Rattle.cedar_ast.specs.declared.scope.EntityScope.{EntityScope}
use Rattle.cedar_ast.specs.declared.scope.EntityScope.TheVariants as entity
use Rattle.cedar_ast.specs.declared.scope.ActionScope.{ActionScope}
use Rattle.cedar_ast.specs.declared.scope.ActionScope.TheVariants as action
use Rattle.cedar_ast_expressions.specs.declared.operator.UnaryOperator.TheVariants as one
use Rattle.cedar_ast_expressions.specs.declared.operator.BinaryOperator.TheVariants as two
use Rattle.cedar_ast_expressions.specs.Answer.{Answer, with_answer}
use Rattle.cedar_ast.specs.Condition.{entity_literal, entity_scope_of, action_scope_of}
use Rattle.cedar_ast_expressions.specs.Expression.{expressions_of}
use Rattle.cedar_ast_expressions.specs.Evaluation.{variable_of, and_of, set_of_values, eval, eval_all}
use Rattle.cedar_ast_expressions.specs.Operators.{unary_of, binary_of, in_of, is_in, is_uid}
use Rattle.cedar_code.specs.Code.{size_all}
use Rattle.cedar_value.proofs.SetMembers.{set_all, any-set_from}
use Rattle.cedar_auth_candidates.specs.Private.Met.{is_within, is_within_one_of, is_entity_met, is_action_met}

abbrev says : Bool → Answer Datum
says b = Ok (boolean b)

both_met : (b c : Bool) (x y : Answer Datum) → x ≡ says b → y ≡ says c → with_answer x (λ v. and_of v y) ≡ says (b && c)
both_met true c x y d e = ap₂ (λ i j. with_answer i (λ v. and_of v j)) d e
both_met false c x y d e = ap (λ i. with_answer i (λ v. and_of v y)) d

module _ (q : Request) (w : World) where
  is_met : (x : Variable) (v : Uid) (ty : List ℕ) → variable_of x q ≡ uid v → eval (entity_scope_of x (entity.Is ty)) q w ≡ says (is_entity_met w v (entity.Is ty))
  is_met x v ty is = ap (λ d. unary_of w (one.Is ty) d) is

  in_met : (x : Variable) (v u : Uid) → variable_of x q ≡ uid v → eval (entity_scope_of x (entity.In u)) q w ≡ says (is_within w v u)
  in_met x v u is = ap (λ d. binary_of w two.In d (uid u)) is

  pub entity_met : (x : Variable) (v : Uid) (sc : EntityScope Uid) → variable_of x q ≡ uid v → eval (entity_scope_of x sc) q w ≡ says (is_entity_met w v sc)
  entity_met x v entity.Any is = refl
  entity_met x v (entity.Equal u) is = ap (λ d. binary_of w two.Equal d (uid u)) is
  entity_met x v (entity.In u) is = in_met x v u is
  entity_met x v (entity.Is ty) is = is_met x v ty is
  entity_met x v (entity.IsIn ty u) is = both_met (is_entity_met w v (entity.Is ty)) (is_within w v u) _ _ (is_met x v ty is) (in_met x v u is)

  literals_given : (us : List Uid) → eval_all (expressions_of (map entity_literal us)) q w ≡ Ok (map uid us)
  literals_given [] = refl
  literals_given (u ∷ us) = ap (λ x. with_answer x (λ vs. Ok (uid u ∷ vs))) (literals_given us)

  uids_all : (us : List Uid) → AllByRecursion (λ v. is_uid v ≡ true) (map uid us)
  uids_all [] = tt
  uids_all (u ∷ us) = (refl, uids_all us)

  all_test : (ds : List Datum) → AllByRecursion (λ v. is_uid v ≡ true) ds → list_all is_uid ds ≡ true
  all_test [] h = refl
  all_test (d ∷ ds) h = ap₂ (λ a b. a && b) h.0 (all_test ds h.1)

  any_uids : (v : Uid) (us : List Uid) → list_any (is_in w v) (map uid us) ≡ is_within_one_of w v us
  any_uids v [] = refl
  any_uids v (u ∷ us) = ap (λ b. is_within w v u || b) (any_uids v us)

  chosen : (b : Bool) (x y : Answer Datum) → b ≡ true → cond b x y ≡ x
  chosen true x y e = refl
  chosen false x y e = cc

  in_set : (v : Uid) (us : List Uid) → in_of w (uid v) (set_of_values (map uid us)) ≡ says (is_within_one_of w v us)
  in_set v us =
      let xs = map uid us in
      let ms = list_of (members_of (set_from xs)) in
      let is : ms ≡ set_from xs = list_of-members_of (set_from xs) in
      let every : AllByRecursion (λ d. is_uid d ≡ true) ms = subst (λ l. AllByRecursion (λ d. is_uid d ≡ true) l) (sym is) (set_all (λ d. is_uid d ≡ true) xs (uids_all us)) in
      chosen (list_all is_uid ms) (says (list_any (is_in w v) ms)) _ (all_test ms every)
      ∙ ap says (ap (list_any (is_in w v)) is ∙ any-set_from (is_in w v) xs ∙ any_uids v us)

  pub action_met : (sc : ActionScope Uid) → eval (action_scope_of sc) q w ≡ says (is_action_met w q.action sc)
  action_met action.Any = refl
  action_met (action.Equal u) = refl
  action_met (action.In u) = refl
  action_met (action.InSet us) = ap (λ x. with_answer (with_answer x (λ vs. Ok (set_of_values vs))) (in_of w (uid q.action))) (literals_given us) ∙ in_set q.action us

-- a literal is one instruction
pub size_literals : (us : List Uid) → size_all (expressions_of (map entity_literal us)) ≡ length us
size_literals [] = refl
size_literals (u ∷ us) = omega (arith, size_literals us)
