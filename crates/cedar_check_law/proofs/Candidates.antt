-- What is not a candidate is false.
use Rattle.std.proofs.Common.{◌≡◌, ℕ, Bool, true, false, ◌||◌, ◌⊎◌, inl, inr, ⊎_elim, List, [], ◌∷◌, ◌++◌, map, Contains, refl, sym, ap, ap₂, subst, ◌∙◌}
use Rattle.std.specs.Prelude.{Ok}
use Rattle.std.specs.List.{list_any}
use Rattle.std.specs.Map.{keys_of}
use Rattle.std.specs.Str.{bytes_eq}
use Rattle.std.proofs.lemmas.Slice.Eq.{bytes_eq-Decides}
use Rattle.cedar_value.specs.Datum.{Datum, boolean, uid, same_uid}
use Rattle.cedar_value.specs.Private.Equality.{same_uid-Decides}
use Rattle.cedar_value.specs.World.{World, below}
use Rattle.cedar_value.specs.declared.request.Request.{Request}
use Rattle.cedar_value.specs.declared.uid.Uid.{Uid}
use Rattle.cedar_ast_expressions.specs.declared.variable.Variable.{Variable}
use Rattle.cedar_ast_expressions.specs.declared.variable.Variable.TheVariants.{Principal, Resource}
use Rattle.cedar_ast.specs.declared.scope.EntityScope.{EntityScope}
use Rattle.cedar_ast.specs.declared.scope.EntityScope.TheVariants as entity
use Rattle.cedar_ast.specs.declared.scope.ActionScope.{ActionScope}
use Rattle.cedar_ast.specs.declared.scope.ActionScope.TheVariants as action
use Rattle.cedar_ast_expressions.specs.Answer.{Answer, with_answer}
use Rattle.cedar_ast_expressions.specs.Expression.{Expression, expressions_of}
use Rattle.cedar_ast_expressions.specs.Evaluation.{variable_of, truth_of, and_of, set_of_values, eval, eval_all}
use Rattle.cedar_ast_expressions.specs.declared.operator.UnaryOperator.TheVariants as one
use Rattle.cedar_ast_expressions.specs.declared.operator.BinaryOperator.TheVariants as two
use Rattle.cedar_ast_expressions.specs.Operators.{unary_of, binary_of, in_of}
use Rattle.cedar_ast.specs.PolicyTree.{PolicyTree}
use Rattle.cedar_ast.specs.Condition.{entity_literal, entity_scope_of, action_scope_of, conditions_of, condition_of}
use Rattle.cedar_schema_spec.specs.declared.environment.Environment.{Environment}
use Rattle.cedar_schema_spec.specs.SchemaTree.{SchemaTree, ActionTree, environments_of}
use Rattle.cedar_schema_spec.specs.Private.Environments.{with_principals, with_resources}
use Rattle.cedar_schema_spec.specs.Descents.{ActionDescends, TypeDescends}
use Rattle.cedar_schema_spec.specs.WellFormed.{AreTypesApart}
use Rattle.cedar_schema_spec.specs.Declarations.{IsAction}
use Rattle.cedar_schema_spec.specs.Conformance.{Conforms, FitsIn}
use Rattle.cedar_check_spec.specs.Typing.{IsInOne, IsOrDescends}
use Rattle.cedar_check_spec.specs.Candidates.{MayMeet, Meets, IsCandidate, CandidatesAreEnough}
use Rattle.base_reach.proofs.Listed.{here, there, first_or_later, nowhere, from_mapped, either_true, any_decides}
use Rattle.cedar_check_law.proofs.Operators.{below_type, is_or_below, is_or_below-Decides, in_set}

-- the action of an environment is declared
in_either : {A : Type 0} (xs ys : List A) (y : A) → Contains (xs ++ ys) y → Contains xs y ⊎ Contains ys y
in_either [] ys y m = inr m
in_either (x ∷ xs) ys y m = ⊎_elim (λ e. inl (subst (λ z. Contains (x ∷ xs) z) e (here x xs))) (λ r. ⊎_elim (λ h. inl (there x xs y h)) (λ h. inr h) (in_either xs ys y r)) (first_or_later x (xs ++ ys) y m)

of_principals : (u : Uid) (a : ActionTree) (ps : List (List ℕ)) (env : Environment) → Contains (with_principals u a ps) env → u ≡ env.action
of_principals u a [] env m = absurd (nowhere env m)
of_principals u a (p ∷ ps) env m =
    ⊎_elim
    (λ h. let r = from_mapped _ a.resources env h in ap (λ (e : Environment). e.action) r.2)
    (λ h. of_principals u a ps env h)
    (in_either (with_resources u p a.context a.resources) (with_principals u a ps) env m)

pub environment_action : (as' : List (Uid × ActionTree)) (env : Environment) → Contains (environments_of as') env → Contains (keys_of as') env.action
environment_action [] env m = absurd (nowhere env m)
environment_action (x ∷ xs) env m =
    ⊎_elim
    (λ h. subst (λ (u : Uid). Contains (keys_of (x ∷ xs)) u) (of_principals x.0 x.1 x.1.principals env h) (here x.0 (keys_of xs)))
    (λ h. there x.0 (keys_of xs) env.action (environment_action xs env h))
    (in_either (with_principals x.0 x.1 x.1.principals) (environments_of xs) env m)

abbrev pub says : Bool → Answer Datum
says b = Ok (boolean b)

module _ (s : SchemaTree) (env : Environment) (q : Request) (w : World) (apart : AreTypesApart s) (conforms : Conforms s w) (fits : FitsIn s env q) where
  -- what an expression gives, and what follows where it is true
  pub record Tested (e : Expression) (P : Type 0) : Type 0 where
    pub truth : Bool
    pub gives : eval e q w ≡ says truth
    pub meets : truth ≡ true → P

  related : (v u : Uid) (n : List ℕ) → v.ty ≡ n → (same_uid v u || below w v u) ≡ true → IsOrDescends s n u.ty
  related v u n k e =
      ⊎_elim
      (λ d. inl (sym k ∙ ap (λ (x : Uid). x.ty) ((same_uid-Decides v u).0 d)))
      (λ d. inr (subst (λ (m : List ℕ). TypeDescends s m u.ty) k (below_type s w apart conforms v u d)))
      (either_true (same_uid v u) (below w v u) e)

  and_tested : (b c : Bool) (x y : Answer Datum) → x ≡ says b → y ≡ says c → (z : Bool) × (with_answer x (λ v. and_of v y) ≡ says z) × (z ≡ true → (b ≡ true) × (c ≡ true))
  and_tested true c x y d e = (c, ap₂ (λ i j. with_answer i (λ v. and_of v j)) d e, λ h. (refl, h))
  and_tested false c x y d e = (false, ap (λ i. with_answer i (λ v. and_of v y)) d, λ h. cc)

  in_tested : (x : Variable) (v : Uid) (n : List ℕ) (u : Uid) → variable_of x q ≡ uid v → v.ty ≡ n → Tested (entity_scope_of x (entity.In u)) (MayMeet s n (entity.In u))
  in_tested x v n u is k = record {
    truth = same_uid v u || below w v u;
    gives = ap (λ d. binary_of w two.In d (uid u)) is;
    meets = related v u n k;
  }

  is_tested : (x : Variable) (v : Uid) (n m : List ℕ) → variable_of x q ≡ uid v → v.ty ≡ n → Tested (entity_scope_of x (entity.Is m)) (MayMeet s n (entity.Is m))
  is_tested x v n m is k = record {
    truth = bytes_eq v.ty m;
    gives = ap (λ d. unary_of w (one.Is m) d) is;
    meets = λ e. sym k ∙ (bytes_eq-Decides v.ty m).0 e;
  }

  pub entity_tested : (x : Variable) (v : Uid) (n : List ℕ) (sc : EntityScope Uid) → variable_of x q ≡ uid v → v.ty ≡ n → Tested (entity_scope_of x sc) (MayMeet s n sc)
  entity_tested x v n entity.Any is k = record { truth = true; gives = refl; meets = λ e. tt }
  entity_tested x v n (entity.Equal u) is k = record {
    truth = same_uid v u;
    gives = ap (λ d. binary_of w two.Equal d (uid u)) is;
    meets = λ e. sym k ∙ ap (λ (y : Uid). y.ty) ((same_uid-Decides v u).0 e);
  }
  entity_tested x v n (entity.In u) is k = in_tested x v n u is k
  entity_tested x v n (entity.Is m) is k = is_tested x v n m is k
  entity_tested x v n (entity.IsIn m u) is k =
      let a = is_tested x v n m is k in
      let b = in_tested x v n u is k in
      let (z, gives, both) = and_tested a.truth b.truth _ _ a.gives b.gives in
      record { truth = z; gives = gives; meets = λ e. (a.meets (both e).0, b.meets (both e).1) }

  -- the action is declared
  declared : IsAction s q.action
  declared = subst (IsAction s) (sym fits.action) (environment_action s.actions env fits.listed)

  literals_given : (us : List Uid) → eval_all (expressions_of (map entity_literal us)) q w ≡ Ok (map uid us)
  literals_given [] = refl
  literals_given (u ∷ us) = ap (λ x. with_answer x (λ vs. Ok (uid u ∷ vs))) (literals_given us)

  is_in_one : (us : List Uid) → list_any (is_or_below s w apart conforms q.action) us ≡ true → IsInOne s q.action us
  is_in_one us e = (any_decides (is_or_below s w apart conforms q.action) (λ v. (q.action ≡ v) ⊎ ActionDescends s q.action v) us (λ v. is_or_below-Decides s w apart conforms q.action v declared)).0 e

  pub action_tested : (sc : ActionScope Uid) → Tested (action_scope_of sc) (Meets s q.action sc)
  action_tested action.Any = record { truth = true; gives = refl; meets = λ e. tt }
  action_tested (action.Equal u) = record { truth = same_uid q.action u; gives = refl; meets = λ e. (same_uid-Decides q.action u).0 e }
  action_tested (action.In u) = record { truth = is_or_below s w apart conforms q.action u; gives = refl; meets = λ e. (is_or_below-Decides s w apart conforms q.action u declared).0 e }
  action_tested (action.InSet us) = record {
    truth = list_any (is_or_below s w apart conforms q.action) us;
    gives = ap (λ x. with_answer (with_answer x (λ vs. Ok (set_of_values vs))) (in_of w (uid q.action))) (literals_given us) ∙ in_set s w apart conforms q q.action us;
    meets = is_in_one us;
  }

  -- one false scope makes the whole false
  pub whole : (a b c : Bool) (x y z rest : Answer Datum) → x ≡ says a → y ≡ says b → z ≡ says c → ((a ≡ true) × (b ≡ true) × (c ≡ true) → ⊥)
      → with_answer x (λ v. and_of v (with_answer y (λ v. and_of v (with_answer z (λ v. and_of v rest))))) ≡ says false
  whole false b c x y z rest d e f n = ap (λ i. with_answer i (λ v. and_of v (with_answer y (λ v. and_of v (with_answer z (λ v. and_of v rest)))))) d
  whole true false c x y z rest d e f n = ap₂ (λ i j. with_answer i (λ v. and_of v (with_answer j (λ v. and_of v (with_answer z (λ v. and_of v rest)))))) d e
  whole true true false x y z rest d e f n =
      ap₂ (λ i j. with_answer i (λ v. and_of v (with_answer j (λ v. and_of v (with_answer z (λ v. and_of v rest)))))) d e
      ∙ ap (λ k. with_answer (with_answer (with_answer k (λ v. and_of v rest)) truth_of) truth_of) f
  whole true true true x y z rest d e f n = absurd (n (refl, refl, refl))

  false_scope : (p : PolicyTree) → ¬ IsCandidate s env p → eval (condition_of p) q w ≡ says false
  false_scope p n =
      let a = entity_tested Principal q.principal env.principal p.scope.principal refl fits.principal in
      let b = action_tested p.scope.action in
      let c = entity_tested Resource q.resource env.resource p.scope.resource refl fits.resource in
      whole a.truth b.truth c.truth _ _ _ (eval (conditions_of p.conditions) q w) a.gives b.gives c.gives
      (λ h. n (record { principal = a.meets h.0; action = subst (λ u. Meets s u p.scope.action) fits.action (b.meets h.1); resource = c.meets h.2 }))

pub candidates_are_enough : CandidatesAreEnough
candidates_are_enough s env q w p apart conforms fits n = false_scope s env q w apart conforms fits p n
