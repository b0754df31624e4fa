-- The engine is sound.
use Rattle.std.proofs.Common.{◌≡◌, ◌↔◌, ℕ, Bool, true, false, not, ◌&&◌, if◌then◌else◌, ⊎_elim, List, [], ◌∷◌, map, filter, Contains, Some, Ok, Err, refl, sym, ap, ap₂, subst, ◌∙◌}
use Rattle.std.specs.List.{list_any}
use Rattle.cedar_value.specs.Datum.{Datum, boolean}
use Rattle.cedar_value.specs.World.{World}
use Rattle.cedar_value.specs.declared.request.Request.{Request}
use Rattle.cedar_ast.specs.declared.effect.Effect.{Effect}
use Rattle.cedar_ast.specs.declared.effect.Effect.TheVariants.{Permit, Forbid}
use Rattle.cedar_ast.specs.declared.decision.Decision.TheVariants.{Allow}
use Rattle.cedar_ast_expressions.specs.Answer.{Answer}
use Rattle.cedar_ast_expressions.specs.Expression.{Expression}
use Rattle.cedar_ast.specs.Condition.{condition_of}
use Rattle.cedar_ast.specs.PolicyTree.{PolicyTree}
use Rattle.cedar_ast.specs.Response.{ErringTree, meaning, is_true, is_permit, permits, forbids, erring_by, erring_of, allows, decided, response}
use Rattle.cedar_check_spec.specs.Acceptance.{IsAcceptedWith}
use Rattle.cedar_check_spec.specs.Soundness.{GoodWith, IsTruth, IsAllowedWith, SoundAcceptanceWith}
use Rattle.cedar_check_spec.specs.declared.settings.Settings.{Settings}
use Rattle.cedar_check_spec.specs.Soundness as typing
use Rattle.cedar_code.specs.Machine.{RunsAsEvaluated, outcome_of}
use Rattle.cedar_auth_spec.specs.Headline.{IsSafeWith, RunsSafelyWith, IsSatisfied, Errs, SomeIsSatisfied, determining_effect, IsCedars, EngineIsSoundWith, PremisesAreMetWith}
use Rattle.base_reach.proofs.Listed.{first_or_later, nowhere, mapped, from_mapped, filter-kept, from_filtered, given, from_given, is_false, any_found, any_at}

-- ---- policies that are satisfied

true_answer : (a : Answer Datum) → is_true a ≡ true → a ≡ Ok (boolean true)
true_answer (Ok (boolean true)) e = refl
true_answer (Ok (boolean false)) e = cc
true_answer (Ok _) e = cc
true_answer (Err _) e = cc

permit_found : (effect : Effect) (b : Bool) → (is_permit effect && b) ≡ true → (effect ≡ Permit) × (b ≡ true)
permit_found Permit b e = (refl, e)
permit_found Forbid b e = cc

forbid_found : (effect : Effect) (b : Bool) → (not (is_permit effect) && b) ≡ true → (effect ≡ Forbid) × (b ≡ true)
forbid_found Permit b e = cc
forbid_found Forbid b e = (refl, e)

permit_made : (effect : Effect) (b : Bool) → effect ≡ Permit → b ≡ true → (is_permit effect && b) ≡ true
permit_made Permit b e d = d
permit_made Forbid b e d = cc

forbid_made : (effect : Effect) (b : Bool) → effect ≡ Forbid → b ≡ true → (not (is_permit effect) && b) ≡ true
forbid_made Permit b e d = cc
forbid_made Forbid b e d = d

module _ (q : Request) (w : World) where
  permits_satisfied : (p : PolicyTree) → permits q w p ≡ true → (p.effect ≡ Permit) × IsSatisfied q w p
  permits_satisfied p e = let d = permit_found p.effect (is_true (meaning q w p)) e in (d.0, true_answer (meaning q w p) d.1)

  forbids_satisfied : (p : PolicyTree) → forbids q w p ≡ true → (p.effect ≡ Forbid) × IsSatisfied q w p
  forbids_satisfied p e = let d = forbid_found p.effect (is_true (meaning q w p)) e in (d.0, true_answer (meaning q w p) d.1)

  satisfied_permits : (p : PolicyTree) → p.effect ≡ Permit → IsSatisfied q w p → permits q w p ≡ true
  satisfied_permits p e s = permit_made p.effect (is_true (meaning q w p)) e (ap is_true s)

  satisfied_forbids : (p : PolicyTree) → p.effect ≡ Forbid → IsSatisfied q w p → forbids q w p ≡ true
  satisfied_forbids p e s = forbid_made p.effect (is_true (meaning q w p)) e (ap is_true s)

  -- ---- the decision

  some_permit : (ps : List PolicyTree) → list_any (permits q w) ps ≡ true ↔ SomeIsSatisfied Permit ps q w
  some_permit ps = (
    λ e. let f = any_found (permits q w) ps e in let s = permits_satisfied f.0 f.2 in (f.0, f.1, s.0, s.1),
    λ s. any_at (permits q w) ps s.0 s.1 (satisfied_permits s.0 s.2 s.3),
  )

  some_forbid : (ps : List PolicyTree) → list_any (forbids q w) ps ≡ true ↔ SomeIsSatisfied Forbid ps q w
  some_forbid ps = (
    λ e. let f = any_found (forbids q w) ps e in let s = forbids_satisfied f.0 f.2 in (f.0, f.1, s.0, s.1),
    λ s. any_at (forbids q w) ps s.0 s.1 (satisfied_forbids s.0 s.2 s.3),
  )

  allowed_by : (f p : Bool) → decided (not f && p) ≡ Allow → (p ≡ true) × (f ≡ false)
  allowed_by true p e = cc
  allowed_by false true e = (refl, refl)
  allowed_by false false e = cc

  allowed_made : (f p : Bool) → p ≡ true → f ≡ false → decided (not f && p) ≡ Allow
  allowed_made true p e d = cc
  allowed_made false true e d = refl
  allowed_made false false e d = cc

  none_forbids : (ps : List PolicyTree) → list_any (forbids q w) ps ≡ false → ¬ SomeIsSatisfied Forbid ps q w
  none_forbids ps e s = let t : true ≡ false = sym ((some_forbid ps).1 s) ∙ e in cc

  cedars_decision : (ps : List PolicyTree) → (response ps q w).decision ≡ Allow ↔ (SomeIsSatisfied Permit ps q w × ¬ SomeIsSatisfied Forbid ps q w)
  cedars_decision ps = (
    λ e. let d = allowed_by (list_any (forbids q w) ps) (list_any (permits q w) ps) e in ((some_permit ps).0 d.0, none_forbids ps d.1),
    λ s. allowed_made (list_any (forbids q w) ps) (list_any (permits q w) ps) ((some_permit ps).1 s.0) (is_false (list_any (forbids q w) ps) (λ e. s.1 ((some_forbid ps).0 e))),
  )

  -- ---- the determining policies

  named_where : (ps : List PolicyTree) (test : PolicyTree → Bool) (p : PolicyTree) (id : List ℕ) → Contains ps p → p.id ≡ id → test p ≡ true → Contains (map (λ p. p.id) (filter test ps)) id
  named_where ps test p id m e t = subst (λ (i : List ℕ). Contains (map (λ p. p.id) (filter test ps)) i) e (mapped (λ p. p.id) (filter test ps) p (filter-kept test ps p m t))

  cedars_determining : (ps : List PolicyTree) (b : Bool) (id : List ℕ) → Contains (map (λ p. p.id) (filter (if b then permits q w else forbids q w) ps)) id ↔ ((p : PolicyTree) × Contains ps p × (p.id ≡ id) × (p.effect ≡ determining_effect (decided b)) × IsSatisfied q w p)
  cedars_determining ps true id = (
    λ m. let x = from_mapped (λ p. p.id) (filter (permits q w) ps) id m in let y = from_filtered (permits q w) ps x.0 x.1 in let s = permits_satisfied x.0 y.1 in (x.0, y.0, x.2, s.0, s.1),
    λ n. named_where ps (permits q w) n.0 id n.1 n.2 (satisfied_permits n.0 n.3 n.4),
  )
  cedars_determining ps false id = (
    λ m. let x = from_mapped (λ p. p.id) (filter (forbids q w) ps) id m in let y = from_filtered (forbids q w) ps x.0 x.1 in let s = forbids_satisfied x.0 y.1 in (x.0, y.0, x.2, s.0, s.1),
    λ n. named_where ps (forbids q w) n.0 id n.1 n.2 (satisfied_forbids n.0 n.3 n.4),
  )

  -- ---- the policies that err

  erring_is : (a : Answer Datum) (id : List ℕ) (x : ErringTree) → erring_by a id ≡ Some x → (id ≡ x.id) × (a ≡ Err x.error)
  erring_is (Ok v) id x e = cc
  erring_is (Err f) id x e =
      let made : ErringTree = record { id = id; error = f } in
      let same : made ≡ x = cc in (ap (λ (y : ErringTree). y.id) same, ap (λ (y : ErringTree). let a : Answer Datum = Err y.error in a) same)

  erring_made : (a : Answer Datum) (id : List ℕ) (x : ErringTree) → id ≡ x.id → a ≡ Err x.error → erring_by a id ≡ Some x
  erring_made a id x e d = ap₂ (λ (b : Answer Datum) (i : List ℕ). erring_by b i) d e

  cedars_erring : (ps : List PolicyTree) (x : ErringTree) → Contains (response ps q w).erring x ↔ ((p : PolicyTree) × Contains ps p × (p.id ≡ x.id) × Errs q w p x.error)
  cedars_erring ps x = (
    λ m. let p = from_given (erring_of q w) ps x m in let e = erring_is (meaning q w p.0) p.0.id x p.2 in (p.0, p.1, e.0, e.1),
    λ n. given (erring_of q w) ps n.0 x n.1 (erring_made (meaning q w n.0) n.0.id x n.2 n.3),
  )

  pub cedars : (ps : List PolicyTree) → IsCedars ps q w (response ps q w)
  cedars ps = record { decision = cedars_decision ps; determining = cedars_determining ps (allows q w ps); erring = cedars_erring ps }

-- ---- every code runs safely

module _ (settings : Settings) where
  safe_end : (a : Answer Datum) → GoodWith settings IsTruth a → IsSafeWith settings (outcome_of a)
  safe_end (Ok v) h = h
  safe_end (Err e) h = h

  runs_safely : (q : Request) (w : World) (p : PolicyTree) → RunsAsEvaluated (condition_of p) q w → GoodWith settings IsTruth (meaning q w p) → RunsSafelyWith settings p q w
  runs_safely q w p law good = record { steps = law.count; runs = law.executes; few = law.few; safe = safe_end (meaning q w p) good }

  -- the errors that are named are those that policies err by
  pub named_errors : (q : Request) (w : World) (ps : List PolicyTree) → ((p : PolicyTree) → Contains ps p → GoodWith settings IsTruth (meaning q w p)) → (x : ErringTree) → Contains (response ps q w).erring x → IsAllowedWith settings x.error
  named_errors q w ps good x m = let n = (cedars_erring q w ps x).0 m in subst (GoodWith settings IsTruth) n.3 (good n.0 n.1)

  pub engine_is_sound : SoundAcceptanceWith settings → ((e : Expression) (q : Request) (w : World) → RunsAsEvaluated e q w) → EngineIsSoundWith settings
  engine_is_sound sound runs s ps w q apart validated conforms fits =
      let good = λ (p : PolicyTree) (m : Contains ps p). sound s q w p apart conforms fits (validated.each p m) in
      record { runs = λ p m. runs_safely q w p (runs (condition_of p) q w) (good p m); errors = named_errors q w ps good; cedars = cedars q w ps }

  pub premises_are_met : typing.PremisesAreMetWith settings → PremisesAreMetWith settings
  premises_are_met m = record {
    schema = m.schema;
    policies = m.policy ∷ [];
    world = m.world;
    request = m.request;
    some = λ e. cc;
    apart = m.apart;
    validated = record { each = λ p h. ⊎_elim (λ e. subst (λ (x : PolicyTree). IsAcceptedWith settings m.schema x) e m.accepted) (λ n. absurd (nowhere p n)) (first_or_later m.policy [] p h) };
    conforms = m.conforms;
    fits = (m.environment, m.fits);
  }
