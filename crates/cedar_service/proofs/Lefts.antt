-- The policies that are left to run.
use Rattle.std.proofs.Common.{◌≡◌, ◌⊎◌, ℕ, zero, suc, ◌+◌, ◌<◌, ◌≤◌, Bool, true, false, not, nat_lt, List, [], ◌∷◌, length, drop, get_or, All, Option, Some, None, is_some, refl, sym, ap, subst, ◌∙◌, arith}
use mathlib.Core.Logic.{inl, inr}
use Rattle.std.specs.List.{slice_get, cons_option}
use Rattle.std.specs.Prelude.{Ok, if◌then◌else◌}
use Rattle.std.proofs.lemmas.List.{drop_more, drop_all}
use Rattle.std.proofs.lemmas.List.Elements.{All-get_or}
use Rattle.std.proofs.lemmas.Bool.Decides.{nat_tests}
use Rattle.cedar_ast.specs.declared.effect.Effect.{Effect}
use Rattle.cedar_ast.specs.PolicyTree.{PolicyTree}
use Rattle.cedar_ast.specs.Response.{is_true}
use Rattle.cedar_code.specs.declared.instruction.Instruction.{Instruction}
use Rattle.cedar_code.specs.declared.outcome.Outcome.{Outcome}
use Rattle.cedar_code.specs.declared.outcome.Outcome.TheVariants.{Value, Error, StackFault}
use Rattle.cedar_code.specs.Machine.{Configuration, going, ended, start}
use Rattle.cedar_machine.specs.RestingView.{RestingView, RestsAfter}
use Rattle.cedar_machine.specs.Verdict.{Verdict}
use Rattle.cedar_auth_spec.specs.Codes.{policy_code}
use Rattle.cedar_service_law.specs.Results.{Results, satisfied, entered}
use Rattle.cedar_service_law.specs.Jobs.{JobTree, Advances, are_none, is_finished}
use Rattle.cedar_service.specs.Private.Kept.{configuration_of, IsBegun, IsReached}
use Rattle.cedar_service.specs.Private.Parts.{policies_at}
use Rattle.cedar_service.specs.Private.Steps.{StepsTo}
use Rattle.cedar_service.specs.Private.Verdicts.{verdict_of, verdict_at, with_verdict}
use Rattle.cedar_service.specs.Runs.{HasMadeSteps, IsRunOf}

got : (ps : List PolicyTree) (k : ℕ) → k < length ps → (p : PolicyTree) × (slice_get ps k ≡ Some p)
got [] k low = absurd (omega arith)
got (p ∷ ps) zero low = (p, refl)
got (p ∷ ps) (suc k) low = got ps k (omega arith)

-- the policy under way, and those after it
pub left_some : (ps : List PolicyTree) (ks : List ℕ) (done k : ℕ) → All (λ k. k < length ps) ks → done < length ks → k ≡ get_or ks done k
    → (p : PolicyTree) × (slice_get ps k ≡ Some p) × (policies_at ps (drop done ks) ≡ p ∷ policies_at ps (drop (done + 1) ks))
left_some ps ks done k within low is =
    let inside : get_or ks done k < length ps = All-get_or (λ (k : ℕ). k < length ps) ks done k low within in
    let g = got ps k (omega (arith, is)) in (
      g.0,
      g.1,
      ap (policies_at ps) (drop_more ks done k low ∙ ap (λ (x : ℕ). x ∷ drop (done + 1) ks) (sym is))
          ∙ ap (λ (o : Option PolicyTree). cons_option o (policies_at ps (drop (done + 1) ks))) g.1,
    )

lt_or : (i n : ℕ) → (i < n) ⊎ (n ≤ i)
lt_or i n = grind arith

is_lt : (i n : ℕ) → i < n → nat_lt i n ≡ true
is_lt i n h = grind (arith, nat_tests)

is_not_lt : (i n : ℕ) → n ≤ i → nat_lt i n ≡ false
is_not_lt i n h = grind (arith, nat_tests)

pub lt_is : (i n : ℕ) → nat_lt i n ≡ true → i < n
lt_is i n h = grind (arith, nat_tests)

-- none is left where all positions were run
pub none_left : (ps : List PolicyTree) (ks : List ℕ) (done : ℕ) → All (λ k. k < length ps) ks → are_none (policies_at ps (drop done ks)) ≡ not (nat_lt done (length ks))
none_left ps ks done within = by (lt_or done (length ks))
  where
    by : (done < length ks) ⊎ (length ks ≤ done) → are_none (policies_at ps (drop done ks)) ≡ not (nat_lt done (length ks))
    by (inl low) = ap are_none (left_some ps ks done (get_or ks done 0) within low (some_default ks done low)).2 ∙ sym (ap not (is_lt done (length ks) low))
      where
        some_default : (ks : List ℕ) (i : ℕ) → i < length ks → get_or ks i 0 ≡ get_or ks i (get_or ks i 0)
        some_default [] i h = absurd (omega arith)
        some_default (k ∷ ks) zero h = refl
        some_default (k ∷ ks) (suc i) h = some_default ks i (omega arith)
    by (inr high) = ap (λ (l : List ℕ). are_none (policies_at ps l)) (drop_all done ks high) ∙ sym (ap not (is_not_lt done (length ks) high))

-- a job is finished where no run is under way
pub finished_so : (ps : List PolicyTree) (ks : List ℕ) (done : ℕ) (run : Option RestingView) → All (λ k. k < length ps) ks → is_some run ≡ nat_lt done (length ks)
    → are_none (policies_at ps (drop done ks)) ≡ not (is_some run)
finished_so ps ks done run within under_way = none_left ps ks done within ∙ ap not (sym under_way)

-- what is entered by a verdict is what is entered by the end
by_verdict : (r : Results) (id : List ℕ) (effect : Effect) (b : Bool) → with_verdict r id effect (Ok b) ≡ (if b then satisfied r id effect else r)
by_verdict r id effect true = refl
by_verdict r id effect false = refl

verdict_enters : (r : Results) (id : List ℕ) (effect : Effect) (o : Outcome) → with_verdict r id effect (verdict_of o) ≡ entered r id effect o
verdict_enters r id effect (Value v) = by_verdict r id effect (is_true (Ok v))
verdict_enters r id effect (Error e) = refl
verdict_enters r id effect StackFault = refl

-- one instruction
pub going_step : (old new : JobTree) (p : PolicyTree) (rest : List PolicyTree) (r after : RestingView) (code : List Instruction) (c : Configuration) (o : Option Verdict)
    → old.left ≡ p ∷ rest → r.configuration ≡ old.configuration → c ≡ r.configuration → o ≡ verdict_at c → ((v : Verdict) → o ≡ Some v → ⊥) → code ≡ policy_code p
    → RestsAfter code old.request old.version.world c r after → new ≡ record old { configuration = after.configuration }
    → StepsTo old old.left false new
going_step old new p rest r after code (going place stack) o left same at told none is moves changed =
    let advances : Advances old (going place stack) p rest new = (after.configuration, rw (← is) moves.0, changed) in
    let end : false ≡ is_finished new = sym (ap is_finished changed ∙ ap are_none left) in
    subst (λ (ps : List PolicyTree). StepsTo old ps false new) (sym left) (subst (λ (c : Configuration). Advances old c p rest new) (at ∙ same) advances, end)
going_step old new p rest r after code (ended x) o left same at told none is moves changed = absurd (none (verdict_of x) told)

-- a result is entered
pub ended_step : (old new : JobTree) (p : PolicyTree) (rest : List PolicyTree) (c to : Configuration) (verdict : Verdict) (results : Results) (id : List ℕ) (effect : Effect) (finished : Bool)
    → old.left ≡ p ∷ rest → c ≡ old.configuration → Some verdict ≡ verdict_at c → id ≡ p.id → effect ≡ p.effect
    → results ≡ with_verdict old.results id effect verdict → to ≡ start
    → new ≡ record old { left = rest; results = results; configuration = to } → finished ≡ are_none rest
    → StepsTo old old.left finished new
ended_step old new p rest (going place stack) to verdict results id effect finished left at some same_id same_effect entered_so begins changed end = absurd (cc some)
ended_step old new p rest (ended o) to verdict results id effect finished left at some same_id same_effect entered_so begins changed end =
    let same : verdict ≡ verdict_of o = cc some in
    let gives : results ≡ entered old.results p.id p.effect o =
    entered_so ∙ ap (with_verdict old.results id effect) same ∙ verdict_enters old.results id effect o
    ∙ ap (λ (x : List ℕ). entered old.results x effect o) same_id ∙ ap (λ (x : Effect). entered old.results p.id x o) same_effect in
    let advances : Advances old (ended o) p rest new =
    changed ∙ ap (λ (r : Results). record old { left = rest; results = r; configuration = to }) gives
    ∙ ap (λ (x : Configuration). record old { left = rest; results = entered old.results p.id p.effect o; configuration = x }) begins in
    subst (λ (ps : List PolicyTree). StepsTo old ps finished new) (sym left) (subst (λ (c : Configuration). Advances old c p rest new) at advances, end ∙ sym (ap is_finished changed))

pub twice : (b : Bool) → not (not b) ≡ b
twice true = refl
twice false = refl

-- the steps of a run that is under way
made_steps : (job : JobTree) (ps : List PolicyTree) (r : RestingView) → are_none ps ≡ false → IsReached job.version job.request ps (Some r) → HasMadeSteps job ps r
made_steps job [] r some reached = absurd (cc some)
made_steps job (p ∷ rest) r some reached = reached

-- the run that is lent
pub run_of : (job : JobTree) (run : Option RestingView) (o : Option RestingView) → are_none job.left ≡ not (is_some run) → job.configuration ≡ configuration_of run
    → IsReached job.version job.request job.left run → o ≡ run → IsRunOf job o
run_of job run None so same reached e = so ∙ ap (λ (x : Option RestingView). not (is_some x)) (sym e)
run_of job run (Some r) so same reached e =
    let some : are_none job.left ≡ false = so ∙ ap (λ (x : Option RestingView). not (is_some x)) (sym e) in (
      some,
      sym (same ∙ ap configuration_of (sym e)),
      made_steps job job.left r some (subst (λ (x : Option RestingView). IsReached job.version job.request job.left x) (sym e) reached),
    )

-- a run that has made no step is at the start
pub begun_at : (run : Option RestingView) → IsBegun run → configuration_of run ≡ start
begun_at None b = refl
begun_at (Some r) b = b.0
