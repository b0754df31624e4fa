-- How the run under way came to where it is, and which errors are entered.
use Rattle.std.proofs.Common.{◌≡◌, ◌⊎◌, ℕ, zero, suc, true, false, List, [], ◌∷◌, ◌++◌, Contains, Option, Some, None, Ok, Err, sym, subst, arith}
use mathlib.Core.Logic.{inl, inr}
use Rattle.std.specs.List.{slice_get}
use Rattle.std.proofs.lemmas.List.Elements.{Contains-push_cases}
use Rattle.cedar_value.specs.declared.request.Request.{Request}
use Rattle.cedar_ast.specs.declared.effect.Effect.{Effect}
use Rattle.cedar_ast.specs.declared.effect.Effect.TheVariants.{Permit, Forbid}
use Rattle.cedar_ast_expressions.specs.declared.error.EvaluationError.{EvaluationError}
use Rattle.cedar_ast.specs.PolicyTree.{PolicyTree}
use Rattle.cedar_ast.specs.Response.{ErringTree}
use Rattle.cedar_code.specs.declared.instruction.Instruction.{Instruction}
use Rattle.cedar_code.specs.declared.outcome.Outcome.{Outcome}
use Rattle.cedar_code.specs.declared.outcome.Outcome.TheVariants.{Value, Error, StackFault}
use Rattle.cedar_code.specs.Machine.{Configuration, going, ended, start, Step, Steps}
use Rattle.cedar_machine.specs.RestingView.{RestingView, RestsAfter}
use Rattle.cedar_machine.specs.Verdict.{Verdict}
use Rattle.cedar_check_spec.specs.Soundness.{IsAllowedWith}
use Rattle.cedar_check_spec.specs.declared.settings.Settings.{Settings}
use Rattle.cedar_auth_spec.specs.Codes.{policy_code}
use Rattle.cedar_auth_spec.specs.Headline.{IsAnsweredSoundlyWith, IsSafeWith}
use Rattle.cedar_auth_spec.specs.Ready.{ReadyTree}
use Rattle.cedar_service_law.specs.Results.{Results, no_results}
use Rattle.cedar_service_law.specs.Jobs.{RunsEndAsEvaluated}
use Rattle.cedar_service.specs.Private.Kept.{IsBegun, IsReached, AreAllowed}
use Rattle.cedar_service.specs.Private.Verdicts.{verdict_of, verdict_at, with_verdict}

-- a policy at a position is one of the policies
pub one_of : (ps : List PolicyTree) (k : ℕ) (p : PolicyTree) → slice_get ps k ≡ Some p → Contains ps p
one_of [] k p e = absurd (cc e)
one_of (x ∷ ps) zero p e = let same : x ≡ p = cc e in (0, omega arith, same)
one_of (x ∷ ps) (suc k) p e = let more = one_of ps k p e in (suc more.0, omega (arith, more.1), more.2)

module _ (v : ReadyTree) (q : Request) where
  -- a run that has made no step
  pub reached_first : (left : List PolicyTree) (run : Option RestingView) → IsBegun run → IsReached v q left run
  reached_first [] run b = tt
  reached_first (p ∷ rest) None b = tt
  reached_first (p ∷ rest) (Some r) b =
      subst (λ (n : ℕ). Steps (policy_code p) q v.world n start r.configuration) (sym b.1) b.0

  -- one step more
  pub reached_more : (left : List PolicyTree) (p : PolicyTree) (rest : List PolicyTree) (r after : RestingView) (code : List Instruction) (c : Configuration) (o : Option Verdict)
      → left ≡ p ∷ rest → c ≡ r.configuration → o ≡ verdict_at c → ((x : Verdict) → o ≡ Some x → ⊥) → code ≡ policy_code p
      → RestsAfter code q v.world c r after → IsReached v q left (Some r) → IsReached v q left (Some after)
  reached_more left p rest r after code (ended x) o is at told none same moves came = absurd (none (verdict_of x) told)
  reached_more left p rest r after code (going place stack) o is at told none same moves came =
      subst (λ (ps : List PolicyTree). IsReached v q ps (Some after)) (sym is) longer
    where
      before : Steps (policy_code p) q v.world r.executed start r.configuration
      before = subst (λ (ps : List PolicyTree). IsReached v q ps (Some r)) is came

      step : Step (policy_code p) q v.world (going place stack) after.configuration
      step = subst (λ (x : List Instruction). Step x q v.world (going place stack) after.configuration) same moves.0

      longer : Steps (policy_code p) q v.world after.executed start after.configuration
      longer = let count : suc r.executed ≡ after.executed = omega (arith, moves.1) in
          subst (λ (n : ℕ). Steps (policy_code p) q v.world n start after.configuration) count
          (going place stack, subst (λ (x : Configuration). Steps (policy_code p) q v.world r.executed start x) (sym at) before, step)

module _ (settings : Settings) where
  -- one error more
  more_allowed : (r : Results) (id : List ℕ) (e : EvaluationError) → AreAllowed settings r.erring → IsAllowedWith settings e → AreAllowed settings (r.erring ++ (record { id = id; error = e }) ∷ [])
  more_allowed r id e old new x c = by (Contains-push_cases r.erring _ x c)
    where
      by : Contains r.erring x ⊎ ((record { id = id; error = e }) ≡ x) → IsAllowedWith settings x.error
      by (inl before) = old x before
      by (inr same) = subst (λ (y : ErringTree). IsAllowedWith settings y.error) same new

  -- the verdict of a safe end
  verdict_allows : Verdict → Type 0
  verdict_allows (Ok b) = Unit {0}
  verdict_allows (Err e) = IsAllowedWith settings e

  safe_verdict : (o : Outcome) → IsSafeWith settings o → verdict_allows (verdict_of o)
  unfolding verdict_allows
  safe_verdict (Value v) s = tt
  safe_verdict (Error e) s = s
  safe_verdict StackFault s = tt

  entered_allowed : (r : Results) (id : List ℕ) (effect : Effect) (verdict : Verdict) → AreAllowed settings r.erring → verdict_allows verdict → AreAllowed settings (with_verdict r id effect verdict).erring
  unfolding verdict_allows
  entered_allowed r id Permit (Ok true) old s = old
  entered_allowed r id Forbid (Ok true) old s = old
  entered_allowed r id effect (Ok false) old s = old
  entered_allowed r id effect (Err e) old s = more_allowed r id e old s

  -- where nothing is entered, no error is
  pub none_allowed : (r : Results) → r ≡ no_results → AreAllowed settings r.erring
  none_allowed r e = subst (λ (x : Results). AreAllowed settings x.erring) (sym e) (λ x c. absurd (nothing x c))
    where
      nothing : (x : ErringTree) → Contains [] x → ⊥
      nothing x c = omega (arith, c.1)

-- what is entered where the run has ended
pub entered_so : RunsEndAsEvaluated → (v : ReadyTree) (q : Request) (p : PolicyTree) (n : ℕ) (c : Configuration) (r : Results) (id : List ℕ) (effect : Effect) (verdict : Verdict)
    → IsAnsweredSoundlyWith v.settings v.policies.policies q v.world → Contains v.policies.policies p → Steps (policy_code p) q v.world n start c → Some verdict ≡ verdict_at c
    → AreAllowed v.settings r.erring → AreAllowed v.settings (with_verdict r id effect verdict).erring
entered_so law v q p n (going place stack) r id effect verdict sound is came some old = absurd (cc some)
entered_so law v q p n (ended o) r id effect verdict sound is came some old =
    let same : verdict ≡ verdict_of o = cc some in
    let safe : IsSafeWith v.settings o = subst (IsSafeWith v.settings) (sym (law p q v.world n o came)) (sound.runs p is).safe in
    entered_allowed v.settings r id effect verdict old (subst (verdict_allows v.settings) (sym same) (safe_verdict v.settings o safe))
