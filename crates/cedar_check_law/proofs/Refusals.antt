-- The faults of policies are where they are refused.
use Rattle.std.proofs.Common.{◌≡◌, ◌⊎◌, inl, inr, ⊎_elim, List, [], ◌∷◌, ◌++◌, Contains, sym, subst}
use Rattle.cedar_ast.specs.PolicyTree.{PolicyTree}
use Rattle.cedar_schema_spec.specs.declared.environment.Environment.{Environment}
use Rattle.cedar_schema_spec.specs.SchemaTree.{SchemaTree, environments_of}
use Rattle.cedar_check_spec.specs.Acceptance.{IsAcceptedInWith}
use Rattle.cedar_check_spec.specs.Determined.{IsRefusal, FaultsAreRefusalsWith}
use Rattle.cedar_check_spec.specs.Reports.{FaultTree, fault_at, AreFaultsInWith, in_none, in_accepted, in_refused, AreFaultsWith, of_none, of_more}
use Rattle.base_reach.proofs.Listed.{here, there, first_or_later, nowhere, left_of, right_of}
use Rattle.cedar_check_spec.specs.declared.settings.Settings.{Settings}

from_append : (xs ys : List FaultTree) (f : FaultTree) → Contains (xs ++ ys) f → Contains xs f ⊎ Contains ys f
from_append [] ys f m = inr m
from_append (x ∷ xs) ys f m =
    ⊎_elim
    (λ e. inl (subst (λ (y : FaultTree). Contains (x ∷ xs) y) e (here x xs)))
    (λ r. ⊎_elim (λ l. inl (there x xs f l)) (λ l. inr l) (from_append xs ys f r))
    (first_or_later x (xs ++ ys) f m)

module _ (settings : Settings) (s : SchemaTree) where
  module _ (p : PolicyTree) where
    -- an environment of these in which the policy is refused, with this fault
    record IsIn (envs : List Environment) (f : FaultTree) : Type 0 where
      env : Environment
      listed : Contains envs env
      refused : ¬ IsAcceptedInWith settings s env p
      is : f ≡ fault_at p env

    further : (x : Environment) (envs : List Environment) (f : FaultTree) → IsIn envs f → IsIn (x ∷ envs) f
    further x envs f r = record { env = r.env; listed = there x envs r.env r.listed; refused = r.refused; is = r.is }

    is_in : {envs : List Environment} {faults : List FaultTree} → AreFaultsInWith settings s p envs faults → (f : FaultTree) → Contains faults f → IsIn envs f
    is_in in_none f m = absurd (nowhere f m)
    is_in (in_accepted {env = env} {envs = envs} h d) f m = further env envs f (is_in d f m)
    is_in (in_refused {env = env} {envs = envs} {faults = faults} n d) f m =
        ⊎_elim
        (λ e. record { env = env; listed = here env envs; refused = n; is = sym e })
        (λ r. further env envs f (is_in d f r))
        (first_or_later (fault_at p env) faults f m)

    in_is : {envs : List Environment} {faults : List FaultTree} → AreFaultsInWith settings s p envs faults → (env : Environment) → Contains envs env → ¬ IsAcceptedInWith settings s env p → Contains faults (fault_at p env)
    in_is in_none env m n = absurd (nowhere env m)
    in_is (in_accepted {env = x} {envs = envs} h d) env m n =
        ⊎_elim (λ e. absurd (n (subst (λ (y : Environment). IsAcceptedInWith settings s y p) e h))) (λ r. in_is d env r n) (first_or_later x envs env m)
    in_is (in_refused {env = x} {envs = envs} {faults = faults} k d) env m n =
        ⊎_elim
        (λ e. subst (λ (y : Environment). Contains (fault_at p x ∷ faults) (fault_at p y)) e (here (fault_at p x) faults))
        (λ r. there (fault_at p x) faults (fault_at p env) (in_is d env r n))
        (first_or_later x envs env m)

  of_first : (p : PolicyTree) (ps : List PolicyTree) (f : FaultTree) → IsIn p (environments_of s.actions) f → IsRefusal settings s (p ∷ ps) f
  of_first p ps f r = record { policy = p; environment = r.env; listed = here p ps; declared = r.listed; refused = r.refused; is = r.is }

  of_others : (p : PolicyTree) (ps : List PolicyTree) (f : FaultTree) → IsRefusal settings s ps f → IsRefusal settings s (p ∷ ps) f
  of_others p ps f r = record { policy = r.policy; environment = r.environment; listed = there p ps r.policy r.listed; declared = r.declared; refused = r.refused; is = r.is }

  is_refusal : {ps : List PolicyTree} {faults : List FaultTree} → AreFaultsWith settings s ps faults → (f : FaultTree) → Contains faults f → IsRefusal settings s ps f
  is_refusal of_none f m = absurd (nowhere f m)
  is_refusal (of_more {p = p} {ps = ps} {faults = faults} {more = more} d r) f m =
      ⊎_elim (λ l. of_first p ps f (is_in p d f l)) (λ l. of_others p ps f (is_refusal r f l)) (from_append faults more f m)

  refusal_is : {ps : List PolicyTree} {faults : List FaultTree} → AreFaultsWith settings s ps faults → (p : PolicyTree) (env : Environment) → Contains ps p → Contains (environments_of s.actions) env
      → ¬ IsAcceptedInWith settings s env p → Contains faults (fault_at p env)
  refusal_is of_none p env m i n = absurd (nowhere p m)
  refusal_is (of_more {p = x} {ps = ps} {faults = faults} {more = more} d r) p env m i n =
      ⊎_elim
      (λ e. left_of faults more (fault_at p env) (in_is p (subst (λ (y : PolicyTree). AreFaultsInWith settings s y (environments_of s.actions) faults) e d) env i n))
      (λ l. right_of faults more (fault_at p env) (refusal_is r p env l i n))
      (first_or_later x ps p m)

pub faults_are_refusals : (settings : Settings) → FaultsAreRefusalsWith settings
faults_are_refusals settings s ps faults d f = (
  is_refusal settings s d f,
  λ r. subst (λ (g : FaultTree). Contains faults g) (sym r.is) (refusal_is settings s d r.policy r.environment r.listed r.declared r.refused),
)
