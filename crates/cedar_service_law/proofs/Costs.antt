-- How many steps runs take.
use Rattle.std.proofs.Common.{◌≡◌, ℕ, ◌+◌, ◌≤◌, List, ◌∷◌, ◌++◌, length, arith, length-append}
use Rattle.std.proofs.lemmas.List.Sums.{sum_by-cons, sum_by-append}
use Rattle.cedar_value.specs.World.{World}
use Rattle.cedar_value.specs.declared.request.Request.{Request}
use Rattle.cedar_ast_expressions.specs.Expression.{Expression}
use Rattle.cedar_ast.specs.PolicyTree.{PolicyTree}
use Rattle.cedar_ast.specs.Condition.{condition_of}
use Rattle.cedar_ast.specs.Response.{meaning}
use Rattle.cedar_code.specs.declared.outcome.Outcome.{Outcome}
use Rattle.cedar_code.specs.Machine.{Configuration, ended, start, Steps, outcome_of, RunsAsEvaluated}
use Rattle.cedar_auth_spec.specs.Codes.{policy_code}
use Rattle.cedar_service_law.proofs.OneEnd.{within_end, one_end}
use Rattle.cedar_service_law.specs.Jobs.{most_steps, IsPartToRun, none_to_run, runs, leaves_out}

-- the law of compiled code
abbrev pub EachRuns : Type 0
EachRuns = (e : Expression) (q : Request) (w : World) → RunsAsEvaluated e q w

-- a policy's run has taken no more steps than its code has instructions
pub run_short : EachRuns → (q : Request) (w : World) (p : PolicyTree) (n : ℕ) (c : Configuration) → Steps (policy_code p) q w n start c → n ≤ length (policy_code p)
run_short law q w p n c s = let run = law (condition_of p) q w in within_end (policy_code p) q w n run.count start c (outcome_of (meaning q w p)) (length (policy_code p)) run.executes run.few s

-- and where it has ended, it ended as the policy's condition evaluates
pub run_ends : EachRuns → (q : Request) (w : World) (p : PolicyTree) (n : ℕ) (o : Outcome) → Steps (policy_code p) q w n start (ended o) → o ≡ outcome_of (meaning q w p)
run_ends law q w p n o s = let run = law (condition_of p) q w in one_end (policy_code p) q w n run.count start o (outcome_of (meaning q w p)) run.executes s

code_length : PolicyTree → ℕ
code_length p = length (policy_code p)

pub most_steps-cons : (p : PolicyTree) (ps : List PolicyTree) → most_steps (p ∷ ps) ≡ length (policy_code p) + 1 + most_steps ps
most_steps-cons p ps = omega (arith, sum_by-cons (λ (p : PolicyTree). length (policy_code p)) p ps)

pub most_steps-append : (ps qs : List PolicyTree) → most_steps (ps ++ qs) ≡ most_steps ps + most_steps qs
most_steps-append ps qs = omega (arith, sum_by-append (λ (p : PolicyTree). length (policy_code p)) ps qs, length-append ps qs)

pub most_steps_of_part : (q : Request) (w : World) (part all : List PolicyTree) → IsPartToRun q w part all → most_steps part ≤ most_steps all
most_steps_of_part q w part all none_to_run = omega arith
most_steps_of_part q w part all (runs p ps qs h) = omega (arith, most_steps_of_part q w ps qs h, most_steps-cons p ps, most_steps-cons p qs)
most_steps_of_part q w part all (leaves_out p ps qs e h) = omega (arith, most_steps_of_part q w ps qs h, most_steps-cons p qs)
