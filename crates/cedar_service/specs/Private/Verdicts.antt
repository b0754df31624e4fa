-- What the end of a policy's run means.
use Rattle.std.specs.Prelude.{ℕ, true, false, List, [], ◌∷◌, ◌++◌, Option, Some, None, Ok, Err}
use Rattle.cedar_ast.specs.declared.effect.Effect.{Effect}
use Rattle.cedar_ast.specs.Response.{is_true}
use Rattle.cedar_code.specs.declared.outcome.Outcome.{Outcome}
use Rattle.cedar_code.specs.declared.outcome.Outcome.TheVariants.{Value, Error, StackFault}
use Rattle.cedar_code.specs.Machine.{Configuration, going, ended}
use Rattle.cedar_machine.specs.Verdict.{Verdict}
use Rattle.cedar_service_law.specs.Results.{Results, satisfied}

abbrev pub verdict_of : Outcome → Verdict
verdict_of (Value v) = Ok (is_true (Ok v))
verdict_of (Error e) = Err e
verdict_of StackFault = Ok false

-- where the run ended, and nothing before
abbrev pub verdict_at : Configuration → Option Verdict
verdict_at (going place stack) = None
verdict_at (ended o) = Some (verdict_of o)

abbrev pub with_verdict : Results → List ℕ → Effect → Verdict → Results
with_verdict r id effect (Ok true) = satisfied r id effect
with_verdict r id effect (Ok false) = r
with_verdict r id effect (Err e) = record r { erring = r.erring ++ (record { id = id; error = e }) ∷ [] }
