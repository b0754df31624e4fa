-- Which effect rules while the policies run one after another.
use Rattle.std.specs.Prelude.{ℕ, true, false, List, [], ◌∷◌, Option, Some, None, Ok, Err}
use Rattle.cedar_ast.specs.declared.effect.Effect.{Effect}
use Rattle.cedar_ast.specs.declared.effect.Effect.TheVariants.{Permit, Forbid}
use Rattle.cedar_ast.specs.declared.decision.Decision.{Decision}
use Rattle.cedar_ast.specs.declared.decision.Decision.TheVariants.{Allow, Deny}
use Rattle.cedar_machine.specs.Verdict.{Verdict}
use Rattle.cedar_auth.specs.Private.Tally.{TallyTree}

-- to forbid where some forbid is satisfied, else to permit where some permit is
abbrev pub ruling_by : List (List ℕ) → List (List ℕ) → Option Effect
ruling_by [] [] = None
ruling_by (permit ∷ permits) [] = Some Permit
ruling_by permits (forbid ∷ forbids) = Some Forbid

-- which effect rules after what was gathered
abbrev pub ruling_of : TallyTree → Option Effect
ruling_of t = ruling_by t.permits t.forbids

-- which effect rules after one more policy
abbrev pub ruled : Option Effect → Effect → Verdict → Option Effect
ruled (Some Forbid) effect v = Some Forbid
ruled (Some Permit) effect (Ok true) = Some effect
ruled (Some Permit) effect (Ok false) = Some Permit
ruled (Some Permit) effect (Err e) = Some Permit
ruled None effect (Ok true) = Some effect
ruled None effect (Ok false) = None
ruled None effect (Err e) = None

-- the decision, by the effect that rules
abbrev pub decision_by : Option Effect → Decision
decision_by None = Deny
decision_by (Some Permit) = Allow
decision_by (Some Forbid) = Deny
