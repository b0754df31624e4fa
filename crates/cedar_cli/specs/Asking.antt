-- What is decided of one request line, and how `ask` ends where nothing is.
use Rattle.std.specs.Prelude.{◌≡◌, ◌≢◌, ◌⊎◌, ℕ, List, Option}
use Rattle.base_lines.specs.AnswerText.{AnswersFirst, BeginsAnswers, IsAnswerText, Writes}
use Rattle.base_lines.specs.Lines.{lines_of}
use Rattle.cedar_value.specs.declared.request.Request.{Request}
use Rattle.cedar_ast.specs.Response.{response}
use Rattle.cedar_ast.specs.declared.decision.Decision.{Decision}
use Rattle.cedar_auth.specs.AnswerLine.{AnswersLine}
use Rattle.cedar_auth_spec.specs.Ready.{ReadyTree}
use Rattle.cedar_check_spec.specs.declared.settings.Settings.{Settings}
use Rattle.cedar_conform.specs.Requests.{LineDenotes, LineHasFault}
use Rattle.cedar_conform_values.specs.declared.conform_fault.ConformFault.{ConformFault}
use Rattle.cedar_conform_values.specs.declared.conform_fault.ConformFault.TheVariants.{OutOfMemory}
use Rattle.cedar_files.specs.Authorization.{HoldAll}
use Rattle.cedar_files.specs.Ends.{EndsUnready}
use Rattle.cedar_files.specs.Roles.{Holdings}
use Rattle.cedar_files.specs.declared.ending.End.{End}
use Rattle.cedar_files.specs.declared.ending.End.TheVariants.{Refused, Device, Memory}

-- The line denotes a request, of which the policies decide this (Cedar language reference, authorization).
abbrev pub DecidesLine : ReadyTree → List ℕ → Decision → Type 0
DecidesLine r line d = (q : Request) × LineDenotes r.schema line q × ((response r.policies.policies q r.world).decision ≡ d)

-- The line has a fault, and denotes no request. Out of memory is not a fault of a line (own).
pub record IsRefusedLine (r : ReadyTree) (line : List ℕ) : Type 0 where
  pub fault : ConformFault
  pub no_memory : fault ≢ OutOfMemory
  pub has : LineHasFault r.schema line fault
  pub no_request : (q : Request) → LineDenotes r.schema line q → ⊥

-- The files hold policies that are ready, which decide this of the line, and the answer line was written (own).
abbrev pub IsDecided : Settings → Holdings → List ℕ → Option (List ℕ) → Option (List ℕ) → Decision → Type 0
IsDecided settings holds line old new d =
    (r : ReadyTree) × HoldAll settings holds r × DecidesLine r line d × Writes old new (IsAnswerText (AnswersLine r) line)

-- How `ask` ends without a decision once something is ready, and what it has written by then: the answer line, which says why the
-- request line is refused; or the answer line or nothing, where memory runs out; or a beginning of it, where the sink failed, as the
-- type before the written bytes says (own).
abbrev pub EndsUndecided : ReadyTree → List ℕ → Type 0 → Option (List ℕ) → Option (List ℕ) → End → Type 0
EndsUndecided r line failed old new Refused = IsRefusedLine r line × Writes old new (IsAnswerText (AnswersLine r) line)
EndsUndecided r line failed old new Memory = Writes old new (AnswersFirst (AnswersLine r) (lines_of line))
EndsUndecided r line failed old new Device = failed × Writes old new (BeginsAnswers (AnswersLine r) (lines_of line))
EndsUndecided r line failed old new _ = ⊥

-- How `ask` ends without a decision: nothing is ready to answer, or what is ready decides nothing of the line (own).
abbrev pub IsUndecided : Settings → Holdings → List ℕ → Type 0 → Option (List ℕ) → Option (List ℕ) → End → Type 0
IsUndecided settings holds line failed old new end =
    EndsUnready settings holds failed old new end
    ⊎ ((r : ReadyTree) × HoldAll settings holds r × EndsUndecided r line failed old new end)
