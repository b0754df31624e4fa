-- How authorization ends, and what it has written by then, given what the files hold.
use Rattle.std.specs.Prelude.{◌⊎◌, ℕ, List, Option, IfSome}
use Rattle.cedar_check_spec.specs.declared.settings.Settings.{Settings}
use Rattle.base_lines.specs.AnswerText.{Answering, AnswersFirst, BeginsAnswers, IsAnswerText, Writes}
use Rattle.base_lines.specs.Lines.{lines_of}
use Rattle.cedar_auth.specs.AnswerLine.{AnswersLine}
use Rattle.cedar_auth.specs.AnswerLineWithEntities.{AnswersLineWithEntities}
use Rattle.cedar_auth_spec.specs.Ready.{ReadyTree}
use Rattle.cedar_files.specs.Authorization.{AreAnsweredSoundlyWithEntities, HoldAll}
use Rattle.cedar_files.specs.Ends.{EndsUnready}
use Rattle.cedar_files.specs.Roles.{Holdings}
use Rattle.cedar_files.specs.declared.ending.End.{End}
use Rattle.cedar_files.specs.declared.ending.End.TheVariants.{Done, Device, Memory}

-- How the program ends once something is ready, and what it has written by then, where the input is known: the answer text of the
-- input; whole answers to some first lines of it, where memory runs out; and a beginning of such answers where a device failed, as the
-- type before the written bytes says (own).
abbrev pub EndsAnswering : Answering → Option (List ℕ) → Type 0 → Option (List ℕ) → Option (List ℕ) → End → Type 0
EndsAnswering answers source failed old new Done = IfSome source (λ input. Writes old new (IsAnswerText answers input))
EndsAnswering answers source failed old new Memory = IfSome source (λ input. Writes old new (AnswersFirst answers (lines_of input)))
EndsAnswering answers source failed old new Device = failed × IfSome source (λ input. Writes old new (BeginsAnswers answers (lines_of input)))
EndsAnswering answers source failed old new _ = ⊥

-- How `authorize` ends, and what it has written by then: nothing is ready to answer; or the files hold policies that are, and the lines
-- of the source are answered by them. The types before the written bytes say that the source failed, and that the sink did (own).
abbrev pub Authorizes : Settings → Holdings → Option (List ℕ) → Type 0 → Type 0 → Option (List ℕ) → Option (List ℕ) → End → Type 0
Authorizes settings holds source unread unwritten old new end =
    EndsUnready settings holds unwritten old new end
    ⊎ ((r : ReadyTree) × HoldAll settings holds r × EndsAnswering (AnswersLine r) source (unread ⊎ unwritten) old new end)

-- The same for lines that may bring entities. Then, too, each request is answered soundly (own).
abbrev pub AuthorizesWithEntities : Settings → Holdings → Option (List ℕ) → Type 0 → Type 0 → Option (List ℕ) → Option (List ℕ) → End → Type 0
AuthorizesWithEntities settings holds source unread unwritten old new end =
    EndsUnready settings holds unwritten old new end
    ⊎ ((r : ReadyTree) × HoldAll settings holds r × AreAnsweredSoundlyWithEntities r
    × EndsAnswering (AnswersLineWithEntities r) source (unread ⊎ unwritten) old new end)
