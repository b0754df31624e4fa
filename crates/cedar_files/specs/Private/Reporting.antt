-- How a report is written in parts.
use Rattle.std.specs.Prelude.{◌≡◌, ℕ, List, ◌++◌, Option, None}
use Rattle.std.specs.Io.KnownBytes.{Appends}
use Rattle.base_lines.specs.AnswerText.{Writes}
use Rattle.cedar_ast.specs.PolicyTree.{PolicyTree}
use Rattle.cedar_schema_spec.specs.SchemaTree.{SchemaTree}
use Rattle.cedar_check_spec.specs.declared.settings.Settings.{Settings}
use Rattle.cedar_files.specs.ReportPart.{IsReportPart, beginning, within_limit}
use Rattle.cedar_files.specs.ReportText.{ReportLine}
use Rattle.cedar_files.specs.Validation.{BeginsReport}
use Rattle.cedar_files.specs.Private.Telling.{AppendsLines}
use Rattle.cedar_files.specs.declared.ending.End.{End}
use Rattle.cedar_files.specs.declared.ending.End.TheVariants.{Device, Memory}
use Rattle.cedar_files.specs.declared.report_place.ReportPlace.{ReportPlace}

-- of these lines, those that may still be written were appended to the old text
abbrev pub AppendsWithin : Option ℕ → List ReportLine → List ℕ → List ℕ → Type 0
AppendsWithin limit lines old new = AppendsLines (within_limit limit lines) old new

-- a part of a report was appended to the old text
abbrev pub AppendsPart : Settings → SchemaTree → List PolicyTree → ReportPlace → ReportPlace → List ℕ → List ℕ → Type 0
AppendsPart settings s ps from to old new = (told : List ℕ) × IsReportPart settings s ps from to told × (new ≡ old ++ told)

-- the report was written up to this place and sent, but for what waits
abbrev pub IsSentTo : Settings → SchemaTree → List PolicyTree → ReportPlace → Option (List ℕ) → Option (List ℕ) → List ℕ → Type 0
IsSentTo settings s ps place old new waits = (sent : List ℕ) × Appends old new sent × IsReportPart settings s ps (beginning None) place (sent ++ waits)

-- how a report breaks off, and what was written by then
abbrev pub BreaksOff : Settings → SchemaTree → List PolicyTree → Type 0 → Option (List ℕ) → Option (List ℕ) → End → Type 0
BreaksOff settings s ps failed old new Device = failed × Writes old new (BeginsReport settings s ps)
BreaksOff settings s ps failed old new Memory = Writes old new (BeginsReport settings s ps)
BreaksOff settings s ps failed old new _ = ⊥
