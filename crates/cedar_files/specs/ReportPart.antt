-- A part of a report: what is written of some policies that follow one another (own; Cedar documentation, policy validation).
use Rattle.std.specs.Prelude.{◌≡◌, ◌≤◌, ◌<◌, ◌⊎◌, ℕ, ◌+◌, ◌-◌, ◌^◌, Bool, true, false, List, [], ◌∷◌, ◌++◌, Option, None, Some, drop, length, take}
use Rattle.serde_json.specs.Written.{compact_text}
use Rattle.base_lines.specs.Lines.{line_feed}
use Rattle.cedar_ast.specs.PolicyTree.{PolicyTree}
use Rattle.cedar_schema_spec.specs.SchemaTree.{SchemaTree}
use Rattle.cedar_check_spec.specs.Reports.{FaultTree, AreFaultsWith, AreWarningsWith}
use Rattle.cedar_check_spec.specs.declared.settings.Settings.{Settings}
use Rattle.cedar_files.specs.ReportJson.{totals_data}
use Rattle.cedar_files.specs.ReportText.{ReportLine, AreReported, TellsEach}
use Rattle.cedar_files.specs.declared.report_parts.ReportPart.{ReportPart}
use Rattle.cedar_files.specs.declared.report_place.ReportPlace.{ReportPlace}

-- The place where a report begins, with this limit of lines (own).
abbrev pub beginning : Option ℕ → ReportPlace
beginning limit = record { policy = 0; faults = 0; warnings = 0; lines = limit }

-- The policies from one position up to another (own).
abbrev pub stretch : ℕ → ℕ → List PolicyTree → List PolicyTree
stretch from to ps = take (to - from) (drop from ps)

-- Of these lines those that may still be written: the first, as many as the limit says, or all of them where there is none (own).
abbrev pub within_limit : Option ℕ → List ReportLine → List ReportLine
within_limit None lines = lines
within_limit (Some limit) lines = take limit lines

-- How many lines may still be written after so many, of which those that were left out count too (own).
abbrev pub limit_after : Option ℕ → ℕ → Option ℕ
limit_after None count = None
limit_after (Some limit) count = Some (limit - count)

-- The text is the part of a report that leads from one place to another: the lines that are reported of the policies between them, as
-- many as may still be written. All faults and warnings of these policies are counted (own; Cedar documentation, policy validation).
pub record IsReportPart (settings : Settings) (s : SchemaTree) (ps : List PolicyTree) (from to : ReportPlace) (text : List ℕ) : Type 0 where
  pub lines : List ReportLine
  pub faults : List FaultTree
  pub warnings : List (List ℕ)
  pub forward : from.policy ≤ to.policy
  pub within : to.policy ≤ length ps
  pub reported : AreReported settings s (stretch from.policy to.policy ps) lines
  pub are_faults : AreFaultsWith settings s (stretch from.policy to.policy ps) faults
  pub are_warnings : AreWarningsWith settings s (stretch from.policy to.policy ps) warnings
  pub faults_are : to.faults ≡ from.faults + length faults
  pub warnings_are : to.warnings ≡ from.warnings + length warnings
  pub limit_is : to.lines ≡ limit_after from.lines (length lines)
  pub told : TellsEach (within_limit from.lines lines) text

-- The line of totals at a place, with its LF (own).
abbrev pub totals_text : ReportPlace → List ℕ
totals_text place = compact_text (totals_data place.faults place.warnings) ++ line_feed ∷ []

-- The text ends a report: it is the part that leads from one place to the place after the last policy, and then the line of totals (own).
pub record EndsReport (settings : Settings) (s : SchemaTree) (ps : List PolicyTree) (from to : ReportPlace) (text : List ℕ) : Type 0 where
  pub part : List ℕ
  pub is_part : IsReportPart settings s ps from to part
  pub none_left : to.policy ≡ length ps
  pub is_text : text ≡ part ++ totals_text to

-- The text is a part of a report that reports on one policy at least, and more policies are left (own).
pub record GoesOnReport (settings : Settings) (s : SchemaTree) (ps : List PolicyTree) (from to : ReportPlace) (text : List ℕ) : Type 0 where
  pub is_part : IsReportPart settings s ps from to text
  pub onward : from.policy < to.policy
  pub some_left : to.policy < length ps

-- This is the next part of a report after this place, which ends the report where it says so (own).
pub record IsNextPart (settings : Settings) (s : SchemaTree) (ps : List PolicyTree) (from : ReportPlace) (part : ReportPart) : Type 0 where
  pub ends : part.has_ended ≡ true → EndsReport settings s ps from part.place part.text.items
  pub goes_on : part.has_ended ≡ false → GoesOnReport settings s ps from part.place part.text.items

-- A report on these policies has no such place, or none that can go on: the place is after the last policy; or its number of faults or
-- of warnings, with those of the part that leads from there to another place, does not fit 64 bits (own).
abbrev pub IsMisplaced : Settings → SchemaTree → List PolicyTree → ReportPlace → Type 0
IsMisplaced settings s ps place =
    (length ps < place.policy)
    ⊎ ((to : ReportPlace) × (text : List ℕ) × IsReportPart settings s ps (record place { faults = 0; warnings = 0 }) to text
    × ((2 ^ 64 ≤ place.faults + to.faults) ⊎ (2 ^ 64 ≤ place.warnings + to.warnings)))
