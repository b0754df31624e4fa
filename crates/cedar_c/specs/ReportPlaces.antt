-- Places of a report, and the parts that lead from one to another.
use Rattle.std.specs.Prelude.{◌⊎◌, ℕ, ◌==◌, if◌then◌else◌, List, Option, None, Some}
use Rattle.cedar_ast.specs.PolicySetTree.{PolicySetTree}
use Rattle.cedar_schema_spec.specs.SchemaTree.{SchemaTree}
use Rattle.cedar_check_spec.specs.declared.settings.Settings.{Settings}
use Rattle.cedar_files.specs.ReportPart.{EndsReport, GoesOnReport, IsMisplaced}
use Rattle.cedar_files.specs.Roles.{Holdings}
use Rattle.cedar_files.specs.Validation.{Hold}
use Rattle.cedar_files.specs.declared.report_place.ReportPlace.{ReportPlace as Place}
use Rattle.cedar_c.specs.Validating.{IsRefusedIn}
use Rattle.cedar_c.specs.declared.report_place.ReportPlace.{ReportPlace}

-- The limit of lines that is given as a number: none where it is 2^64 - 1 (own).
abbrev pub limit_of : ℕ → Option ℕ
limit_of lines = if lines == 18446744073709551615 then None else Some lines

-- The place that C gives (own).
abbrev pub place_of : ReportPlace → Place
place_of place = record { policy = place.policy; faults = place.faults; warnings = place.warnings; lines = limit_of place.lines }

-- The files hold policies, the text is the part of the report on them that leads from one place to another, further one, and more
-- policies are left (own).
pub record HavePart (settings : Settings) (holds : Holdings) (from to : ReportPlace) (text : List ℕ) : Type 0 where
  pub schema : SchemaTree
  pub policies : PolicySetTree
  pub hold : Hold settings.language holds schema policies
  pub goes_on : GoesOnReport settings schema policies.policies (place_of from) (place_of to) text

-- The files hold policies, and the text is the last part of the report on them, which leads from one place to another, with the line of
-- totals (own).
pub record HaveLastPart (settings : Settings) (holds : Holdings) (from to : ReportPlace) (text : List ℕ) : Type 0 where
  pub schema : SchemaTree
  pub policies : PolicySetTree
  pub hold : Hold settings.language holds schema policies
  pub ends : EndsReport settings schema policies.policies (place_of from) (place_of to) text

-- The files hold policies, and no report on them has this place, or none that can go on from it (own).
pub record HaveNoPlace (settings : Settings) (holds : Holdings) (place : ReportPlace) : Type 0 where
  pub schema : SchemaTree
  pub policies : PolicySetTree
  pub hold : Hold settings.language holds schema policies
  pub misplaced : IsMisplaced settings schema policies.policies (place_of place)

-- The text is what a call is to give at this place: a part of the report, the last one too, or the line that refuses a file (own).
abbrev pub IsPartReported : Settings → Holdings → ReportPlace → List ℕ → Type 0
IsPartReported settings holds from text =
    ((to : ReportPlace) × HavePart settings holds from to text) ⊎ ((to : ReportPlace) × HaveLastPart settings holds from to text) ⊎ IsRefusedIn settings holds text
