-- How the program ends, and what it has written by then, given what the files hold.
use Rattle.std.specs.Prelude.{◌≡◌, ◌⊎◌, ℕ, List, [], Option, None, IfSome}
use Rattle.std.specs.Io.KnownBytes.{Keeps}
use Rattle.cedar_ast.specs.PolicySetTree.{PolicySetTree}
use Rattle.cedar_schema_spec.specs.SchemaTree.{SchemaTree}
use Rattle.cedar_check_spec.specs.Reports.{AreFaultsWith}
use Rattle.cedar_check_spec.specs.declared.settings.Settings.{Settings}
use Rattle.base_lines.specs.AnswerText.{Writes}
use Rattle.cedar_files.specs.Authorization.{IsFirstRefused}
use Rattle.cedar_files.specs.ReportText.{IsReportText}
use Rattle.cedar_files.specs.Roles.{Holdings}
use Rattle.cedar_files.specs.Standing.{BeginsRefusal, IsRefusalLine}
use Rattle.cedar_files.specs.Validation.{BeginsReport, Hold, IsRefused}
use Rattle.cedar_files.specs.declared.ending.End.{End}
use Rattle.cedar_files.specs.declared.ending.End.TheVariants.{Done, Refused, Faults, CommandLine, Device, Memory}
use Rattle.cedar_files.specs.declared.files.Role.{Role}
use Rattle.cedar_files.specs.declared.files.Role.TheVariants.{Schema, Policies, Links, Entities}
use Rattle.cedar_files.specs.declared.refusal.FileRefusal.{FileRefusal}

-- The command line names no such file, where it is known whether it does (own).
abbrev pub IsUnnamed : Option (Option (List ℕ)) → Type 0
IsUnnamed held = IfSome held (λ file. file ≡ None)

-- The files hold policies with faults under these settings, and the report on them was written (Cedar documentation, policy
-- validation).
abbrev pub ReportsFaults : Settings → Holdings → Option (List ℕ) → Option (List ℕ) → Type 0
ReportsFaults settings holds old new =
    (s : SchemaTree) × (set : PolicySetTree) × Hold settings.language holds s set × ¬ AreFaultsWith settings s set.policies [] × Writes old new (IsReportText settings s set.policies)

-- A beginning of the report on what the files hold was written (own).
abbrev pub BeginsReporting : Settings → Holdings → Option (List ℕ) → Option (List ℕ) → Type 0
BeginsReporting settings holds old new = (s : SchemaTree) × (set : PolicySetTree) × Hold settings.language holds s set × Writes old new (BeginsReport settings s set.policies)

-- How `validate` ends under these settings, and what it has written by then: the report on policies, which have no faults or have
-- some; or the line of a refused file. Nothing is written where a file that is needed is not named. Where memory runs out, it is
-- nothing, or a beginning of the report. Where a file cannot be read, or the sink failed, as the type before the written bytes says, it
-- is a beginning of these, or nothing (own).
abbrev pub Validates : Settings → Holdings → Type 0 → Option (List ℕ) → Option (List ℕ) → End → Type 0
Validates settings holds failed old new Done =
    (s : SchemaTree) × (set : PolicySetTree) × Hold settings.language holds s set × AreFaultsWith settings s set.policies [] × Writes old new (IsReportText settings s set.policies)
Validates settings holds failed old new Faults = ReportsFaults settings holds old new
Validates settings holds failed old new Refused = (role : Role) × (refusal : FileRefusal) × IsRefused settings.language holds role refusal × Writes old new (IsRefusalLine role refusal)
Validates settings holds failed old new CommandLine = (IsUnnamed (holds Schema) ⊎ IsUnnamed (holds Policies)) × Keeps old new
Validates settings holds failed old new Device = (((holds Schema ≡ None) ⊎ (holds Policies ≡ None) ⊎ (holds Links ≡ None)) ⊎ failed)
    × (Keeps old new
    ⊎ BeginsReporting settings holds old new
    ⊎ ((role : Role) × (refusal : FileRefusal) × IsRefused settings.language holds role refusal × Writes old new (BeginsRefusal role refusal)))
Validates settings holds failed old new Memory = Keeps old new ⊎ BeginsReporting settings holds old new

-- How the program ends where it reads all files and nothing is ready to answer, and what it has written by then: the report on
-- policies with faults; or the line of the file that is judged first among those that are refused. Nothing is written where a file
-- that is needed is not named, or memory runs out. Where a file cannot be read, or the sink failed, as the type before the written
-- bytes says, it is a beginning of these, or nothing (own).
abbrev pub EndsUnready : Settings → Holdings → Type 0 → Option (List ℕ) → Option (List ℕ) → End → Type 0
EndsUnready settings holds failed old new Done = ⊥
EndsUnready settings holds failed old new Faults = ReportsFaults settings holds old new
EndsUnready settings holds failed old new Refused =
    (role : Role) × (refusal : FileRefusal) × IsFirstRefused settings holds role refusal × Writes old new (IsRefusalLine role refusal)
EndsUnready settings holds failed old new CommandLine = (IsUnnamed (holds Schema) ⊎ IsUnnamed (holds Policies) ⊎ IsUnnamed (holds Entities)) × Keeps old new
EndsUnready settings holds failed old new Device = (((holds Schema ≡ None) ⊎ (holds Policies ≡ None) ⊎ (holds Links ≡ None) ⊎ (holds Entities ≡ None)) ⊎ failed)
    × (Keeps old new
    ⊎ BeginsReporting settings holds old new
    ⊎ ((role : Role) × (refusal : FileRefusal) × IsFirstRefused settings holds role refusal × Writes old new (BeginsRefusal role refusal)))
EndsUnready settings holds failed old new Memory = Keeps old new
