-- What is promised where the files hold nothing that can answer, or policies that cannot be reported on.
use Rattle.std.specs.Prelude.{◌≡◌, ◌⊎◌, None, IfSome}
use Rattle.cedar_ext.specs.declared.language.Language.{Language}
use Rattle.cedar_check_spec.specs.declared.settings.Settings.{Settings}
use Rattle.cedar_files.specs.Authorization.{IsFirstRefused}
use Rattle.cedar_files.specs.Faulty.{AreFaulty}
use Rattle.cedar_files.specs.Roles.{Holdings}
use Rattle.cedar_files.specs.Validation.{IsRefused}
use Rattle.cedar_files.specs.declared.files.Role.TheVariants.{Schema, Policies, Links, Entities}
use Rattle.cedar_files.specs.declared.unprepared.Unprepared.{Unprepared}
use Rattle.cedar_files.specs.declared.unprepared.Unprepared.TheVariants.{Refused, Faults, Unnamed, Device, Memory}

-- This is why the files hold no policies that are ready under these settings: the file that is judged first among those that are
-- refused, with its refusal; or policies with faults; or a file that is needed and not named; or a file that the device failed
-- to read. Nothing is said where memory ran out (own).
abbrev pub IsUnprepared : Settings → Holdings → Unprepared → Type 0
IsUnprepared settings holds (Refused role refusal) = IsFirstRefused settings holds role refusal
IsUnprepared settings holds (Faults refused) = AreFaulty settings holds refused
IsUnprepared settings holds Unnamed =
    IfSome (holds Schema) (λ held. held ≡ None) ⊎ IfSome (holds Policies) (λ held. held ≡ None) ⊎ IfSome (holds Entities) (λ held. held ≡ None)
IsUnprepared settings holds Device = (holds Schema ≡ None) ⊎ (holds Policies ≡ None) ⊎ (holds Links ≡ None) ⊎ (holds Entities ≡ None)
IsUnprepared settings holds Memory = Unit {0}

-- This is why the files hold no policies that can be reported on: as above, but never for faults, and the entities are not
-- read (own).
abbrev pub IsUnreported : Language → Holdings → Unprepared → Type 0
IsUnreported language holds (Refused role refusal) = IsRefused language holds role refusal
IsUnreported language holds (Faults refused) = ⊥
IsUnreported language holds Unnamed = IfSome (holds Schema) (λ held. held ≡ None) ⊎ IfSome (holds Policies) (λ held. held ≡ None)
IsUnreported language holds Device = (holds Schema ≡ None) ⊎ (holds Policies ≡ None) ⊎ (holds Links ≡ None)
IsUnreported language holds Memory = Unit {0}
