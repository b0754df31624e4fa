-- Which language a service reads, and which choices beyond strict validation it has taken (own).
use Rattle.std.specs.Prelude.{false}
use Rattle.cedar_ext.specs.declared.language.Language.TheVariants.{Profile}
use Rattle.cedar_check_spec.specs.declared.settings.Settings.{Settings}

-- The profile, and no choice: strict validation as it is documented (Cedar documentation, strict validation).
abbrev pub default_settings : Settings
default_settings = record { any_decimal = false; language = Profile }
