-- Settings as bits.
use Rattle.std.specs.Prelude.{◌≡◌, ◌⊎◌, ℕ, true, false}
use Rattle.cedar_ext.specs.declared.language.Language.TheVariants.{Profile, Cedar4}
use Rattle.cedar_check_spec.specs.declared.settings.Settings.{Settings}

-- The bits are those of the settings: bit 0 is any_decimal, and bit 1 the language of Cedar 4. Other bits are not known to this version
-- (own).
abbrev pub AreSettings : ℕ → Settings → Type 0
AreSettings bits settings =
    ((bits ≡ 0) × (settings ≡ record { any_decimal = false; language = Profile }))
    ⊎ ((bits ≡ 1) × (settings ≡ record { any_decimal = true; language = Profile }))
    ⊎ ((bits ≡ 2) × (settings ≡ record { any_decimal = false; language = Cedar4 }))
    ⊎ ((bits ≡ 3) × (settings ≡ record { any_decimal = true; language = Cedar4 }))
