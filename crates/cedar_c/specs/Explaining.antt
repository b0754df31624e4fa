-- The forms of an explanation.
use Rattle.std.specs.Prelude.{◌≡◌, ◌⊎◌, ℕ}
use Rattle.cedar_files_diagnostics.specs.declared.format.Format.{Format}
use Rattle.cedar_files_diagnostics.specs.declared.format.Format.TheVariants.{Human, Json}

-- The number is that of the form: 0 for words, 1 for lines of JSON (own).
abbrev pub IsFormat : ℕ → Format → Type 0
IsFormat n form = ((n ≡ 0) × (form ≡ Human)) ⊎ ((n ≡ 1) × (form ≡ Json))
