-- What has been written where the program breaks off, because memory runs out or a device fails.
use Rattle.std.specs.Prelude.{◌≡◌, ℕ, List, [], ◌∷◌, ◌++◌}
use Rattle.serde_json.specs.Written.{compact_text}
use Rattle.base_lines.specs.Lines.{line_feed}
use Rattle.cedar_files.specs.Refusal.{refusal_of}
use Rattle.cedar_files.specs.declared.files.Role.{Role}
use Rattle.cedar_files.specs.declared.refusal.FileRefusal.{FileRefusal}

-- The text is the line that refuses the file (own).
abbrev pub IsRefusalLine : Role → FileRefusal → List ℕ → Type 0
IsRefusalLine role refusal text = text ≡ compact_text (refusal_of role refusal.offset refusal.number) ++ line_feed ∷ []

-- The text is a beginning of the line that refuses the file (own).
abbrev pub BeginsRefusal : Role → FileRefusal → List ℕ → Type 0
BeginsRefusal role refusal text = (more : List ℕ) × IsRefusalLine role refusal (text ++ more)
