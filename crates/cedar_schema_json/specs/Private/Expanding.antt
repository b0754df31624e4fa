-- A form expanded, with fewer names followed than there are common types.
use Rattle.std.specs.Prelude.{ℕ}
use Rattle.cedar_schema_json.specs.Forms.{FormTree}
use Rattle.cedar_schema_json.specs.Expansion.{Table, Expanded, form_type, form_faults, common_type, cycle_faults}

-- with at most n names followed in a chain
abbrev pub expanded : Table → ℕ → FormTree → Expanded
expanded t n f = record { ty = form_type (common_type t n) f; faults = form_faults (cycle_faults t n) f }
