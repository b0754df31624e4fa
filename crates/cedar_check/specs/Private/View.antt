-- What the checker's values denote.
use Rattle.std.specs.Prelude.{◌++◌, option_map, Option, Some, None}
use Rattle.cedar_schema_types.specs.Joining.{join}
use Rattle.cedar_schema_types.specs.declared.truth.Truth.{Truth}
use Rattle.cedar_check_spec.specs.Capabilities as spec
use Rattle.cedar_check_spec.specs.Rows.{Typed}
use Rattle.cedar_check_spec.specs.Private.Checking.{common}
use Rattle.cedar_check.specs.declared.form.Form.{Form}
use Rattle.cedar_check.specs.declared.form.Form.TheVariants as form

-- The first branch of an `if`, after a condition that gains these.
abbrev pub kept_branch : spec.Capabilities → Typed → Typed
kept_branch g t = record { ty = t.ty; gained = g ++ t.gained }

-- Both branches of an `if`, the first after a condition that gains these.
abbrev pub joined_branches : spec.Capabilities → Typed → Typed → Option Typed
joined_branches g t u = option_map (λ v. let x : Typed = record { ty = v; gained = common (g ++ t.gained) u.gained } in x) (join t.ty u.ty)

-- What is known of a condition, where its type is Boolean.
abbrev pub form_view : Form → Option Truth
form_view (form.Known f) = Some f
form_view (form.Refused r) = None
