-- Tests of what is known of the type of an expression.
use Rattle.std.specs.Prelude.{Bool, true, false, Option, Some, None}
use Rattle.cedar_schema_types.specs.declared.truth.Truth.{Truth}
use Rattle.cedar_schema_types.specs.declared.truth.Truth.TheVariants.{True, False, Any}

-- Whether it is a Boolean that is not known to be false.
abbrev pub may_hold : Option Truth → Bool
may_hold (Some True) = true
may_hold (Some Any) = true
may_hold (Some False) = false
may_hold None = false

-- Whether it is a Boolean that is not known to be true.
abbrev pub may_fail : Option Truth → Bool
may_fail (Some False) = true
may_fail (Some Any) = true
may_fail (Some True) = false
may_fail None = false
